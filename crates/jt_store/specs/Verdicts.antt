-- The serial verdict over the rows of a phone, and the numbers of a terminal's units (this project's own). To be believed.
use Rattle.std.specs.Prelude.{ℕ, ◌≡◌, ◌<◌, ◌≤◌, ◌+◌, ◌-◌, List, [], ◌∷◌, Option, None, Some, if◌then◌else◌}
use Rattle.jt_value.specs.declared.limits.TheConstants.{UNIT_WINDOW}
use Rattle.jt_value.specs.Sameness.{same_key}
use Rattle.jt_value.specs.Serials.{IsVerdict, Verdict, New, Repeat, next_with, serial_of}
use Rattle.jt_store.specs.declared.row.Registered.{Registered}
use Rattle.jt_store.specs.declared.row.Row.{Row}
use Rattle.jt_store.specs.declared.unit.Unit.{Unit as OneUnit}
use Rattle.jt_store.specs.Tables.{IsRow, Rises, Tables, last_of}

-- a row with this number, id and body
abbrev pub row_of : ℕ → ℕ → List ℕ → Row
row_of number id body = record { number = number; id = id; body = body }

-- the verdict on a unit over the rows of its phone
abbrev pub IsVerdictOn : List Row → ℕ → ℕ → List ℕ → Verdict → Type 0
IsVerdictOn rows serial id body v = IsVerdict (last_of rows) (λ n. IsRow rows (row_of n id body)) serial v

-- the number of a unit behind the last one: the least number above it with the unit's serial
abbrev pub number_after : Option ℕ → ℕ → ℕ
number_after None serial = serial
number_after (Some last) serial = next_with last serial

-- the units of a terminal, each under its number
abbrev pub numbered : Option ℕ → List OneUnit → List Row
numbered last [] = []
numbered last (u ∷ units) = row_of (number_after last u.serial) u.id u.body ∷ numbered (Some (number_after last u.serial)) units

-- what a keeper has for one phone
pub record Shelf : Type 0 where
  pub registered : Option Registered
  pub rows : List Row

-- the tables of a keeper that has something for one phone alone
abbrev pub alone : List ℕ → Shelf → Tables
alone key shelf = record { registered = λ q. if same_key key q then shelf.registered else None; rows = λ q. if same_key key q then shelf.rows else [] }

-- What every verdict near the last row is.
pub record VerdictsNear : Type 0 where
  -- without rows a unit is new under its serial
  pub first : (serial id : ℕ) (body : List ℕ) (v : Verdict) → IsVerdictOn [] serial id body v → v ≡ New serial
  -- a number at most 32,766 above the last row's is new
  pub new : (rows : List Row) (last n id : ℕ) (body : List ℕ) (v : Verdict) → last_of rows ≡ Some last → last < n → n ≤ last + UNIT_WINDOW → IsVerdictOn rows (serial_of n) id body v → v ≡ New n
  -- a row at most 32,765 below the last one is repeated by a unit with its id and body
  pub again : (rows : List Row) (last n id : ℕ) (body : List ℕ) (v : Verdict) → last_of rows ≡ Some last → n ≤ last → last ≤ n + (UNIT_WINDOW - 1) → IsRow rows (row_of n id body) → IsVerdictOn rows (serial_of n) id body v → v ≡ Repeat n
  -- the units of a terminal have numbers that rise
  pub rise : (units : List OneUnit) (last : ℕ) → Rises (last + 1) (numbered (Some last) units)
