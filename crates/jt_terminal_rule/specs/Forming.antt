-- How fixes that wait are made a unit (this project's own). To be believed.
use Rattle.std.specs.Prelude.{ℕ, ◌+◌, nat_le, if◌then◌else◌, List, [], ◌∷◌, ◌++◌, length, take, Option, None, Some}
use Rattle.std.specs.List.{flat_map}
use Rattle.std.specs.Int.{w8, w16, to_be_bytes}
use Rattle.jt_value.specs.declared.limits.TheConstants.{BODY_LIMIT}
use Rattle.jt_value.specs.declared.ids.TheConstants.{BATCH, POSITION}
use Rattle.jt_store.specs.declared.unit.Unit.{Unit as OneUnit}

-- a fix as a batch carries it, behind its length
abbrev pub in_batch : List ℕ → List ℕ
in_batch fix = to_be_bytes w16 (length fix) ++ fix

-- the body of a 0x0704 of kind 1 with these fixes
abbrev pub batch_of : List (List ℕ) → List ℕ
batch_of fixes = to_be_bytes w16 (length fixes) ++ (to_be_bytes w8 1 ++ flat_map in_batch fixes)

-- how many fixes, from the first on, go behind so many octets of a body
abbrev pub fitting_behind : ℕ → List (List ℕ) → ℕ
fitting_behind used [] = 0
fitting_behind used (fix ∷ more) = if nat_le (used + (2 + length fix)) BODY_LIMIT then 1 + fitting_behind (used + (2 + length fix)) more else 0

-- how many fixes, from the first on, one 0x0704 may carry; its count and its kind are three octets
abbrev pub fitting : List (List ℕ) → ℕ
fitting fixes = fitting_behind 3 fixes

abbrev pub batch_unit : ℕ → List (List ℕ) → ℕ → OneUnit
batch_unit serial fixes count = record { serial = serial; id = BATCH; body = batch_of (take count fixes); count = count }

abbrev pub position_unit : ℕ → List ℕ → OneUnit
position_unit serial fix = record { serial = serial; id = POSITION; body = fix; count = 1 }

-- the unit of this serial that is formed of fixes that wait, the first of which is named: a 0x0704 of as many as it may carry, or a
-- 0x0200 where these are fewer than two
abbrev pub unit_of : ℕ → List ℕ → List (List ℕ) → OneUnit
unit_of serial fix fixes = if nat_le 2 (fitting fixes) then batch_unit serial fixes (fitting fixes) else position_unit serial fix

-- the unit that is formed of the fixes that wait, if there are any
abbrev pub unit_from : ℕ → List (List ℕ) → Option OneUnit
unit_from serial [] = None
unit_from serial (fix ∷ more) = Some (unit_of serial fix (fix ∷ more))
