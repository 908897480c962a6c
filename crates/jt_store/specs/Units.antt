-- The units of a terminal over the fixes that it recorded, as plain lists: the base of every world in which units are formed, sent and
-- stored (this project's own). To be believed.
use Rattle.std.specs.Prelude.{ℕ, zero, suc, ◌≢◌, ◌+◌, ◌<◌, ◌≤◌, List, [], ◌++◌, length, map, slice_get, All, Option, None, Some}
use mathlib.Core.List.{IsPrefix}
use Rattle.jt_value.specs.declared.limits.TheConstants.{BODY_LIMIT, UNIT_WINDOW}
use Rattle.jt_position.specs.Fixes.{fixes, fixes_of}
use Rattle.jt_store.specs.declared.row.Row.{Row}

-- id and body, which tell the fixes of a unit or a row
abbrev pub carried : Row → ℕ × List ℕ
carried row = (row.id, row.body)

-- the fixes in these units or rows, in order
abbrev pub fixes_in : List Row → List (List ℕ)
fixes_in rows = fixes (map carried rows)

-- one past the number of this unit, 0 without one
abbrev pub past : Option Row → ℕ
past None = 0
past (Some unit) = unit.number + 1

-- one past the number of the last of so many accepted units, 0 without one
abbrev pub past_accepted : List Row → ℕ → ℕ
past_accepted units zero = 0
past_accepted units (suc last) = past (slice_get units last)

-- A unit that may be formed behind these, of which so many are accepted, over these fixes recorded. Its number is above those of all units
-- and of the last accepted one, and at most 32,766 above the latter. Its body fits one packet and has the next fixes, one or more.
pub record MayForm (units : List Row) (accepted : ℕ) (recorded : List (List ℕ)) (unit : Row) : Type 0 where
  pub above : All (λ (older : Row). older.number < unit.number) units
  pub after_accepted : past_accepted units accepted ≤ unit.number
  pub near : unit.number < past_accepted units accepted + UNIT_WINDOW
  pub short : length unit.body ≤ BODY_LIMIT
  pub some : fixes_of (carried unit) ≢ []
  pub next : IsPrefix (fixes_in units ++ fixes_of (carried unit)) recorded
