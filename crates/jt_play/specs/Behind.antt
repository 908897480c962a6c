-- Fixes behind so many. For the proofs.
use Rattle.std.specs.Prelude.{ℕ, ◌-◌, ◌≤◌, List, ◌++◌, drop, length}
use Rattle.std.specs.List.{AllByRecursion}
use Rattle.jt_position.specs.Fixes.{fix_limit, fixes_of}
use Rattle.jt_store.specs.Units.{carried}
use Rattle.jt_store.specs.declared.row.Row.{Row}
use Rattle.jt_play.specs.declared.behind.Behind.{Behind}

-- what was taken once these fixes went by: those behind as many as were still to be passed over
abbrev pub went_by : Behind → List (List ℕ) → Behind
went_by b fixes = record { left = b.left - length fixes; fixes = b.fixes ++ drop b.left fixes }

-- short enough for one packet
abbrev pub IsShort : List ℕ → Type 0
IsShort fix = length fix ≤ fix_limit

-- and so is each fix of a row
abbrev pub HasShortFixes : Row → Type 0
HasShortFixes row = AllByRecursion IsShort (fixes_of (carried row))
