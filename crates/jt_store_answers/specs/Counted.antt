-- What a vault that tells nothing looks at in a unit (this project's own). To be believed.
use Rattle.std.specs.Prelude.{ℕ, ◌≡◌, ◌+◌, ◌*◌, ◌≤◌, ◌==◌, if◌then◌else◌, List, All, Option, None, Some, IfSome, length, slice_get}
use Rattle.jt_value.specs.declared.ids.TheConstants.{BATCH}
use Rattle.jt_value.specs.declared.limits.TheConstants.{CODE_LIMIT, UNIT_WINDOW}
use Rattle.jt_value.specs.Serials.{gap_of}
use Rattle.jt_store.specs.declared.unit.Unit.{Unit as OneUnit}
use Rattle.jt_store.specs.Vaults.{AreInOrder, IsUnit}

-- the number in two octets, and 0 where one is missing
abbrev pub number_in : Option ℕ → Option ℕ → ℕ
number_in (Some high) (Some low) = high * 256 + low
number_in (Some high) None = 0
number_in None low = 0

-- how many fixes a message says that it carries: a batch says it in its first two octets, any other is one
abbrev pub said : OneUnit → ℕ
said u = if u.id == BATCH then number_in (slice_get u.body 0) (slice_get u.body 1) else 1

-- a unit that counts as many fixes as its body says
abbrev pub IsCounted : OneUnit → Type 0
IsCounted u = IsUnit u × (u.count ≡ said u)

-- next is at this gap or behind it, near enough to the mark, and the code is short
abbrev pub IsBehind : ℕ → ℕ → ℕ → Option (List ℕ) → Type 0
IsBehind mark low next code = (low ≤ gap_of mark next) × (gap_of mark next ≤ UNIT_WINDOW + 1) × IfSome code (λ octets. length octets ≤ CODE_LIMIT)

-- units in order, each of which counts as many fixes as its body says
abbrev pub AreCounted : ℕ → ℕ → List OneUnit → Option (List ℕ) → Type 0
AreCounted mark next units code = AreInOrder mark next units code × All (λ u. u.count ≡ said u) units
