-- What contracts see of a clock in memory. To be believed.
use Rattle.std.specs.Prelude.{◌≡◌, ℕ, ◌≤◌, List, [], ◌∷◌, Some}
use Rattle.jt_outside.specs.Time.{Time}

-- moments that never fall, from a first one on
abbrev pub RiseFrom : ℕ → List ℕ → Type 0
RiseFrom low [] = Unit {0}
RiseFrom low (moment ∷ moments) = (low ≤ moment) × RiseFrom moment moments
