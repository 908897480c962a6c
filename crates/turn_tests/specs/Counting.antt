-- Which answers a desk gives that counts its asks. To be believed.
use Rattle.std.specs.Prelude.{◌≡◌, ◌≤◌, ◌+◌, ◌-◌, ◌^◌, ℕ, List, length, min, Option, Some, None}

-- the first number and as many as asks were counted, with the count of faults as it was; or none, and the count rose, where it
-- was not at its end
abbrev pub Counted : {E : Type 0} → ℕ → List E → ℕ → ℕ → Option ℕ → Type 0
Counted from found before after (Some n) = (n ≡ from + length found) × (after ≡ before)
Counted from found before after None = min (before + 1) (2 ^ 64 - 1) ≤ after
