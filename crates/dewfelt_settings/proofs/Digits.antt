-- Texts of twenty digits.
use Rattle.std.proofs.Common.{◌≡◌, ◌≤◌, ◌-◌, ◌+◌, ℕ, zero, suc, Bool, true, false, List, ◌∷◌, ◌++◌, length, replicate, arith, refl, ap, length-append}
use Rattle.std.specs.Prelude.{◌&&◌}
use Rattle.std.proofs.lemmas.List.{length-replicate}
use Rattle.dewfelt_settings.specs.Phones.{are_digits, filled, is_digit}

zeros_before : (n : ℕ) (text : List ℕ) → are_digits (replicate n 48 ++ text) ≡ are_digits text
zeros_before zero text = refl
zeros_before (suc n) text = zeros_before n text

-- zeros before a text are digits
pub are_filled : (text : List ℕ) → are_digits (filled text) ≡ are_digits text
are_filled text = zeros_before (20 - length text) text

-- with them it has twenty octets
pub length_filled : (text : List ℕ) → length text ≤ 20 → length (filled text) ≡ 20
length_filled text within =
    let zeros : List ℕ = replicate (20 - length text) 48 in
    let both : length (filled text) ≡ length {A = ℕ} (replicate (20 - length text) 48) + length text = length-append zeros text in
    let long : length {A = ℕ} (replicate (20 - length text) 48) ≡ 20 - length text = length-replicate {A = ℕ} (20 - length text) 48 in
    omega (arith, both, long, within)

-- two digits more
pub two_more : (first second : ℕ) (others : List ℕ) (b : Bool) → (is_digit first && is_digit second) ≡ b → are_digits (first ∷ second ∷ others) ≡ (b && are_digits others)
two_more first second others b is = by_case (is_digit first) (is_digit second) b is
  where
    by_case : (f s b : Bool) → (f && s) ≡ b → (f && (s && are_digits others)) ≡ (b && are_digits others)
    by_case true s b is = ap (λ x. x && are_digits others) is
    by_case false s b is = ap (λ x. x && are_digits others) is
