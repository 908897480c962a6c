-- What a mark changes, by words and bits.
use Rattle.std.proofs.Common.{◌≡◌, ◌≢◌, ℕ, ◌/◌, ◌%◌, ◌*◌, ◌^◌, ◌<◌, ◌==◌, ◌||◌, Bool, true, false, List, [], length, get_or, set, inl, inr, sym, ap, ◌∙◌, ◌⊎◌, arith, w64}
use Rattle.std.specs.Prelude.{bit_or}
use Rattle.std.specs.Int.{bit_at}
use Rattle.std.proofs.lemmas.Bool.Decides.{eqb_tells}
use Rattle.std.proofs.lemmas.List.{get_or-set_same, get_or-set_other}
use Rattle.std.proofs.lemmas.Nat.Bits.{bit_at-zero, bit_at_set_same, bit_at_set_other}
use Rattle.jt_platform.specs.Marked.{is_marked}

-- with no words no number is marked
pub none_marked : (n : ℕ) → is_marked [] n ≡ false
unfolding is_marked
none_marked n = ap (λ (b : ℕ). b == 1) (bit_at-zero (n % 64))

-- with one bit more its number is marked, and all others are as they were
pub marked_so : (old : List ℕ) (number word : ℕ) → number / 64 < length old
    → word ≡ bit_or (get_or old (number / 64) 0) (1 * 2 ^ (number % 64) % 2 ^ 64)
    → (q : ℕ) → is_marked (set old (number / 64) word) q ≡ ((number == q) || is_marked old q)
unfolding is_marked
marked_so old number word within word_is q = by_number (eqb_tells number q)
  where
    inside : number % 64 < 64
    inside = omega arith

    there : q / 64 ≡ number / 64 → bit_at (get_or (set old (number / 64) word) (q / 64) 0) (q % 64) ≡ bit_at (bit_or (get_or old (q / 64) 0) (1 * 2 ^ (number % 64) % 2 ^ 64)) (q % 64)
    there is =
        ap (λ (x : ℕ). bit_at (get_or (set old (number / 64) word) x 0) (q % 64)) is
        ∙ ap (λ (x : ℕ). bit_at x (q % 64)) (get_or-set_same old (number / 64) word 0 within ∙ word_is)
        ∙ ap (λ (x : ℕ). bit_at (bit_or (get_or old x 0) (1 * 2 ^ (number % 64) % 2 ^ 64)) (q % 64)) (sym is)

    by_word : number ≢ q → (((q / 64) == (number / 64)) ≡ true) × (q / 64 ≡ number / 64) ⊎ (((q / 64) == (number / 64)) ≡ false) × (q / 64 ≢ number / 64)
        → bit_at (get_or (set old (number / 64) word) (q / 64) 0) (q % 64) ≡ bit_at (get_or old (q / 64) 0) (q % 64)
    by_word apart (inl is) = there is.1 ∙ bit_at_set_other w64 (get_or old (q / 64) 0) (number % 64) inside (q % 64) (λ same. apart (let word_same = is.1 in omega arith))
    by_word apart (inr is) = ap (λ (x : ℕ). bit_at x (q % 64)) (get_or-set_other old (number / 64) (q / 64) word 0 is.1)

    by_number : ((number == q) ≡ true) × (number ≡ q) ⊎ ((number == q) ≡ false) × (number ≢ q)
        → (bit_at (get_or (set old (number / 64) word) (q / 64) 0) (q % 64) == 1) ≡ ((number == q) || (bit_at (get_or old (q / 64) 0) (q % 64) == 1))
    by_number (inl is) =
        ap (λ (b : ℕ). b == 1)
        (there (ap (λ (n : ℕ). n / 64) (sym is.1))
        ∙ ap (λ (i : ℕ). bit_at (bit_or (get_or old (q / 64) 0) (1 * 2 ^ (number % 64) % 2 ^ 64)) (i % 64)) (sym is.1)
        ∙ bit_at_set_same w64 (get_or old (q / 64) 0) (number % 64) inside)
        ∙ sym (ap (λ (b : Bool). b || (bit_at (get_or old (q / 64) 0) (q % 64) == 1)) is.0)
    by_number (inr is) =
        ap (λ (b : ℕ). b == 1) (by_word is.1 (eqb_tells (q / 64) (number / 64)))
        ∙ sym (ap (λ (b : Bool). b || (bit_at (get_or old (q / 64) 0) (q % 64) == 1)) is.0)
