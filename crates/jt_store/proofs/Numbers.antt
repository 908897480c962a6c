-- Numbers are in the order of their octets.
use Rattle.std.proofs.Common.{◌≡◌, ℕ, zero, suc, ◌+◌, ◌*◌, ◌<◌, ◌≤◌, ◌%◌, ◌^◌, List, ◌++◌, Bool, true, Ordering, Less, Equal, Greater, inl, inr, refl, sym, ap, ◌∙◌}
use Rattle.std.specs.Prelude.{◌⊎◌}
use Rattle.std.proofs.lemmas.Bool.{cases_lt}
use native.Mathlib.Omega.{arith}
use native.Mathlib.Nat.{mod-eq_of_lt, mod-lt, mul_comm, one-le-pow, pow-suc, zero-lt-suc}
use lib.Arith.{mod-mul}
use Rattle.std.specs.Cmp.Lexicographic.{slice_cmp}
use Rattle.std.specs.Int.{byte_at, bytes_high_first}
use Rattle.std.specs.Ordering.{nat_cmp, ordering_then}
use Rattle.std.proofs.lemmas.Bool.Decides.{nat_tests}
use Rattle.std.proofs.lemmas.Nat.{mul-le}

less : (x y : ℕ) → x < y → nat_cmp x y ≡ Less
less x y h = grind (arith, nat_tests)

more : (x y : ℕ) → y < x → nat_cmp x y ≡ Greater
more x y h = grind (arith, nat_tests)

same : (x : ℕ) → nat_cmp x x ≡ Equal
same x = grind (arith, nat_tests)

-- ---- a front and a rest below a bound

by_front : (P x y r s : ℕ) → x < y → r < P → x * P + r < y * P + s
by_front P x y r s h small = omega (arith, mul-le (x + 1) P y P (omega arith) (omega arith))

by_rest : (P r s x : ℕ) (c : Bool) → (r < s) ⊎ (s ≤ r) → nat_cmp (x * P + r) (x * P + s) ≡ nat_cmp r s
by_rest P r s x c (inl h) = less (x * P + r) (x * P + s) (omega arith) ∙ sym (less r s h)
by_rest P r s x c (inr h) = grind (arith, nat_tests)

-- numbers are compared by their fronts first
pub fronts : (P x y r s : ℕ) → r < P → s < P → nat_cmp (x * P + r) (y * P + s) ≡ ordering_then (nat_cmp x y) (nat_cmp r s)
fronts P x y r s a b = one (cases_lt x y)
  where
    two : (y < x) ⊎ (x ≤ y) → y ≤ x → nat_cmp (x * P + r) (y * P + s) ≡ ordering_then (nat_cmp x y) (nat_cmp r s)
    two (inl h) k = more _ _ (by_front P y x s r h b) ∙ sym (ap (λ o. ordering_then o (nat_cmp r s)) (more x y h))
    two (inr h) k =
        let e : y ≡ x = omega arith in
        ap (λ v. nat_cmp (x * P + r) (v * P + s)) e ∙ by_rest P r s x true (cases_lt r s) ∙ sym (ap (λ o. ordering_then o (nat_cmp r s)) (ap (nat_cmp x) e ∙ same x))

    one : (x < y) ⊎ (y ≤ x) → nat_cmp (x * P + r) (y * P + s) ≡ ordering_then (nat_cmp x y) (nat_cmp r s)
    one (inl h) = less _ _ (by_front P x y r s h a) ∙ sym (ap (λ o. ordering_then o (nat_cmp r s)) (less x y h))
    one (inr h) = two (cases_lt y x) h

-- ---- octets, the highest first

hundreds : (k : ℕ) → zero < 256 ^ k
hundreds k = one-le-pow k 256 (zero-lt-suc 255)

-- the lowest octets of a number are one and those below it
next : (k n : ℕ) → n % 256 ^ suc k ≡ byte_at k n * 256 ^ k + n % 256 ^ k
next zero n = omega arith
next (suc k) n = ap (λ m. n % m) (pow-suc 256 (suc k) ∙ mul_comm (256 ^ suc k) 256) ∙ mod-mul n (zero-lt-suc 255) (hundreds (suc k))

pub octets_in_order : (k a c : ℕ) → slice_cmp nat_cmp (bytes_high_first k a) (bytes_high_first k c) ≡ nat_cmp (a % 256 ^ k) (c % 256 ^ k)
octets_in_order zero a c = sym (ap (λ n. nat_cmp n (c % 1)) (one_left a) ∙ ap (nat_cmp 0) (one_left c))
  where
    one_left : (n : ℕ) → n % 1 ≡ 0
    one_left n = omega arith
octets_in_order (suc k) a c =
    ap (ordering_then (nat_cmp (byte_at k a) (byte_at k c))) (octets_in_order k a c)
    ∙ sym (fronts (256 ^ k) (byte_at k a) (byte_at k c) (a % 256 ^ k) (c % 256 ^ k) (mod-lt a (hundreds k)) (mod-lt c (hundreds k)))
    ∙ sym (ap (λ n. nat_cmp n (c % 256 ^ suc k)) (next k a) ∙ ap (nat_cmp (byte_at k a * 256 ^ k + a % 256 ^ k)) (next k c))

-- ---- a list behind octets

then_then : (a b c : Ordering) → ordering_then a (ordering_then b c) ≡ ordering_then (ordering_then a b) c
then_then Less b c = refl
then_then Equal b c = refl
then_then Greater b c = refl

behind : (k a c : ℕ) (us vs : List ℕ) → slice_cmp nat_cmp (bytes_high_first k a ++ us) (bytes_high_first k c ++ vs) ≡ ordering_then (slice_cmp nat_cmp (bytes_high_first k a) (bytes_high_first k c)) (slice_cmp nat_cmp us vs)
behind zero a c us vs = refl
behind (suc k) a c us vs =
    ap (ordering_then (nat_cmp (byte_at k a) (byte_at k c))) (behind k a c us vs)
    ∙ then_then (nat_cmp (byte_at k a) (byte_at k c)) (slice_cmp nat_cmp (bytes_high_first k a) (bytes_high_first k c)) (slice_cmp nat_cmp us vs)

-- two numbers of eight and two octets, one behind the other
pub two_in_order : (a c b d : ℕ) → a < 2 ^ 64 → c < 2 ^ 64 → b < 2 ^ 16 → d < 2 ^ 16
    → slice_cmp nat_cmp (bytes_high_first 8 a ++ bytes_high_first 2 b) (bytes_high_first 8 c ++ bytes_high_first 2 d) ≡ ordering_then (nat_cmp a c) (nat_cmp b d)
two_in_order a c b d a' c' b' d' =
    behind 8 a c (bytes_high_first 2 b) (bytes_high_first 2 d)
    ∙ ap (λ o. ordering_then o (slice_cmp nat_cmp (bytes_high_first 2 b) (bytes_high_first 2 d))) (octets_in_order 8 a c ∙ ap (λ n. nat_cmp n (c % 256 ^ 8)) (mod-eq_of_lt a') ∙ ap (nat_cmp a) (mod-eq_of_lt c'))
    ∙ ap (ordering_then (nat_cmp a c)) (octets_in_order 2 b d ∙ ap (λ n. nat_cmp n (d % 256 ^ 2)) (mod-eq_of_lt b') ∙ ap (nat_cmp b) (mod-eq_of_lt d'))
