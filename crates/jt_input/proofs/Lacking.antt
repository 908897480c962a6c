-- Octets that lack one octet, and what stands before the first of them.
use Rattle.std.proofs.Common.{◌≡◌, ◌<◌, ◌≤◌, ◌+◌, ℕ, zero, suc, true, false, Some, None, ltb, eqb, eq-eqb, eqb-true, List, [], ◌∷◌, ◌++◌, length, take, get_or, refl, sym, ap, subst, ◌∙◌, inl, inr, arith}
use Rattle.std.proofs.lemmas.Bool.{cases_Bool, ltb-false}
use Rattle.std.proofs.lemmas.List.{take_all, take_more}
use Rattle.std.proofs.lemmas.List.Quantifiers.{position-Some}
use Rattle.std.proofs.lemmas.List.Sums.{fails_before_first}
use Rattle.std.specs.List.{position, position_or_len}
use Rattle.jt_input.specs.Text.{Lacks}

pub Lacks-append : (c : ℕ) (xs ys : List ℕ) → Lacks c xs → Lacks c ys → Lacks c (xs ++ ys)
Lacks-append c [] ys h k = k
Lacks-append c (x ∷ xs) ys h k = (h.0, Lacks-append c xs ys h.1 k)

Lacks-take : (c i : ℕ) (xs : List ℕ) → i ≤ length xs → ((k : ℕ) → k < i → eqb (get_or xs k 0) c ≡ false) → Lacks c (take i xs)
Lacks-take c zero xs h each = tt
Lacks-take c (suc i) [] h each = tt
Lacks-take c (suc i) (x ∷ xs) h each = (
  λ e. let f : true ≡ false = sym (eq-eqb x c e) ∙ each 0 (omega arith) in absurd cc,
  Lacks-take c i xs (omega arith) (λ k lt. each (suc k) (omega arith)),
)

-- what stands before the first of them
pub front_before : (c : ℕ) (xs : List ℕ) (i : ℕ) → position (λ x. eqb x c) xs ≡ Some i
    → (i < length xs) × Lacks c (take i xs) × (take (i + 1) xs ≡ take i xs ++ c ∷ [])
front_before c xs i e =
    let found = position-Some (λ x. eqb x c) xs i 0 e in
    let within : i < length xs = found.0 in
    let feed : get_or xs i 0 ≡ c = eqb-true (get_or xs i 0) c found.1 in
    (within, Lacks-take c i xs (omega arith) found.2, take_more xs i 0 within ∙ ap (λ (x : ℕ). take i xs ++ x ∷ []) feed)

-- none is found
pub lacks_all : (c : ℕ) (xs : List ℕ) → position (λ x. eqb x c) xs ≡ None → Lacks c xs
lacks_all c xs e =
    elim (cases_Bool (ltb (position_or_len (λ x. eqb x c) xs) (length xs))) [
      | inl t ↦ let f = rw t at e in absurd cc
      | inr f ↦ subst (Lacks c) (take_all (length xs) xs (omega arith))
          (Lacks-take c (length xs) xs (omega arith) (λ k lt. fails_before_first (λ x. eqb x c) xs k 0 (omega (arith, ltb-false (position_or_len (λ x. eqb x c) xs) (length xs) f))))
    ]

-- it stands there
pub lacks_not : (c : ℕ) (xs ys : List ℕ) → Lacks c (xs ++ c ∷ ys) → ⊥
lacks_not c [] ys h = h.0 refl
lacks_not c (x ∷ xs) ys h = lacks_not c xs ys h.1

-- octets are parted at the first of them in one way
pub parted_once : (c : ℕ) (xs ys more others : List ℕ) → Lacks c xs → Lacks c ys → xs ++ c ∷ more ≡ ys ++ c ∷ others → (xs ≡ ys) × (more ≡ others)
parted_once c [] [] more others h k e = (refl, cc)
parted_once c [] (y ∷ ys) more others h k e = let f : y ≡ c = cc in absurd (k.0 f)
parted_once c (x ∷ xs) [] more others h k e = let f : x ≡ c = cc in absurd (h.0 f)
parted_once c (x ∷ xs) (y ∷ ys) more others h k e =
    let heads : x ≡ y = cc in
    let tails : xs ++ c ∷ more ≡ ys ++ c ∷ others = cc in
    let both = parted_once c xs ys more others h.1 k.1 tails in
    (ap (λ (zs : List ℕ). x ∷ zs) both.0 ∙ ap (λ (z : ℕ). z ∷ ys) heads, both.1)
