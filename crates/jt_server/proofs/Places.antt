-- Places in lists.
use Rattle.std.proofs.Common.{◌≡◌, ◌≢◌, ◌≤◌, ◌<◌, ◌+◌, ◌-◌, ◌⊎◌, ℕ, zero, suc, List, [], ◌∷◌, ◌++◌, length, map, reverse, inl, inr, refl, sym, ap, ◌∙◌, subst, arith, length-append}
use Rattle.std.proofs.lemmas.List.{length-map, length-reverse, reverse-append}
use lib.ListN.{get_elem?}
use mathlib.Core.Option.{some, some-injective, some-ne-none}
use native.Mathlib.Decide.{ℕ_discrete}
use Rattle.jt_turn.specs.declared.entry.Ended.{Ended}
use Rattle.jt_turn.specs.Histories.{IsNoneOf}

module _ {X : Type 0} where
  pub one_more : (xs ys : List X) (x : X) → ys ≡ xs ++ x ∷ [] → length ys ≡ length xs + 1
  one_more xs ys x is = omega (arith, ap length is, length-append xs (x ∷ []))

  pub at_last : (xs : List X) (x : X) → get_elem? (xs ++ x ∷ []) (length xs) ≡ some x
  at_last [] x = refl
  at_last (y ∷ xs) x = at_last xs x

  pub at_longer : (xs ys : List X) (m : ℕ) (y : X) → get_elem? xs m ≡ some y → get_elem? (xs ++ ys) m ≡ some y
  at_longer [] ys m y at = absurd (some-ne-none y (sym at))
  at_longer (x ∷ xs) ys zero y at = at
  at_longer (x ∷ xs) ys (suc m) y at = at_longer xs ys m y at

  pub at_below : (xs : List X) (m : ℕ) (y : X) → get_elem? xs m ≡ some y → m < length xs
  at_below [] m y at = absurd (some-ne-none y (sym at))
  at_below (x ∷ xs) zero y at = omega arith
  at_below (x ∷ xs) (suc m) y at = let less = at_below xs m y at in omega (arith, less)

  pub at_end : (xs : List X) (x : X) (m : ℕ) (y : X) → get_elem? (xs ++ x ∷ []) m ≡ some y → (get_elem? xs m ≡ some y) ⊎ ((m ≡ length xs) × (x ≡ y))
  at_end [] x zero y at = inr (refl, some-injective x y at)
  at_end [] x (suc m) y at = absurd (some-ne-none y (sym at))
  at_end (z ∷ xs) x zero y at = inl at
  at_end (z ∷ xs) x (suc m) y at = one_on (at_end xs x m y at) where
    one_on : (get_elem? xs m ≡ some y) ⊎ ((m ≡ length xs) × (x ≡ y)) → (get_elem? xs m ≡ some y) ⊎ ((suc m ≡ suc (length xs)) × (x ≡ y))
    one_on (inl there) = inl there
    one_on (inr last) = inr (ap suc last.0, last.1)

  -- which stands at a place of the list turned round
  pub at_back : (xs : List X) (m : ℕ) (y : X) → get_elem? (reverse xs) m ≡ some y → (k : ℕ) × (get_elem? xs k ≡ some y) × (k + m + 1 ≡ length xs)
  at_back [] m y at = absurd (some-ne-none y (sym at))
  at_back (x ∷ xs) m y at = on (λ there. at_back xs m y there) (at_end (reverse xs) x m y (subst (λ l. get_elem? l m ≡ some y) (reverse-append (x ∷ []) xs) at)) where
    on : (get_elem? (reverse xs) m ≡ some y → (k : ℕ) × (get_elem? xs k ≡ some y) × (k + m + 1 ≡ length xs)) → (get_elem? (reverse xs) m ≡ some y) ⊎ ((m ≡ length (reverse xs)) × (x ≡ y))
        → (k : ℕ) × (get_elem? (x ∷ xs) k ≡ some y) × (k + m + 1 ≡ suc (length xs))
    on more (inl there) = let found = more there in (suc found.0, found.1, omega (arith, found.2))
    on more (inr last) = (0, ap some last.1, omega (arith, last.0, length-reverse xs))

  pub at_front : (xs : List X) (k m : ℕ) (y : X) → get_elem? xs k ≡ some y → k + m + 1 ≡ length xs → get_elem? (reverse xs) m ≡ some y
  at_front [] k m y at e = absurd (some-ne-none y (sym at))
  at_front (x ∷ xs) zero m y at e =
      subst (λ l. get_elem? l m ≡ some y) (sym (reverse-append (x ∷ []) xs))
      (subst (λ n. get_elem? (reverse xs ++ x ∷ []) n ≡ some y) (omega (arith, e, length-reverse xs)) (at_last (reverse xs) x ∙ at))
  at_front (x ∷ xs) (suc k) m y at e =
      subst (λ l. get_elem? l m ≡ some y) (sym (reverse-append (x ∷ []) xs)) (at_longer (reverse xs) (x ∷ []) m y (at_front xs k m y at (omega (arith, e))))

pub at_mapped : {X Y : Type 0} (f : X → Y) (xs : List X) (m : ℕ) (x : X) → get_elem? xs m ≡ some x → get_elem? (map f xs) m ≡ some (f x)
at_mapped f [] m x at = absurd (some-ne-none x (sym at))
at_mapped f (y ∷ xs) zero x at = ap (λ z. some (f z)) (some-injective y x at)
at_mapped f (y ∷ xs) (suc m) x at = at_mapped f xs m x at

pub from_mapped : {X Y : Type 0} (f : X → Y) (xs : List X) (m : ℕ) (y : Y) → get_elem? (map f xs) m ≡ some y → (x : X) × (get_elem? xs m ≡ some x) × (f x ≡ y)
from_mapped f [] m y at = absurd (some-ne-none y (sym at))
from_mapped f (x ∷ xs) zero y at = (x, refl, some-injective (f x) y at)
from_mapped f (x ∷ xs) (suc m) y at = from_mapped f xs m y at

-- a pass of this number was joined, or none was
pub of_number : {A B : Type 0} (n : ℕ) (ended : List (Ended A B)) → ((k : ℕ) × (e : Ended A B) × (get_elem? ended k ≡ some e) × (e.number ≡ n)) ⊎ IsNoneOf n ended
of_number n [] = inr (λ k e at. absurd (some-ne-none e (sym at)))
of_number n (x ∷ ended) = elim (ℕ_discrete x.number n) as (λ _. ((k : ℕ) × (e : Ended _ _) × (get_elem? (x ∷ ended) k ≡ some e) × (e.number ≡ n)) ⊎ IsNoneOf n (x ∷ ended)) [
  | yes is ↦ inl (0, x, refl, is)
  | no ne ↦ later x n ended ne (of_number n ended)
] where
  none_of : {A B : Type 0} (x : Ended A B) (n : ℕ) (ended : List (Ended A B)) → x.number ≢ n → IsNoneOf n ended → IsNoneOf n (x ∷ ended)
  none_of x n ended ne none zero e at = subst (λ y. y.number ≢ n) (some-injective x e at) ne
  none_of x n ended ne none (suc m) e at = none m e at

  later : {A B : Type 0} (x : Ended A B) (n : ℕ) (ended : List (Ended A B)) → x.number ≢ n → ((k : ℕ) × (e : Ended A B) × (get_elem? ended k ≡ some e) × (e.number ≡ n)) ⊎ IsNoneOf n ended → ((k : ℕ) × (e : Ended A B) × (get_elem? (x ∷ ended) k ≡ some e) × (e.number ≡ n)) ⊎ IsNoneOf n (x ∷ ended)
  later x n ended ne (inl found) = inl (suc found.0, found.1, found.2, found.3)
  later x n ended ne (inr none) = inr (none_of x n ended ne none)
