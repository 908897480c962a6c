-- Views that change at one place, are added, or are spent.
use Rattle.std.proofs.Common.{◌≡◌, ◌≢◌, ◌⊎◌, ℕ, ◌+◌, ◌<◌, ◌≤◌, zero, suc, List, [], ◌∷◌, ◌++◌, length, get_or, set, refl, ap, sym, ◌∙◌, subst, arith, inl, inr, ⊎_elim}
use Rattle.std.proofs.lemmas.List.Sums.{sum_by-set}
use Rattle.std.proofs.lemmas.Option.{none-some}
use Rattle.std.specs.Prelude.{sum_by, Option, Some, None}
use mathlib.Core.Option.{some, some-injective, some-ne-none}
use lib.ListN.{get_elem?}
use Rattle.atomic_table.proofs.Lists.{at_set, at_snoc}
use Rattle.jt_turn.specs.declared.known.Known.{Known}
use Rattle.jt_turn.specs.Rules.{At, Apart}

-- an element that is there
pub there : {X : Type 0} (xs : List X) (i : ℕ) (x : X) → get_elem? xs i ≡ some x → (i < length xs) × (get_or xs i x ≡ x)
there [] i x e = absurd (some-ne-none x (sym e))
there (z ∷ zs) zero x e = (omega arith, some-injective z x e)
there (z ∷ zs) (suc i) x e = let h = there zs i x e in (omega arith, h.1)

-- a sum after one element has changed
pub sum_by-set_at : {X : Type 0} (f : X → ℕ) (xs : List X) (i : ℕ) (x y : X) → get_elem? xs i ≡ some x → sum_by f (set xs i y) + f x ≡ sum_by f xs + f y
sum_by-set_at f xs i x y e =
    let h = there xs i x e in
    let k : f (get_or xs i x) ≡ f x = ap f h.1 in
    let m = sum_by-set f xs i y x h.0 in
    omega arith

-- one element is at most the sum
pub one_of_sum : {X : Type 0} (f : X → ℕ) (xs : List X) (i : ℕ) (x y : X) → get_elem? xs i ≡ some x → f y ≡ 0 → f x ≤ sum_by f xs
one_of_sum f xs i x y e none = let h = sum_by-set_at f xs i x y e in omega arith

pub same_some : {X : Type 0} {x y : X} → Some x ≡ Some y → x ≡ y
same_some e = cc

pub same_at : {X : Type 0} (xs : List (Option X)) (i : ℕ) (x y : X) → get_elem? xs i ≡ some (Some x) → get_elem? xs i ≡ some (Some y) → x ≡ y
same_at xs i x y e f = same_some (some-injective (Some x) (Some y) (sym e ∙ f))

-- what is found in a list with one more at its end
pub at_end : {X : Type 0} (xs : List X) (x y : X) (j : ℕ) → get_elem? (xs ++ x ∷ []) j ≡ some y → (get_elem? xs j ≡ some y) ⊎ ((j ≡ length xs) × (x ≡ y))
at_end [] x y zero e = inr (refl, some-injective x y e)
at_end [] x y (suc j) e = absurd (some-ne-none y (sym e))
at_end (z ∷ zs) x y zero e = inl e
at_end (z ∷ zs) x y (suc j) e = ⊎_elim (λ h. inl h) (λ h. inr (omega (arith, h.0), h.1)) (at_end zs x y j e)

module _ {A B O : Type 0} where
  pub each_set : (P : ℕ → Known A B O → Type 0) (views : List (Option (Known A B O))) (id : ℕ) (w : Option (Known A B O))
      → ((k : Known A B O) → w ≡ Some k → P id k)
      → ((i : ℕ) (k : Known A B O) → i ≢ id → At views i k → P i k)
      → (i : ℕ) (k : Known A B O) → At (set views id w) i k → P i k
  each_set P views id w here else i k at =
      ⊎_elim (λ t. subst (λ j. P j k) (sym t.0) (here k t.1)) (λ t. else i k t.0 t.1) (at_set views id i w (Some k) at)

  pub each_some : (P : ℕ → Known A B O → Type 0) (views : List (Option (Known A B O))) (id : ℕ) (w : Known A B O)
      → P id w
      → ((i : ℕ) (k : Known A B O) → i ≢ id → At views i k → P i k)
      → (i : ℕ) (k : Known A B O) → At (set views id (Some w)) i k → P i k
  each_some P views id w here else = each_set P views id (Some w) (λ k e. subst (P id) (same_some e) here) else

  pub each_none : (P : ℕ → Known A B O → Type 0) (views : List (Option (Known A B O))) (id : ℕ)
      → ((i : ℕ) (k : Known A B O) → i ≢ id → At views i k → P i k)
      → (i : ℕ) (k : Known A B O) → At (set views id None) i k → P i k
  each_none P views id else = each_set P views id None (λ k e. absurd (none-some k e)) else

  -- the place of the last, where it is
  pub each_snoc : (P : Known A B O → Type 0) (views : List (Option (Known A B O))) (w : Known A B O)
      → P w
      → ((i : ℕ) (k : Known A B O) → At views i k → P k)
      → (i : ℕ) (k : Known A B O) → At (views ++ Some w ∷ []) i k → P k
  each_snoc P views w here else i k at =
      ⊎_elim (λ h. else i k h) (λ e. subst P (same_some e) here) (at_snoc views (Some w) (Some k) i at)

  pub apart_set : (R : Known A B O → Known A B O → Type 0) (views : List (Option (Known A B O))) (id : ℕ) (w : Known A B O)
      → ((k l : Known A B O) → R k l → R l k)
      → ((j : ℕ) (l : Known A B O) → j ≢ id → At views j l → R w l → ⊥)
      → Apart R views → Apart R (set views id (Some w))
  apart_set R views id w turn fresh apart i j k l ati atj r =
      each_some (λ i k. (j : ℕ) (l : Known A B O) → At (set views id (Some w)) j l → R k l → i ≡ j) views id w
      (each_some (λ j l. R w l → id ≡ j) views id w (λ r. refl) (λ j l ne at r. absurd (fresh j l ne at r)))
      (λ i k ne at. each_some (λ j l. R k l → i ≡ j) views id w (λ r. absurd (fresh i k ne at (turn k w r))) (λ j l ne' at' r. apart i j k l at at' r))
      i k ati j l atj r

  pub apart_none : (R : Known A B O → Known A B O → Type 0) (views : List (Option (Known A B O))) (id : ℕ)
      → Apart R views → Apart R (set views id None)
  apart_none R views id apart i j k l ati atj r =
      each_none (λ i k. (j : ℕ) (l : Known A B O) → At (set views id None) j l → R k l → i ≡ j) views id
      (λ i k ne at. each_none (λ j l. R k l → i ≡ j) views id (λ j l ne' at' r. apart i j k l at at' r))
      i k ati j l atj r

  pub apart_snoc : (R : Known A B O → Known A B O → Type 0) (views : List (Option (Known A B O))) (w : Known A B O)
      → ((k l : Known A B O) → R k l → R l k)
      → ((j : ℕ) (l : Known A B O) → At views j l → R w l → ⊥)
      → Apart R views → Apart R (views ++ Some w ∷ [])
  apart_snoc R views w turn fresh apart i j k l ati atj r =
      ⊎_elim
      (λ h. ⊎_elim (λ h'. apart i j k l h h' r) (λ t. absurd (fresh i k h (turn k w (subst (λ z. R k z) (sym (same_some t.1)) r)))) (at_end views (Some w) (Some l) j atj))
      (λ t. ⊎_elim (λ h'. absurd (fresh j l h' (subst (λ z. R z l) (sym (same_some t.1)) r))) (λ t'. t.0 ∙ sym t'.0) (at_end views (Some w) (Some l) j atj))
      (at_end views (Some w) (Some k) i ati)
