-- Tables that are gone through in the order of digits.
use Rattle.std.proofs.Common.{◌≡◌, ℕ, Bool, true, false, List, Option, Some, None, Ordering, Less, Equal, Greater, refl, sym, ap, ◌∙◌, inl, inr}
use Rattle.std.specs.Prelude.{◌⊎◌, IsSome, not}
use Rattle.std.specs.Cmp.Lexicographic.{slice_cmp, nat_list_cmp_total}
use Rattle.std.specs.Ordering.{is_eq, is_gt, is_lt, nat_cmp}
use Rattle.std.proofs.lemmas.Bool.{true≢false}
use Rattle.std.proofs.lemmas.Map.Text.{is_eq-slice_cmp}
use Rattle.std.proofs.lemmas.Slice.Eq.{bytes_eq-Decides}
use Rattle.jt_value.specs.Sameness.{same_key}
use Rattle.jt_store.specs.Tables.{IsBehind}
use Rattle.dewfelt_keeper.specs.Sweeps.{is_done}

order : List ℕ → List ℕ → Ordering
order a b = slice_cmp nat_cmp a b

pub equal_is : (a b : List ℕ) → slice_cmp nat_cmp a b ≡ Equal → a ≡ b
equal_is a b e = (bytes_eq-Decides a b).0 (sym (is_eq-slice_cmp a b) ∙ ap is_eq e)

pub same_is : (a b : List ℕ) → same_key a b ≡ true → a ≡ b
same_is a b e = (bytes_eq-Decides a b).0 e

pub same_by : (a b : List ℕ) → same_key a b ≡ is_eq (slice_cmp nat_cmp a b)
same_by a b = sym (is_eq-slice_cmp a b)

pub same_itself : (a : List ℕ) → same_key a a ≡ true
same_itself a = (bytes_eq-Decides a a).1 refl

pub behind_is : (after : Option (List ℕ)) (key : List ℕ) → is_done after key ≡ false → IsBehind after key
behind_is None key e = tt
behind_is (Some last) key e = by_order (slice_cmp nat_cmp last key) refl e
  where
    by_order : (o : Ordering) → slice_cmp nat_cmp last key ≡ o → not (is_lt o) ≡ false → slice_cmp nat_cmp last key ≡ Less
    by_order Less is e = is
    by_order Equal is e = absurd (true≢false e)
    by_order Greater is e = absurd (true≢false e)

pub not_done : (after : Option (List ℕ)) (key : List ℕ) → IsBehind after key → is_done after key ≡ false
not_done None key b = refl
not_done (Some last) key b = ap (λ o. not (is_lt o)) b

-- what stands behind a phone stands behind those before it
pub farther : (after : Option (List ℕ)) (next key : List ℕ) → IsBehind after next → slice_cmp nat_cmp next key ≡ Less → IsBehind after key
farther None next key b less = tt
farther (Some last) next key b less = nat_list_cmp_total.trans last next key b less

pub none_is : {X : Type 0} (o : Option X) → (IsSome o → ⊥) → o ≡ None
none_is None not_some = refl
none_is (Some x) not_some = absurd (not_some refl)

-- What the phone that is found next says of some digits: they are its own; or nothing changes for them; or they are passed over and have
-- nothing.
abbrev pub Place : {X : Type 0} → (List ℕ → Option X) → Option (List ℕ) → List ℕ → List ℕ → Type 0
Place found after next key =
    ((next ≡ key) × (is_done (Some next) key ≡ true))
    ⊎ ((same_key next key ≡ false) × (is_done (Some next) key ≡ is_done after key))
    ⊎ ((same_key next key ≡ false) × (is_done after key ≡ false) × (is_done (Some next) key ≡ true) × (found key ≡ None))

module _ {X : Type 0} (found : List ℕ → Option X) (after : Option (List ℕ)) (next : List ℕ) (behind : IsBehind after next)
    (least : (key : List ℕ) → IsBehind after key → IsSome (found key) → is_gt (slice_cmp nat_cmp next key) ≡ false) where
  below : (key : List ℕ) → slice_cmp nat_cmp next key ≡ Greater → (done : Bool) → is_done after key ≡ done → Place found after next key
  below key is true e = inr (inl (same_by next key ∙ ap is_eq is, ap (λ o. not (is_lt o)) is ∙ sym e))
  below key is false e =
      inr (inr (
        same_by next key ∙ ap is_eq is,
        e,
        ap (λ o. not (is_lt o)) is,
        none_is (found key) (λ some. true≢false (sym (ap is_gt is) ∙ least key (behind_is after key e) some)),
      ))

  pub place_of : (key : List ℕ) → Place found after next key
  place_of key = by_order (slice_cmp nat_cmp next key) refl
    where
      by_order : (o : Ordering) → slice_cmp nat_cmp next key ≡ o → Place found after next key
      by_order Less is = inr (inl (same_by next key ∙ ap is_eq is, ap (λ o. not (is_lt o)) is ∙ sym (not_done after key (farther after next key behind is))))
      by_order Equal is = inl (equal_is next key is, ap (λ o. not (is_lt o)) is)
      by_order Greater is = below key is (is_done after key) refl
