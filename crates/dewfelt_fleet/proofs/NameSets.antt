-- Names in a set.
use Rattle.std.proofs.Common.{◌≡◌, ℕ, Bool, true, false, ◌||◌, List, [], ◌∷◌, map, refl, sym, ap, subst, ◌∙◌}
use Rattle.std.proofs.Common.{Ordering, Less, Equal, Greater}
use Rattle.std.specs.BTreeMap.{is_at}
use Rattle.std.specs.BTreeSet.{insert_key}
use Rattle.std.specs.Cmp.Lexicographic.{slice_cmp}
use Rattle.std.specs.List.{list_any}
use Rattle.std.specs.Ordering.{is_eq, nat_cmp, match_ordering}
use Rattle.std.specs.Str.{bytes_eq}
use Rattle.std.proofs.lemmas.Map.Text.{is_eq-slice_cmp}
use Rattle.std.proofs.lemmas.Slice.Eq.{bytes_eq-Decides}
use Rattle.dewfelt_fleet.specs.Names.{is_among}

either_way : (a b : List ℕ) → bytes_eq a b ≡ bytes_eq b a
either_way a b = by_test (bytes_eq a b) (bytes_eq b a) refl refl
  where
    by_test : (x y : Bool) → bytes_eq a b ≡ x → bytes_eq b a ≡ y → x ≡ y
    by_test true true is back = refl
    by_test false false is back = refl
    by_test true false is back = sym ((bytes_eq-Decides b a).1 (sym ((bytes_eq-Decides a b).0 is))) ∙ back
    by_test false true is back = sym is ∙ (bytes_eq-Decides a b).1 (sym ((bytes_eq-Decides b a).0 back))

module _ {K : Type 0} (items : K → List ℕ) where
  abbrev cmp : K → K → Ordering
  cmp x y = slice_cmp nat_cmp (items x) (items y)

  -- looking through the keys of a set
  pub among : (keys : List K) (q : List ℕ) → list_any (is_at (λ k. slice_cmp nat_cmp q (items k))) keys ≡ is_among (map items keys) q
  among [] q = refl
  among (k ∷ keys) q = ap (λ b. b || list_any (is_at (λ k. slice_cmp nat_cmp q (items k))) keys) (is_eq-slice_cmp q (items k) ∙ either_way q (items k)) ∙ ap (λ b. bytes_eq (items k) q || b) (among keys q)

  twice : (a b : Bool) → (a || b) ≡ (a || (a || b))
  twice true b = refl
  twice false b = refl

  swap : (a b c : Bool) → (a || (b || c)) ≡ (b || (a || c))
  swap true true c = refl
  swap true false c = refl
  swap false true c = refl
  swap false false c = refl

  -- one more name
  pub added : (keys : List K) (k : K) (q : List ℕ) → is_among (map items (insert_key cmp keys k)) q ≡ (bytes_eq (items k) q || is_among (map items keys) q)
  added [] k q = refl
  added (x ∷ keys) k q = by_order (cmp k x) refl (added keys k q)
    where
      by_order : (o : Ordering) → cmp k x ≡ o → is_among (map items (insert_key cmp keys k)) q ≡ (bytes_eq (items k) q || is_among (map items keys) q)
          → is_among (map items (match_ordering o (k ∷ x ∷ keys) (x ∷ keys) (x ∷ insert_key cmp keys k))) q ≡ (bytes_eq (items k) q || (bytes_eq (items x) q || is_among (map items keys) q))
      by_order Less is more = refl
      by_order Equal is more =
          let same : items k ≡ items x = (bytes_eq-Decides (items k) (items x)).0 (sym (is_eq-slice_cmp (items k) (items x)) ∙ ap is_eq is) in
          subst (λ (name : List ℕ). (bytes_eq (items x) q || is_among (map items keys) q) ≡ (bytes_eq name q || (bytes_eq (items x) q || is_among (map items keys) q))) (sym same)
          (twice (bytes_eq (items x) q) (is_among (map items keys) q))
      by_order Greater is more = ap (λ b. bytes_eq (items x) q || b) more ∙ swap (bytes_eq (items x) q) (bytes_eq (items k) q) (is_among (map items keys) q)
