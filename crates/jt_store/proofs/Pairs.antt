-- Look-ups of std's maps by octets, as look-ups in lists of pairs.
use Rattle.std.proofs.Common.{◌≡◌, ℕ, Bool, true, false, cond, List, [], ◌∷◌, ◌++◌, map, Option, Some, refl, sym, ap, subst, ◌∙◌}
use Rattle.std.specs.BTreeMap.{BTreeMap, UpdatesBy, get_by, is_at}
use Rattle.std.specs.Cmp.Lexicographic.{slice_cmp, nat_list_cmp_total, nat_list_eq_equiv}
use Rattle.std.specs.Map.{lookup, KeepsOthers}
use Rattle.std.specs.Ordering.{is_eq, nat_cmp, eq_by_cmp}
use Rattle.std.specs.Option.{unwrap_or}
use Rattle.std.specs.Prelude.{OnErr, Result, Ok, Err}
use Rattle.std.specs.Str.{bytes_eq}
use Rattle.std.proofs.lemmas.Cmp.{eq_by_cmp_equiv}
use Rattle.std.proofs.lemmas.List.{append-nil}
use Rattle.std.proofs.lemmas.Map.Text.{is_eq-slice_cmp}
use Rattle.std.proofs.lemmas.Slice.Eq.{slice_eq-Decides}
use Rattle.std.proofs.lemmas.Bool.Decides.{Decides-eqb}
use Rattle.jt_store.specs.Memory.{under}

pub same_octets : (a b : List ℕ) → bytes_eq a b ≡ true → a ≡ b
same_octets a b e = (slice_eq-Decides Decides-eqb a b (bytes_eq a b) refl).0 e

-- ---- keys that are octets themselves

pub found : {X : Type 0} (es : List (List ℕ × X)) (q : List ℕ) → lookup (is_at (slice_cmp nat_cmp q)) es ≡ under es q
found [] q = refl
found (e ∷ es) q = ap (λ b. cond b (Some e.1) (lookup (is_at (slice_cmp nat_cmp q)) es)) (is_eq-slice_cmp q e.0) ∙ ap (cond (bytes_eq q e.0) (Some e.1)) (found es q)

pub updated : {X : Type 0} (key : List ℕ) (m n : BTreeMap (List ℕ) X) (w : Option X) → UpdatesBy (slice_cmp nat_cmp) (slice_cmp nat_cmp key) m n w
    → (q : List ℕ) → under n.entries q ≡ cond (bytes_eq key q) w (under m.entries q)
updated key m n w h q =
    sym (found n.entries q) ∙ h.0 q ∙ ap (λ b. cond b w (lookup (is_at (slice_cmp nat_cmp q)) m.entries)) (is_eq-slice_cmp key q) ∙ ap (cond (bytes_eq key q) w) (found m.entries q)

-- ---- keys that hold octets

apart : (name q ks : List ℕ) → bytes_eq name q ≡ false → is_eq (slice_cmp nat_cmp name ks) ≡ true → is_eq (slice_cmp nat_cmp q ks) ≡ false
apart name q ks n y =
    let same : bytes_eq name ks ≡ true = sym (is_eq-slice_cmp name ks) ∙ y in
    is_eq-slice_cmp q ks ∙ nat_list_eq_equiv.symm q ks ∙ sym (nat_list_eq_equiv.congr name ks q same) ∙ n

module _ {K X : Type 0} (items : K → List ℕ) where
  abbrev pub seen : List (K × X) → List (List ℕ × X)
  seen es = map (λ e. (items e.0, e.1)) es

  pub found_by : (es : List (K × X)) (q : List ℕ) → lookup (is_at (λ k. slice_cmp nat_cmp q (items k))) es ≡ under (seen es) q
  found_by [] q = refl
  found_by (e ∷ es) q = ap (λ b. cond b (Some e.1) (lookup (is_at (λ k. slice_cmp nat_cmp q (items k))) es)) (is_eq-slice_cmp q (items e.0)) ∙ ap (cond (bytes_eq q (items e.0)) (Some e.1)) (found_by es q)

  others : (name : List ℕ) (old new : List (K × X)) → KeepsOthers (eq_by_cmp (λ x y. slice_cmp nat_cmp (items x) (items y))) (is_at (λ k. slice_cmp nat_cmp name (items k))) old new
      → (q : List ℕ) → bytes_eq name q ≡ false → lookup (is_at (λ k. slice_cmp nat_cmp q (items k))) new ≡ lookup (is_at (λ k. slice_cmp nat_cmp q (items k))) old
  unfolding KeepsOthers
  others name old new h q e = h _ (λ x y. (eq_by_cmp_equiv nat_list_cmp_total).congr q (items x) (items y)) (λ k. apart name q (items k) e)

  pub updated_by : (name : List ℕ) (m n : BTreeMap K X) (w : Option X) → UpdatesBy (λ x y. slice_cmp nat_cmp (items x) (items y)) (λ k. slice_cmp nat_cmp name (items k)) m n w
      → (q : List ℕ) → under (seen n.entries) q ≡ cond (bytes_eq name q) w (under (seen m.entries) q)
  updated_by name m n w h q = by_case (bytes_eq name q) refl
    where
      by_case : (b : Bool) → bytes_eq name q ≡ b → under (seen n.entries) q ≡ cond b w (under (seen m.entries) q)
      by_case true e = subst (λ k. under (seen n.entries) k ≡ w) (same_octets name q e) (sym (found_by n.entries name) ∙ h.1)
      by_case false e = sym (found_by n.entries q) ∙ others name m.entries n.entries h.3 q e ∙ found_by m.entries q

-- ---- lists under keys

module _ {T : Type 0} (key : List ℕ) (f g : List ℕ → Option (List T)) (w : List T) where
  -- one item more under the key
  pub pushed : (item : T) → w ≡ unwrap_or (f key) [] ++ item ∷ [] → ((q : List ℕ) → g q ≡ cond (bytes_eq key q) (Some w) (f q))
      → (q : List ℕ) → unwrap_or (g q) [] ≡ unwrap_or (f q) [] ++ cond (bytes_eq key q) (item ∷ []) []
  pushed item is more q = ap (λ o. unwrap_or o []) (more q) ∙ by_case (bytes_eq key q) refl
    where
      by_case : (b : Bool) → bytes_eq key q ≡ b → unwrap_or (cond b (Some w) (f q)) [] ≡ unwrap_or (f q) [] ++ cond b (item ∷ []) []
      by_case true e = is ∙ ap (λ k. unwrap_or (f k) [] ++ item ∷ []) (same_octets key q e)
      by_case false e = sym (append-nil (unwrap_or (f q) []))

  -- the same list under the key again
  pub kept : w ≡ unwrap_or (f key) [] → ((q : List ℕ) → g q ≡ cond (bytes_eq key q) (Some w) (f q)) → (q : List ℕ) → unwrap_or (g q) [] ≡ unwrap_or (f q) []
  kept is more q = ap (λ o. unwrap_or o []) (more q) ∙ by_case (bytes_eq key q) refl
    where
      by_case : (b : Bool) → bytes_eq key q ≡ b → unwrap_or (cond b (Some w) (f q)) [] ≡ unwrap_or (f q) []
      by_case true e = is ∙ ap (λ k. unwrap_or (f k) []) (same_octets key q e)
      by_case false e = refl

-- the list that a key has
pub listed : {T : Type 0} (m : BTreeMap (List ℕ) (List T)) (key : List ℕ) (found_is : Option (List T)) → found_is ≡ get_by (slice_cmp nat_cmp key) m → unwrap_or found_is [] ≡ unwrap_or (under m.entries key) []
listed m key found_is e = ap (λ o. unwrap_or o []) (e ∙ found m.entries key)

pub on_err : {T E : Type 0} (r : Result T E) (P : Type 0) → P → OnErr r P
on_err (Ok x) P p = tt
on_err (Err e) P p = p
