-- What is kept of a region behind a change, as a function.
use Rattle.std.proofs.Common.{◌≡◌, ℕ, ◌+◌, ◌<◌, ◌≤◌, Bool, true, false, ◌⊎◌, inl, inr, cond, List, [], ◌∷◌, ◌++◌, map, length, take, drop, get_or, Option, Some, None, refl, sym, ap, ◌∙◌, subst, arith}
use Rattle.std.proofs.lemmas.List.{drop_all, drop_more}
use Rattle.jt_regions.specs.Tables.{Regions}
use Rattle.jt_fence.specs.declared.fence.Fence.{Fence}
use Rattle.jt_fence.specs.declared.watched.Watched.{Watched}
use Rattle.jt_fence.specs.Watching.{IsIn, IsKept, IsSettled, AreSettled, Seen, fences_of}
use Rattle.jt_fence.specs.Settling.{is_same_fence, settled_in, settled_on}
use Rattle.jt_fence.proofs.SameLaws.{same_fence, own_fence}

-- ---- the loop over what was kept

head_is : (w : Watched) (rest : List Watched) (fence : Fence) (b : Bool) → is_same_fence w.fence fence ≡ b
    → settled_in (w ∷ rest) fence ≡ cond b (record { fence = fence; was_inside = w.was_inside; run = w.run }) (settled_in rest fence)
head_is w rest fence b e = ap (λ (t : Bool). cond t (record { fence = fence; was_inside = w.was_inside; run = w.run }) (settled_in rest fence)) e

-- one more was looked at, which is another
pub settled_more : (old : List Watched) (i : ℕ) (w d : Watched) (fence : Fence) (whole : Watched) → i < length old → w ≡ get_or old i d
    → is_same_fence w.fence fence ≡ false → whole ≡ settled_in (drop i old) fence → whole ≡ settled_in (drop (i + 1) old) fence
settled_more old i w d fence whole lt at other before =
    let cut : drop i old ≡ w ∷ drop (i + 1) old = drop_more old i d lt ∙ ap (λ (v : Watched). v ∷ drop (i + 1) old) (sym at) in
    before ∙ ap (λ (l : List Watched). settled_in l fence) cut ∙ head_is w (drop (i + 1) old) fence false other

-- it was found
pub settled_found : (old : List Watched) (i : ℕ) (w d : Watched) (fence : Fence) (whole : Watched) → i < length old → w ≡ get_or old i d
    → is_same_fence w.fence fence ≡ true → whole ≡ settled_in (drop i old) fence
    → record { fence = fence; was_inside = w.was_inside; run = w.run } ≡ whole
settled_found old i w d fence whole lt at same before =
    let cut : drop i old ≡ w ∷ drop (i + 1) old = drop_more old i d lt ∙ ap (λ (v : Watched). v ∷ drop (i + 1) old) (sym at) in
    sym (before ∙ ap (λ (l : List Watched). settled_in l fence) cut ∙ head_is w (drop (i + 1) old) fence true same)

-- none of them is it
pub settled_none : (old : List Watched) (i : ℕ) (fence : Fence) (whole : Watched) → length old ≤ i → whole ≡ settled_in (drop i old) fence
    → record { fence = fence; was_inside = false; run = None } ≡ whole
settled_none old i fence whole le before = sym (before ∙ ap (λ (l : List Watched). settled_in l fence) (drop_all i old le))

-- ---- as the definitions say it

not_same : (b : Bool) → b ≡ false → b ≡ true → ⊥
not_same true is h = absurd cc
not_same false is h = absurd cc

none_kept : (w : Watched) (old : List Watched) (fence q : Fence) → q ≡ fence → is_same_fence w.fence fence ≡ false
    → (IsKept q old → ⊥) → (w.fence ≡ q) ⊎ IsKept q old → ⊥
none_kept w old fence q is other none (inl e) =
    not_same (is_same_fence w.fence fence) other
    (subst (λ (r : Fence). is_same_fence r fence ≡ true) (sym (e ∙ is)) (own_fence fence))
none_kept w old fence q is other none (inr h) = none h

is_settled : (old : List Watched) (fence : Fence) → IsSettled fence old (settled_in old fence)
is_settled [] fence = (refl, inr (λ h. h, refl, refl))
is_settled (w ∷ old) fence = here (is_same_fence w.fence fence) refl (is_settled old fence)
  where
    here : (b : Bool) → is_same_fence w.fence fence ≡ b → IsSettled fence old (settled_in old fence)
        → IsSettled fence (w ∷ old) (cond b (record { fence = fence; was_inside = w.was_inside; run = w.run }) (settled_in old fence))
    here true same rest =
        let is = same_fence w.fence fence same in
        (refl, inl (inl (λ i. record { fence = sym is i; was_inside = w.was_inside; run = w.run })))
    here false other rest = (
      rest.0,
      elim rest.1 [
        | inl h ↦ inl (inr h)
        | inr h ↦ inr (none_kept w old fence (settled_in old fence).fence rest.0 other h.0, h.1, h.2)
      ],
    )

pub are_settled : (fences : List Fence) (old : List Watched) → AreSettled fences old (map (settled_in old) fences)
are_settled [] old = tt
are_settled (fence ∷ fences) old = (is_settled old fence, are_settled fences old)

-- ---- the call

pub settled_all : (fences : List Fence) (old items : List Watched) → items ≡ map (settled_in old) fences → AreSettled fences old items
settled_all fences old items is = subst (AreSettled fences old) (sym is) (are_settled fences old)

pub change_settles : (seen : Seen) (table new : Regions) (items deref news : List Watched) → record { table = table; watched = items } ≡ seen
    → deref ≡ items → news ≡ map (settled_in deref) (fences_of new) → record { table = new; watched = news } ≡ settled_on seen new
change_settles seen table new items deref news view same is =
    ap (λ (l : List Watched). record { table = new; watched = l })
    (is ∙ ap (λ (old : List Watched). map (settled_in old) (fences_of new)) (same ∙ ap (λ (w : Seen). w.watched) view))
