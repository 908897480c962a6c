-- A window's ring, and what stands behind it.
use Rattle.std.proofs.Common.{ℕ, ◌≡◌, ◌<◌, ◌≤◌, ◌+◌, ◌-◌, min, List, [], ◌∷◌, ◌++◌, length, drop, slice_get, Bool, false, Option, refl, ap, sym, subst, ◌∙◌, arith}
use Rattle.std.specs.Prelude.{MatchOption, IsTrue, ◌==◌}
use Rattle.std.proofs.Math.Dec.{eqb-suc-zero}
use Rattle.std.proofs.lemmas.List.{length-append, length-drop}

pub none_left : {A : Type 0} (xs : List A) → length xs ≡ 0 → xs ≡ []
none_left [] e = refl
none_left (x ∷ xs) e = absurd (omega (arith, e))

-- nothing is in a window whose ring is empty
pub none_in : {A : Type 0} (ring behind all : List A) (is_empty : Bool) → is_empty ≡ (length ring == 0) → (length ring < 16 → behind ≡ []) → ring ++ behind ≡ all
    → (IsTrue is_empty → all ≡ []) × (all ≡ [] → IsTrue is_empty)
none_in [] behind all b e none is = (λ _. sym is ∙ none (omega arith), λ _. e)
none_in (x ∷ ring) behind all b e none is = (λ t. let no : b ≡ false = e ∙ eqb-suc-zero (length ring) in absurd cc, λ n. let no : x ∷ (ring ++ behind) ≡ [] = is ∙ n in absurd cc)

-- the first item, and what is left
pub first_gone : {A : Type 0} (ring behind old r b : List A) (first : Option A) → first ≡ slice_get ring 0 → (length ring < 16 → behind ≡ []) → ring ++ behind ≡ old → r ++ b ≡ drop 1 ring ++ behind
    → MatchOption first ((old ≡ []) × (r ++ b ≡ [])) (λ item. old ≡ item ∷ (r ++ b))
first_gone {A = A} [] behind old r b first is none all e = subst (λ (o : Option A). MatchOption o ((old ≡ []) × (r ++ b ≡ [])) (λ item. old ≡ item ∷ (r ++ b))) (sym is) (let nil = none (omega arith) in (sym all ∙ nil, e ∙ nil))
first_gone {A = A} (x ∷ ring) behind old r b first is none all e = subst (λ (o : Option A). MatchOption o ((old ≡ []) × (r ++ b ≡ [])) (λ item. old ≡ item ∷ (r ++ b))) (sym is) (sym all ∙ ap (λ more. x ∷ more) (sym e))

few_before : (ring behind now left capacity : ℕ) → capacity ≡ 16 → 1 ≤ behind → left ≡ ring - 1 → now ≡ min capacity (left + min 1 behind) → now < 16 → ring < 16
few_before ring behind now left capacity is some gone long lt = omega arith

nothing_behind : {A : Type 0} (ring behind : List A) (now capacity : ℕ) → capacity ≡ 16 → (length ring < 16 → behind ≡ []) → now ≡ min capacity (length (drop 1 ring) + min 1 (length behind)) → now < 16 → length behind ≡ 0
nothing_behind ring [] now capacity is none long lt = refl
nothing_behind ring (y ∷ ys) now capacity is none long lt =
    let few = few_before (length ring) (length (y ∷ ys)) now (length (drop 1 ring)) capacity is (omega arith) (length-drop 1 ring) long lt in
    let no : y ∷ ys ≡ [] = none few in absurd cc

none_after : (now b left behind capacity : ℕ) → capacity ≡ 16 → behind ≡ 0 → now + b ≡ left + behind → now ≡ min capacity (left + min 1 behind) → now < 16 → b ≡ 0
none_after now b left behind capacity is nil sum long lt = omega arith

-- Nothing stands behind a ring with room, also once it gave up its first item and took up one where there was one.
pub still_full : {A : Type 0} (ring behind r b : List A) (capacity : ℕ) → capacity ≡ 16 → (length ring < 16 → behind ≡ []) → length r ≡ min capacity (length (drop 1 ring) + min 1 (length behind)) → r ++ b ≡ drop 1 ring ++ behind → length r < 16 → b ≡ []
still_full {A = A} ring behind r b capacity is none long all lt =
    let nil = nothing_behind ring behind (length r) capacity is none long lt in
    let sum : length r + length b ≡ length (drop 1 ring) + length behind = sym (length-append r b) ∙ (ap (λ (xs : List A). length xs) all ∙ length-append (drop 1 ring) behind) in
    none_left b (none_after (length r) (length b) (length (drop 1 ring)) (length behind) capacity is nil sum long lt)
