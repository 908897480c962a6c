-- Prefixes, and the fixes of rows behind others.
use Rattle.std.proofs.Common.{◌≡◌, ℕ, List, [], ◌∷◌, ◌++◌, map, take, length, refl, sym, ap, ◌∙◌, subst, All}
use Rattle.std.specs.Prelude.{drop}
use Rattle.std.proofs.Math.Seq.{drop-append_seam, take-append_seam}
use Rattle.std.proofs.lemmas.Grind.{flat_map-append}
use Rattle.std.proofs.lemmas.List.{append-nil, append_assoc, map-append, take-append-drop}
use Rattle.std.proofs.lemmas.List.Elements.{All-take}
use mathlib.Core.List.{IsPrefix}
use Rattle.jt_position.specs.Fixes.{fixes, fixes_of}
use Rattle.jt_store.specs.declared.row.Row.{Row}
use Rattle.jt_store.specs.Units.{carried, fixes_in}

pub prefix_same : {X : Type 0} (xs : List X) → IsPrefix xs xs
prefix_same xs = ([], append-nil xs)

pub prefix_trans : {X : Type 0} (xs ys zs : List X) → IsPrefix xs ys → IsPrefix ys zs → IsPrefix xs zs
prefix_trans xs ys zs p q = (p.0 ++ q.0, sym (append_assoc xs p.0 q.0) ∙ ap (λ l. l ++ q.0) p.1 ∙ q.1)

-- what holds of each element holds of each of a prefix
pub all_in_prefix : {X : Type 0} (P : X → Type 0) (xs ys : List X) → IsPrefix xs ys → All P ys → All P xs
all_in_prefix P xs ys p all = subst (All P) (take-append_seam xs p.0) (All-take P (length xs) (xs ++ p.0) (subst (All P) (sym p.1) all))

-- a prefix and some of what is past it is a prefix
pub prefix_more : {X : Type 0} (xs ys : List X) (n : ℕ) → IsPrefix xs ys → IsPrefix (xs ++ take n (drop (length xs) ys)) ys
prefix_more xs ys n p =
    let past : drop (length xs) ys ≡ p.0 = ap (drop (length xs)) (sym p.1) ∙ drop-append_seam xs p.0 in (
      drop n (drop (length xs) ys),
      append_assoc xs (take n (drop (length xs) ys)) (drop n (drop (length xs) ys))
          ∙ ap (λ l. xs ++ l) (take-append-drop n (drop (length xs) ys) ∙ past)
          ∙ p.1,
    )

fixes_append : (rows more : List Row) → fixes_in (rows ++ more) ≡ fixes_in rows ++ fixes_in more
fixes_append rows more = ap fixes (map-append carried rows more) ∙ flat_map-append fixes_of (map carried rows) (map carried more)

-- the fixes of the first rows are the first fixes
pub prefix_fixes : (rows more : List Row) → IsPrefix rows more → IsPrefix (fixes_in rows) (fixes_in more)
prefix_fixes rows more p = (fixes_in p.0, sym (fixes_append rows p.0) ∙ ap fixes_in p.1)
