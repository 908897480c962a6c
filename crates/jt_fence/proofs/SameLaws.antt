-- Two regions are equal exactly where their trees of numbers are.
use Rattle.std.proofs.Common.{◌≡◌, ◌↔◌, ℕ, Bool, true, false, eqb, ◌&&◌, IsTrue, refl, sym, ap, subst}
use Rattle.std.proofs.lemmas.Bool.{and_parts}
use Rattle.std.proofs.lemmas.Bool.Decides.{Decides-eqb}
use base.Stored.{Gv, gnil, gnum, gcons}
use Rattle.jt_region_bodies.specs.contracts.rectangle.Rectangle as rectangle
use Rattle.jt_region_bodies.specs.contracts.polygon.Polygon as polygon
use Rattle.jt_fence.specs.declared.fence.Fence.{Fence}
use Rattle.jt_fence.specs.declared.fence.Fence.TheVariants as fence
use Rattle.jt_fence.specs.Settling.{is_same_tree, is_same_fence}

same_tree : (a b : Gv) → is_same_tree a b ≡ true → a ≡ b
same_tree gnil gnil e = refl
same_tree (gnum m) (gnum n) e = ap gnum ((Decides-eqb m n).0 e)
same_tree (gcons a b) (gcons c d) e =
    let both = and_parts (is_same_tree a c) (is_same_tree b d) e in
    let one = same_tree a c both.0 in
    let other = same_tree b d both.1 in
    λ i. gcons (one i) (other i)
same_tree gnil (gnum n) e = absurd cc
same_tree gnil (gcons c d) e = absurd cc
same_tree (gnum m) gnil e = absurd cc
same_tree (gnum m) (gcons c d) e = absurd cc
same_tree (gcons a b) gnil e = absurd cc
same_tree (gcons a b) (gnum n) e = absurd cc

both_true : (a b : Bool) → a ≡ true → b ≡ true → (a && b) ≡ true
both_true true true e f = refl
both_true true false e f = absurd cc
both_true false b e f = absurd cc

own_tree : (a : Gv) → is_same_tree a a ≡ true
own_tree gnil = refl
own_tree (gnum n) = (Decides-eqb n n).1 refl
own_tree (gcons a b) = both_true (is_same_tree a a) (is_same_tree b b) (own_tree a) (own_tree b)

pub same_fence : (a b : Fence) → is_same_fence a b ≡ true → a ≡ b
unfolding is_same_fence
same_fence (fence.Rectangle a) (fence.Rectangle b) e =
    ap fence.Rectangle (rectangle.the_row.coded.inj a b (same_tree _ _ e))
same_fence (fence.Polygon a) (fence.Polygon b) e =
    ap fence.Polygon (polygon.the_row.coded.inj a b (same_tree _ _ e))
same_fence (fence.Rectangle a) (fence.Polygon b) e = absurd cc
same_fence (fence.Polygon a) (fence.Rectangle b) e = absurd cc

pub own_fence : (a : Fence) → is_same_fence a a ≡ true
unfolding is_same_fence
own_fence (fence.Rectangle a) = own_tree (rectangle.the_row.coded.code a)
own_fence (fence.Polygon a) = own_tree (polygon.the_row.coded.code a)

-- a test that tells the same is the same
test_is : (r t : Bool) → (r ≡ true → t ≡ true) → (t ≡ true → r ≡ true) → r ≡ t
test_is true true f g = refl
test_is true false f g = sym (f refl)
test_is false true f g = g refl
test_is false false f g = refl

pub test_of_same : (a b : Fence) (r : Bool) → (IsTrue r ↔ (a ≡ b)) → r ≡ is_same_fence a b
test_of_same a b r exact =
    test_is r (is_same_fence a b) (λ e. subst (λ (q : Fence). is_same_fence a q ≡ true) (exact.0 e) (own_fence a)) (λ e. exact.1 (same_fence a b e))
