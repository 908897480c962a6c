-- Places that are made in a hub's tables.
use Rattle.std.proofs.Common.{◌≡◌, ◌↔◌, IsTrue, ℕ, List, Bool, true, false, refl, sym, subst}
use native.Mathlib.Omega.{arith}
use Rattle.std.specs.Bool.{nat_lt as ltb}
use Rattle.std.proofs.lemmas.Bool.{ltb-true, ltb-false}
use Rattle.jt_platform.specs.declared.request.Request.{Request}
use Rattle.jt_platform.specs.declared.request.Request.TheVariants as ask
use Rattle.jt_platform.specs.declared.request.Entry.{Entry}
use Rattle.jt_platform.specs.Hub.{IsOwed}
use Rattle.jt_platform.specs.Index.{Indexed, HasClose, IsReady, HasPlaces, KeepsPlaces}

-- the place for an owed Close is there
pub ready_close : (x : Indexed) (b : Bool) (h : List Entry) (q : Request) (l reserved : ℕ) → HasPlaces x 0 reserved → (IsTrue b ↔ ((q ≡ ask.Close) × IsOwed h reserved l)) → b ≡ true → IsReady x l q
ready_close x b h q l reserved places owes is =
    let told = owes.0 is in
    let from = told.1.from in
    subst (λ (r : Request). IsReady x l r) (sym told.0) (places l (omega (arith, from)) told.1.upto)

-- places up to one session, and from there to another
pub places_more : (old new : Indexed) (reserved upto : ℕ) → HasPlaces old 0 reserved → KeepsPlaces old new → HasPlaces new reserved upto → HasPlaces new 0 upto
places_more old new reserved upto was kept more s above below = by_place (ltb reserved s) refl
  where
    by_place : (b : Bool) → ltb reserved s ≡ b → HasClose new s
    by_place true is = more s (ltb-true reserved s is) below
    by_place false is = kept s (was s above (ltb-false reserved s is))
