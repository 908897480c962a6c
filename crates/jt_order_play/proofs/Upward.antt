-- Octets up one after another, until the session takes no more.
use Rattle.std.proofs.Common.{ℕ, zero, suc, ◌+◌, ◌<◌, ◌≤◌, ◌≡◌, ◌⊎◌, List, [], ◌∷◌, length, set, Option, Some, None, IsSome, Bool, true, false, arith, refl, ap, sym, ◌∙◌, subst, inl, inr}
use Rattle.std.specs.Prelude.{if◌then◌else◌, IfSome, is_none, min}
use Rattle.std.proofs.Math.Nat.{min-eq_left, min-eq_right}
use Rattle.std.proofs.lemmas.Bool.{cases_lt, false≢true}
use Rattle.jt_session.specs.Talk.{State as Session, Way}
use Rattle.jt_octets.specs.World.{Line, Wire, completed_item, line_at, with_one_taken}
use Rattle.jt_octets.specs.Steps.{after_take, line_behind, shut, talk_after_item}
use Rattle.jt_play.specs.Playing.{left_of, way_at}
use Rattle.jt_order_octets.specs.World.{OrderWorld, first_read}
use Rattle.jt_order_octets.specs.Steps.{Cut, Offers, Telling, Up, after, oldest_frame, with_order_written}
use Rattle.jt_order_play.specs.Playing.{OrderPlay, closes, goes_up, may_offer, offers_at, result_of_next, takes, takes_octet, takes_one, takes_up, told_by, with_world}
use Rattle.jt_play.proofs.Reading.{newest_at}
use Rattle.jt_order_play.proofs.Composing.{GoesParts, goes_at, goes_parts, takes_go, takes_stop}

-- ---- one octet less is left

up_set : (lines : List Line) (place : ℕ) (x : Line) → x.up ≡ (line_at lines place).up → (line_at (set lines place x) place).up ≡ (line_at lines place).up
up_set [] zero x e = refl
up_set [] (suc place) x e = refl
up_set (l ∷ lines) zero x e = e
up_set (l ∷ lines) (suc place) x e = up_set lines place x e

-- a line with octets left stands among the lines
there : (lines : List Line) (place : ℕ) (x : Line) → (line_at lines place).up.taken < length (line_at lines place).up.octets → line_at (set lines place x) place ≡ x
there [] place x lt = absurd (omega (arith, lt))
there (l ∷ lines) zero x lt = refl
there (l ∷ lines) (suc place) x lt = there lines place x lt

up_closes : (w : OrderWorld) (place : ℕ) → (line_at (closes place w).base.lines place).up ≡ (line_at w.base.lines place).up
up_closes w place = by (is_none (line_at w.base.lines place).session)
  where
    by : (b : Bool) → (line_at (if b then after w (Cut place) else w).base.lines place).up ≡ (line_at w.base.lines place).up
    by true = up_set w.base.lines place (shut (line_at w.base.lines place)) refl
    by false = refl

up_offers : (w : OrderWorld) (place : ℕ) → (line_at (offers_at place w).base.lines place).up ≡ (line_at w.base.lines place).up
up_offers w place = by (may_offer w place)
  where
    by : (b : Bool) → (line_at (if b then after w (Offers place) else w).base.lines place).up ≡ (line_at w.base.lines place).up
    by true = up_set w.base.lines place (with_order_written (line_at w.base.lines place) (oldest_frame w (first_read w place))) refl
    by false = refl

up_takes : (w : OrderWorld) (place : ℕ) (s : Session) (way : Way) (telling : Telling) → (line_at w.base.lines place).session ≡ Some s → (line_at w.base.lines place).up.taken < length (line_at w.base.lines place).up.octets
    → (line_at (after w (Up place way telling)).base.lines place).up ≡ with_one_taken (line_at w.base.lines place).up
up_takes w place s way telling e lt =
    ap (λ (o : Option Session). (line_at (after_take w.base place o (completed_item (line_at w.base.lines place).up) way).lines place).up) e
    ∙ ap (λ (l : Line). l.up) (there w.base.lines place (line_behind (line_at w.base.lines place) (talk_after_item s (completed_item (line_at w.base.lines place).up) way)) lt)

one_less : (w : OrderWorld) (place n : ℕ) → goes_at w place ≡ true → left_of (line_at w.base.lines place).up ≤ suc n → left_of (line_at (takes_one w place).base.lines place).up ≤ n
one_less w place n e most = by (line_at w.base.lines place).session refl
  where
    g : GoesParts (line_at w.base.lines place)
    g = goes_parts (line_at w.base.lines place) e

    by : (o : Option Session) → (line_at w.base.lines place).session ≡ o → left_of (line_at (closes place (takes_octet w place o)).base.lines place).up ≤ n
    by None f = absurd (false≢true (subst (λ (o : Option Session). IsSome o) f g.some))
    by (Some s) f =
        let way = way_at w.base place s (completed_item (line_at w.base.lines place).up) in
        let mid = after w (Up place way (told_by (result_of_next w place way))) in
        let is : (line_at (closes place (offers_at place mid)).base.lines place).up ≡ with_one_taken (line_at w.base.lines place).up =
        up_closes (offers_at place mid) place ∙ (up_offers mid place ∙ up_takes w place s way (told_by (result_of_next w place way)) f g.left) in
        subst (λ (wire : Wire). left_of wire ≤ n) (sym is) (omega (arith, most))

none_goes : (w : OrderWorld) (place : ℕ) → goes_at w place ≡ true → left_of (line_at w.base.lines place).up ≤ 0 → ⊥
none_goes w place e most = let left = (goes_parts (line_at w.base.lines place) e).left in omega (arith, left, most)

-- ---- until none goes

-- where none goes any more it is the same by each count that is large enough
takes_stuck : (n m : ℕ) (w : OrderWorld) (place : ℕ) → goes_at (takes n w place) place ≡ false → left_of (line_at w.base.lines place).up ≤ m → takes m w place ≡ takes n w place
takes_stuck zero m w place stuck most = takes_stop m w place stuck
takes_stuck (suc n) m w place stuck most = by (goes_at w place) refl m (λ (k : ℕ) s h. takes_stuck n k (takes_one w place) place s h) most
  where
    by : (b : Bool) → goes_at w place ≡ b → (m : ℕ) → ((k : ℕ) → goes_at (takes n (takes_one w place) place) place ≡ false → left_of (line_at (takes_one w place).base.lines place).up ≤ k → takes k (takes_one w place) place ≡ takes n (takes_one w place) place)
        → left_of (line_at w.base.lines place).up ≤ m → takes m w place ≡ takes (suc n) w place
    by false e m more most = takes_stop m w place e ∙ sym (takes_stop (suc n) w place e)
    by true e zero more most = absurd (none_goes w place e most)
    by true e (suc m) more most = takes_go m w place e ∙ (more m (ap (λ (z : OrderWorld). goes_at z place) (sym (takes_go n w place e)) ∙ stuck) (one_less w place m e most) ∙ sym (takes_go n w place e))

all_taken : (n : ℕ) (w : OrderWorld) (place : ℕ) → left_of (line_at w.base.lines place).up ≤ n → goes_at (takes n w place) place ≡ false
all_taken zero w place most = by (goes_at w place) refl
  where
    by : (b : Bool) → goes_at w place ≡ b → goes_at w place ≡ false
    by false e = e
    by true e = absurd (none_goes w place e most)
all_taken (suc n) w place most = by (goes_at w place) refl (all_taken n (takes_one w place) place)
  where
    by : (b : Bool) → goes_at w place ≡ b → (left_of (line_at (takes_one w place).base.lines place).up ≤ n → goes_at (takes n (takes_one w place) place) place ≡ false) → goes_at (takes (suc n) w place) place ≡ false
    by true e more = ap (λ (z : OrderWorld). goes_at z place) (takes_go n w place e) ∙ more (one_less w place n e most)
    by false e more = ap (λ (z : OrderWorld). goes_at z place) (takes_stop (suc n) w place e) ∙ e

takes_min : (n : ℕ) (w : OrderWorld) (place : ℕ) → takes (min n (left_of (line_at w.base.lines place).up)) w place ≡ takes n w place
takes_min n w place = by (cases_lt n (left_of (line_at w.base.lines place).up))
  where
    by : (n < left_of (line_at w.base.lines place).up) ⊎ (left_of (line_at w.base.lines place).up ≤ n) → takes (min n (left_of (line_at w.base.lines place).up)) w place ≡ takes n w place
    by (inl lt) = ap (λ (k : ℕ). takes k w place) (min-eq_left (omega (arith, lt)))
    by (inr le) = ap (λ (k : ℕ). takes k w place) (min-eq_right le) ∙ sym (takes_stuck (left_of (line_at w.base.lines place).up) n w place (all_taken (left_of (line_at w.base.lines place).up) w place (omega arith)) le)

-- ---- the call

pub up_some : (p now : OrderPlay) (place : ℕ) (count : Option ℕ) (n most : ℕ) → count ≡ Some n → IfSome count (λ (some : ℕ). most ≡ some) → now ≡ with_world p (takes most p.world place) → now ≡ takes_up p place count
up_some p now place count n most is e done =
    done ∙ (ap (λ (k : ℕ). with_world p (takes k p.world place)) (subst (λ (o : Option ℕ). IfSome o (λ (some : ℕ). most ≡ some)) is e)
    ∙ (ap (with_world p) (sym (takes_min n p.world place)) ∙ ap (takes_up p place) (sym is)))

pub up_all : (p now : OrderPlay) (place : ℕ) (count : Option ℕ) (most : ℕ) → count ≡ None → now ≡ with_world p (takes most p.world place) → goes_at now.world place ≡ false → now ≡ takes_up p place count
up_all p now place count most none done stuck =
    done ∙ (ap (with_world p) (sym (takes_stuck most (left_of (line_at p.world.base.lines place).up) p.world place (ap (λ (q : OrderPlay). goes_at q.world place) (sym done) ∙ stuck) (omega arith)))
    ∙ ap (takes_up p place) (sym none))

-- the newest line is in this place
pub up_goes : (p : OrderPlay) (place : ℕ) → length p.world.base.lines ≡ place + 1 → takes_up p place None ≡ goes_up p
up_goes p place last = ap (λ (k : ℕ). takes_up p k None) (sym (newest_at p.world.base.lines place last))
