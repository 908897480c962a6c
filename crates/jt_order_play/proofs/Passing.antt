-- Octets down, until none is left or so many were read.
use Rattle.std.proofs.Common.{ℕ, zero, suc, ◌≤◌, ◌≡◌, ◌⊎◌, List, [], ◌∷◌, length, Option, Some, None, Bool, true, false, arith, refl, ap, sym, ◌∙◌, subst, inl, inr}
use Rattle.std.specs.Prelude.{if◌then◌else◌, min, IfSome}
use Rattle.std.proofs.Math.Nat.{min-eq_left, min-eq_right}
use Rattle.std.proofs.lemmas.Bool.{false≢true, and_parts, ltb-true}
use Rattle.jt_terminal_rule.specs.Rule.{Ruled}
use Rattle.jt_terminal_rule.specs.Machines.{as_steps, frames_by}
use Rattle.jt_terminal_rule.specs.Steps.{TerminalStep}
use Rattle.jt_octets.specs.World.{World, Line, Wire, line_at, newest, newest_place, with_one_taken, written}
use Rattle.jt_octets.specs.Steps.{writing}
use Rattle.jt_play.specs.Playing.{behind_first, has_left, left_of, takes_first}
use Rattle.jt_play.proofs.Cutting.{done_world, wrote}
use Rattle.jt_play.proofs.Opening.{opens_none}
use Rattle.jt_play.proofs.Reading.{none_behind}
use Rattle.jt_play.proofs.Rounds.{HasAtMost, and_none, newest_set, none_left, some_left}
use Rattle.jt_play.proofs.Wholes.{either_way}
use Rattle.jt_order_octets.specs.World.{OrderWorld}
use Rattle.jt_order_octets.specs.Steps.{Down, after, heard_next, response_of, with_one_read}
use Rattle.jt_order_play.specs.Playing.{OrderPlay, reads, reads_down, reads_more, reads_one}
use Rattle.jt_order_play.proofs.Composing.{still, goes}
use Rattle.jt_order_play.proofs.Doing.{done_is}
use Rattle.jt_order_play.proofs.Hearing.{answers_directly, heard_opens, reads_ruled, ruled_of, whole_takes}
use Rattle.jt_order_play.proofs.Reading.{answered_base}

-- what goes up leaves what is to be read
writing_down : (lines : List Line) (octets : List ℕ) → (line_at (writing lines octets) (newest_place (writing lines octets))).down ≡ (line_at lines (newest_place lines)).down
writing_down [] octets = refl
writing_down (line ∷ lines) octets =
    ap (λ (l : Line). l.down) (newest_set (line ∷ lines) (record (line_at (line ∷ lines) (length lines)) { up = written (line_at (line ∷ lines) (length lines)).up octets }) (omega arith))

wrote_down : (lines : List Line) (frames : List (List ℕ)) → (line_at (wrote lines frames) (newest_place (wrote lines frames))).down ≡ (line_at lines (newest_place lines)).down
wrote_down lines [] = refl
wrote_down lines (frame ∷ frames) = wrote_down (writing lines frame) frames ∙ writing_down lines frame

-- one octet less is left behind one that is read
module _ (p : OrderPlay) (n : ℕ) (may : reads_more p ≡ true) (most : HasAtMost p.world.base (suc n)) where
  abbrev w : OrderWorld
  w = p.world

  abbrev r : Ruled
  r = ruled_of p.state (heard_next w)

  abbrev read : OrderWorld
  read = after w (Down (takes_first r.steps) true)

  abbrev base : World
  base = with_one_read w.base (response_of (heard_next w)) (takes_first r.steps)

  parts : (w.base.terminal.using ≡ true) × (has_left (newest w.base).down ≡ true)
  parts = and_parts w.base.terminal.using (has_left (newest w.base).down) may

  base_most : HasAtMost base n
  base_most =
      let left = ltb-true (newest w.base).down.taken (length (newest w.base).down.octets) parts.1 in
      subst (λ (l : Line). left_of l.down ≤ n) (sym (newest_set w.base.lines (record (newest w.base) { down = with_one_taken (newest w.base).down }) (some_left w.base.lines parts.1))) (omega (arith, left, most))

  read_most : HasAtMost read.base n
  read_most = subst (λ (b : World). HasAtMost b n) (sym (answered_base w (heard_next w) (takes_first r.steps) (whole_takes p.state (heard_next w))))
      (subst (λ (z : Wire). left_of z ≤ n) (sym (wrote_down base.lines (answers_directly w (heard_next w)))) base_most)

  abbrev steps : List TerminalStep
  steps = as_steps read.base.terminal (behind_first r.steps)

  one_most : HasAtMost (reads_one p).world.base n
  one_most =
      let opens = none_behind r.steps (heard_opens p.state (heard_next w)) in
      subst (λ (q : OrderPlay). HasAtMost q.world.base n) (sym (reads_ruled p (heard_next w)))
      (subst (λ (b : World). HasAtMost b n) (sym (ap (λ (v : OrderWorld). v.base) (done_is read (behind_first r.steps) opens) ∙ done_world read.base steps (opens_none read.base.terminal (behind_first r.steps) opens)))
      (subst (λ (z : Wire). left_of z ≤ n) (sym (wrote_down read.base.lines (frames_by read.base.terminal steps))) read_most))

-- where nothing is left to be read, so many octets, or more, are as many as there are
reads_stuck : (n m : ℕ) (p : OrderPlay) → reads_more (reads n p) ≡ false → HasAtMost p.world.base m → reads m p ≡ reads n p
reads_stuck zero m p stuck most = still m p stuck
reads_stuck (suc n) m p stuck most = by (reads_more p) refl m (λ (k : ℕ) s h. reads_stuck n k (reads_one p) s h) most
  where
    by : (b : Bool) → reads_more p ≡ b → (m : ℕ) → ((k : ℕ) → reads_more (reads n (reads_one p)) ≡ false → HasAtMost (reads_one p).world.base k → reads k (reads_one p) ≡ reads n (reads_one p)) → HasAtMost p.world.base m → reads m p ≡ reads (suc n) p
    by false e m more most = still m p e ∙ sym (still (suc n) p e)
    by true e zero more most = absurd (false≢true (sym (none_left (newest p.world.base).down most) ∙ (and_parts p.world.base.terminal.using (has_left (newest p.world.base).down) e).1))
    by true e (suc m) more most = goes m p e ∙ (more m (ap reads_more (sym (goes n p e)) ∙ stuck) (one_most p m e most) ∙ sym (goes n p e))

-- after as many as are left none is
all_read : (n : ℕ) (p : OrderPlay) → HasAtMost p.world.base n → reads_more (reads n p) ≡ false
all_read zero p most = and_none p.world.base.terminal.using (has_left (newest p.world.base).down) (λ u. none_left (newest p.world.base).down most)
all_read (suc n) p most = by (reads_more p) refl (λ (more : HasAtMost (reads_one p).world.base n). all_read n (reads_one p) more)
  where
    by : (b : Bool) → reads_more p ≡ b → (HasAtMost (reads_one p).world.base n → reads_more (reads n (reads_one p)) ≡ false) → reads_more (reads (suc n) p) ≡ false
    by true e more = ap reads_more (goes n p e) ∙ more (one_most p n e most)
    by false e more = ap reads_more (still (suc n) p e) ∙ e

reads_min : (n : ℕ) (p : OrderPlay) → reads (min n (left_of (newest p.world.base).down)) p ≡ reads n p
reads_min n p = by (either_way n (left_of (newest p.world.base).down))
  where
    by : (n ≤ left_of (newest p.world.base).down) ⊎ (left_of (newest p.world.base).down ≤ n) → reads (min n (left_of (newest p.world.base).down)) p ≡ reads n p
    by (inl le) = ap (λ (k : ℕ). reads k p) (min-eq_left le)
    by (inr le) = ap (λ (k : ℕ). reads k p) (min-eq_right le) ∙ sym (reads_stuck (left_of (newest p.world.base).down) n p (all_read (left_of (newest p.world.base).down) p (omega arith)) le)

pub down_some : (p : OrderPlay) (count : Option ℕ) (n most : ℕ) → count ≡ Some n → IfSome count (λ (some : ℕ). most ≡ some) → reads most p ≡ reads_down p count
down_some p count n most is e =
    ap (λ (k : ℕ). reads k p) (subst (λ (o : Option ℕ). IfSome o (λ (some : ℕ). most ≡ some)) is e) ∙ (sym (reads_min n p) ∙ ap (reads_down p) (sym is))

pub down_all : (p now : OrderPlay) (count : Option ℕ) (most : ℕ) → count ≡ None → now ≡ reads most p → reads_more now ≡ false → now ≡ reads_down p count
down_all p now count most none is stuck = is ∙ (sym (reads_stuck most (left_of (newest p.world.base).down) p (ap reads_more (sym is) ∙ stuck) (omega arith)) ∙ ap (reads_down p) (sym none))
