-- A terminal stands behind steps of the platform.
use Rattle.std.proofs.Common.{ℕ, zero, suc, ◌<◌, ◌≤◌, ◌≡◌, List, [], ◌∷◌, length, set, Option, Some, None, Bool, true, false, arith, refl, ap, sym, ◌∙◌, subst}
use Rattle.std.specs.Prelude.{map, ◌==◌}
use Rattle.std.proofs.lemmas.Bool.{eqb-false, eqb-true}
use Rattle.std.proofs.lemmas.List.{get_or-set_other, get_or-set_same, length-append, take-append-le}
use Rattle.jt_stream.specs.Unplaced.{Unplaced}
use Rattle.jt_session.specs.Talk.{State}
use Rattle.jt_order_terminal.specs.Terminals.{StandsForLine}
use Rattle.jt_octets.specs.World.{Line, World, completed_item, line_at, new_line, newest, newest_place, taken_of, written}
use Rattle.jt_octets.specs.Steps.{line_behind, shut, talk_after_item}
use Rattle.jt_octets.specs.Steps as plain
use Rattle.jt_octets.proofs.Exactly.{same_place}
use Rattle.jt_play.proofs.Fair.{shut_place}
use Rattle.jt_play.proofs.Shutting.{shut_down}
use Rattle.jt_order_octets.specs.World.{OrderWorld, first_read}
use Rattle.jt_order_octets.specs.Steps.{Cut, Does, Down, Event, Issues, MayCome, Offers, RestartPlatform, Up, after, oldest_frame, results_after, with_order_written}
use Rattle.jt_order_terminal_steps.specs.Standing.{TerminalParts, TerminalStandsIn}
use Rattle.jt_order_terminal_steps.specs.Claim.{IsOfTerminal, TerminalStandsOn}
use Rattle.jt_order_terminal_steps.proofs.Lines.{Most}

-- ---- a line that the terminal finds as it was

-- the terminal read the same octets of it
record Alike (old new : Line) : Type 0 where
  taken : taken_of new.down ≡ taken_of old.down
  most : new.down.taken ≤ length new.down.octets

alike_same : (old new : Line) → old.down.taken ≤ length old.down.octets → new.down ≡ old.down → Alike old new
alike_same old new most e = record { taken = ap taken_of e; most = subst (λ wire. wire.taken ≤ length wire.octets) (sym e) most }

-- more octets down
alike_written : (old new : Line) (octets : List ℕ) → old.down.taken ≤ length old.down.octets → new.down ≡ written old.down octets → Alike old new
alike_written old new octets most e = record {
  taken = ap taken_of e ∙ take-append-le old.down.taken old.down.octets octets most;
  most = subst (λ wire. wire.taken ≤ length wire.octets) (sym e) (omega (arith, most, length-append old.down.octets octets));
}

-- of lines of which one changed the newest is alike
alike_set : (lines : List Line) (i : ℕ) (new : Line) → i < length lines → Most lines → (line_at lines i ≡ line_at lines (newest_place lines) → Alike (line_at lines i) new)
    → Alike (line_at lines (newest_place lines)) (line_at (set lines i new) (newest_place (set lines i new)))
alike_set lines i new lt most same = subst (λ (n : ℕ). Alike (line_at lines (newest_place lines)) (line_at (set lines i new) n)) (sym (same_place lines i new)) (by (i == newest_place lines) refl)
  where
    by : (b : Bool) → (i == newest_place lines) ≡ b → Alike (line_at lines (newest_place lines)) (line_at (set lines i new) (newest_place lines))
    by true e =
        let is = eqb-true i (newest_place lines) e in
        subst (λ (n : ℕ). Alike (line_at lines n) (line_at (set lines i new) n)) is (subst (Alike (line_at lines i)) (sym (get_or-set_same lines i new new_line lt)) (same (ap (line_at lines) is)))
    by false e = alike_same (line_at lines (newest_place lines)) (line_at (set lines i new) (newest_place lines)) most
        (ap (λ (l : Line). l.down) (get_or-set_other lines i (newest_place lines) new new_line (λ f. eqb-false i (newest_place lines) e (sym f))))

-- of the newest line no more was read than was written
most_at : (lines : List Line) (i : ℕ) → Most lines → line_at lines i ≡ line_at lines (newest_place lines) → (line_at lines i).down.taken ≤ length (line_at lines i).down.octets
most_at lines i most e = subst (λ (l : Line). l.down.taken ≤ length l.down.octets) (sym e) most

-- ---- the world

module _ (w : OrderWorld) (t : TerminalParts) (stands : TerminalStandsIn w t) where
  -- it stands where its machine, the log and the tables are the same, and the newest line is alike
  stands_there : (v : OrderWorld) → v.base.terminal ≡ w.base.terminal → v.base.partial ≡ w.base.partial → v.log ≡ w.log → v.tables ≡ w.tables → Alike (newest w.base) (newest v.base) → TerminalStandsIn v t
  stands_there v terminal partial log tables line = record {
    terminal = terminal ∙ stands.terminal;
    sound = stands.sound;
    log = log ∙ stands.log;
    tables = tables ∙ stands.tables;
    ledger = stands.ledger;
    partial = partial ∙ stands.partial;
    most = line.most;
    hears = λ up. subst (StandsForLine t.stream) (sym line.taken) (stands.hears up);
  }

  self : Alike (newest w.base) (newest w.base)
  self = alike_same (newest w.base) (newest w.base) stands.most refl

  -- more was written down the line in a place
  wrote : (i : ℕ) (new : Line) (octets : List ℕ) → i < length w.base.lines → new.down ≡ written (line_at w.base.lines i).down octets → Alike (newest w.base) (line_at (set w.base.lines i new) (newest_place (set w.base.lines i new)))
  wrote i new octets lt e = alike_set w.base.lines i new lt stands.most (λ same. alike_written (line_at w.base.lines i) new octets (most_at w.base.lines i stands.most same) e)

  ups : (i : ℕ) (way : _) (telling : _) (kept : Option State) → (line_at w.base.lines i).session ≡ kept → i < length w.base.lines → TerminalStandsIn (after w (Up i way telling)) t
  ups i way telling kept e lt = subst (λ (b : World). TerminalStandsIn (record w { base = b; results = results_after w.results telling }) t) (sym (ap (λ (x : Option State). plain.after_take w.base i x item way) e)) (by kept)
    where
      item : Option Unplaced
      item = completed_item (line_at w.base.lines i).up

      by : (x : Option State) → TerminalStandsIn (record w { base = plain.after_take w.base i x item way; results = results_after w.results telling }) t
      by None = stands_there (record w { base = w.base; results = results_after w.results telling }) refl refl refl refl self
      by (Some state) =
          let k = talk_after_item state item way in
          stands_there (record w { base = plain.after_talk w.base i k; results = results_after w.results telling }) refl refl refl refl (wrote i (line_behind (line_at w.base.lines i) k) k.written lt refl)

  stands_on : (event : Event) → MayCome w event → (IsOfTerminal event → ⊥) → TerminalStandsIn (after w event) t
  stands_on (Issues order) may other = stands_there (after w (Issues order)) refl refl refl refl self
  stands_on (Does s) may other = absurd (other tt)
  stands_on (Up i way telling) may other = ups i way telling (line_at w.base.lines i).session refl may.0.opened
  stands_on (Offers i) may other = stands_there (after w (Offers i)) refl refl refl refl (wrote i (with_order_written (line_at w.base.lines i) (oldest_frame w (first_read w i))) (oldest_frame w (first_read w i)) may.opened refl)
  stands_on (Down takes responds) may other = absurd (other tt)
  stands_on (Cut i) may other = stands_there (after w (Cut i)) refl refl refl refl (alike_set w.base.lines i (shut (line_at w.base.lines i)) may.opened stands.most (λ same. alike_same (line_at w.base.lines i) (shut (line_at w.base.lines i)) (most_at w.base.lines i stands.most same) refl))
  stands_on RestartPlatform may other = stands_there (after w RestartPlatform) refl refl refl refl
      (alike_same (newest w.base) (newest (after w RestartPlatform).base) stands.most (ap (λ (n : ℕ). (line_at (map shut w.base.lines) n).down) (shut_place w.base.lines) ∙ shut_down w.base.lines (newest_place w.base.lines)))

pub terminal_stands_on : TerminalStandsOn
terminal_stands_on w event t may other stands = stands_on w t stands event may other
