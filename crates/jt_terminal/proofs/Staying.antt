-- A terminal without a line is sound where its lists, its settings and its parameters are those of a sound one.
use Rattle.std.proofs.Common.{◌≡◌, ◌<◌, ◌≤◌, ◌+◌, ◌++◌, length, Option, Some, None, ap, sym, ◌∙◌, subst, arith}
use Rattle.std.specs.Prelude.{All}
use Rattle.jt_value.specs.Serials.{gap_of}
use Rattle.jt_params.specs.Tables.{HasOctets}
use Rattle.jt_position.specs.Fixes.{IsFix}
use Rattle.jt_store.specs.Tables.{WhereKnown}
use Rattle.jt_store.specs.Vaults.{AreInOrder, Held, formed_count, gap_after}
use Rattle.jt_store.specs.Verdicts.{numbered}
use Rattle.jt_terminal_rule.specs.declared.state.State.{State}
use Rattle.jt_terminal_rule.specs.Machines.{Agrees, AreSerials, IsInOrder, IsPhase}
use Rattle.jt_terminal_rule.specs.Messages.{AreSettings}
use Rattle.jt_store.specs.Units.{fixes_in}
use Rattle.jt_terminal_steps.specs.AfterError.{Lists, lists_of}
use Rattle.jt_terminal_steps.specs.Running.{CountsAsVault, IsDown, IsSound}

order_stays : (s now : State) → lists_of now ≡ lists_of s → IsDown now → IsInOrder s → IsInOrder now
order_stays s now same is o = record {
  order = subst (λ (k : Lists). AreInOrder k.mark k.next k.units k.code) (sym same) o.order;
  serials = subst (λ (k : Lists). AreSerials k.units) (sym same) o.serials;
  phase = subst IsPhase (sym is.phase) tt;
  mark = subst (λ (k : Lists). k.mark < 65536) (sym same) o.mark;
  next = subst (λ (k : Lists). k.next < 65536) (sym same) o.next;
  sent = let none = is.sent in omega (arith, none);
}

agrees_stays : (h : Held) (s now : State) → lists_of now ≡ lists_of s → Agrees h s → Agrees h now
agrees_stays h s now same t = record {
  known = t.known;
  units = ap (λ (k : Lists). k.units) same ∙ t.units;
  mark = ap (λ (k : Lists). k.mark) same ∙ t.mark;
  mark_held = t.mark_held ∙ sym (ap (λ (k : Lists). k.mark) same);
  next_small = t.next_small;
  next_behind = subst (λ (k : Lists). gap_after k.mark 1 k.units ≤ gap_of k.mark h.next) (sym same) t.next_behind;
  next_held = subst (λ (k : Lists). gap_of k.mark h.next ≤ gap_of k.mark k.next) (sym same) t.next_held;
  fixes = subst (λ (k : Lists). h.recorded ≡ fixes_in (numbered None h.units) ++ k.waiting) (sym same) t.fixes;
  formed = subst (λ (k : Lists). formed_count h + length k.waiting ≡ length h.recorded) (sym same) t.formed;
  are_fixes = subst (λ (k : Lists). All IsFix k.waiting) (sym same) t.are_fixes;
  code = t.code ∙ sym (ap (λ (k : Lists). k.code) same);
}

counts_stay : (h : Held) (s now : State) → lists_of now ≡ lists_of s → CountsAsVault h s → CountsAsVault h now
counts_stay h s now same c = record { recorded = ap (λ (k : Lists). k.recorded) same ∙ c.recorded; accepted = ap (λ (k : Lists). k.accepted) same ∙ c.accepted }

told_stays : (held : Option Held) (s now : State) → lists_of now ≡ lists_of s → WhereKnown held (λ h. Agrees h s × CountsAsVault h s) → WhereKnown held (λ h. Agrees h now × CountsAsVault h now)
told_stays None s now same t = tt
told_stays (Some h) s now same t = (agrees_stays h s now same t.0, counts_stay h s now same t.1)

pub sound_stays : (held : Option Held) (s now : State) → now.settings ≡ s.settings → lists_of now ≡ lists_of s → now.params ≡ s.params → IsDown now → IsSound held s → IsSound held now
sound_stays held s now settings same params is sound = record {
  good = subst AreSettings (sym settings) sound.good;
  order = order_stays s now same is sound.order;
  fixes = subst (λ (k : Lists). All IsFix k.waiting) (sym same) sound.fixes;
  params = subst HasOctets (sym params) sound.params;
  agrees = told_stays held s now same sound.agrees;
}

-- the same of the state before, by an equation of the state itself
pub sound_without_line : (held : Option Held) (s given now : State) → now ≡ given → given.settings ≡ s.settings → lists_of given ≡ lists_of s → given.params ≡ s.params → IsDown given → IsSound held s → IsSound held now
sound_without_line held s given now is settings same params down sound = subst (λ (t : State). IsSound held t) (sym is) (sound_stays held s given settings same params down sound)
