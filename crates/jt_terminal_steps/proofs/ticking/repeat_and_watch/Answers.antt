use Rattle.std.proofs.Common.{ap, sym, subst}
use Rattle.std.proofs.lemmas.Result.{on_err_weaker}
use Rattle.jt_terminal_rule.specs.declared.state.State.{State}
use Rattle.jt_terminal_rule.specs.Rule.{repeat_sending, watch_and_fill}
use Rattle.jt_terminal_rule.specs.declared.state.Phase.{Phase}
use Rattle.jt_terminal_steps.specs.Running.{CutShort, IsSound}
use Rattle.jt_terminal_steps.proofs.Keeping.{first_short, sound_repeats}
use Rattle.jt_terminal_steps.proofs.Chaining.{cut_then, quiet_again}
use Rattle.jt_terminal_steps.specs.AfterError.{CutLists, lists_of}
use Rattle.jt_terminal_steps.proofs.Leaving.{lists_repeats}
use Rattle.jt_terminal_steps.proofs.ticking.repeat_and_watch.Goals as goal

pub repeat_sending-requires-clause-units : goal.repeat_sending-requires-clause-units
repeat_sending-requires-clause-units g c = first_short (g.V.Vault.holds c.args.vault.now) c.args.state.now c.requires.sound

pub watch_and_fill-requires : goal.watch_and_fill-requires
watch_and_fill-requires g c = record {
  sound = subst (λ (s : State). IsSound (g.V.Vault.holds c.args.vault.now) s) (sym c.in_ok-repeat_sending.ensures.state) (sound_repeats (g.V.Vault.holds c.args.vault.now) c.args.state.now c.requires.sound);
}

pub returns-clause-err : goal.returns-clause-err
returns-clause-err g c =
    let held = g.V.Vault.holds c.args.vault.now in
    let now = g.V.Vault.holds c.watch_and_fill.new.vault in
    let is = c.in_ok-repeat_sending.ensures.state in
    on_err_weaker c.watch_and_fill.result (λ cut. cut_then (repeat_sending c.args.state.now) (watch_and_fill c.args.state.now.phase) c.repeat_sending.new.state held held now is (sym (quiet_again c.args.state.now c.args.state.now.phase held))
    (subst (λ (p : Phase). CutShort (watch_and_fill p c.repeat_sending.new.state).steps held now) (ap (λ (s : State). s.phase) is) cut)) c.watch_and_fill.ensures.err

pub returns-clause-lists : goal.returns-clause-lists
returns-clause-lists g c =
    let now = lists_of c.watch_and_fill.new.state in
    let is = c.in_ok-repeat_sending.ensures.state in
    on_err_weaker c.watch_and_fill.result (λ cut. lists_repeats c.args.state.now c.repeat_sending.new.state c.args.state.now.phase now is
    (subst (λ (p : Phase). CutLists (watch_and_fill p c.repeat_sending.new.state).steps (lists_of c.repeat_sending.new.state) now) (ap (λ (s : State). s.phase) is) cut)) c.watch_and_fill.ensures.lists
