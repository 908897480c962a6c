use Rattle.std.proofs.Common.{sym, subst}
use Rattle.std.proofs.lemmas.Result.{on_err_weaker}
use Rattle.jt_terminal_rule.specs.declared.state.State.{State}
use Rattle.jt_terminal_rule.specs.Rule.{heartbeat_if_silent, fill_window}
use Rattle.jt_terminal_steps.specs.Running.{IsSound}
use Rattle.jt_terminal_steps.proofs.Keeping.{sound_beats_if_silent}
use Rattle.jt_terminal_steps.proofs.Chaining.{cut_then, quiet_beats}
use Rattle.jt_terminal_steps.specs.AfterError.{lists_of}
use Rattle.jt_terminal_steps.proofs.Leaving.{lists_beats_if_silent, lists_then}
use Rattle.jt_terminal_steps.proofs.ticking.beat_and_fill.Goals as goal

pub fill_window-requires : goal.fill_window-requires
fill_window-requires g c = record {
  sound = subst (λ (s : State). IsSound (g.V.Vault.holds c.args.vault.now) s) (sym c.in_ok-heartbeat_if_silent.ensures.state) (sound_beats_if_silent (g.V.Vault.holds c.args.vault.now) c.args.state.now c.requires.sound);
}

pub returns-clause-err : goal.returns-clause-err
returns-clause-err g c =
    on_err_weaker c.fill_window.result (cut_then (heartbeat_if_silent c.args.state.now) fill_window c.heartbeat_if_silent.new.state (g.V.Vault.holds c.args.vault.now) (g.V.Vault.holds c.args.vault.now) _ c.in_ok-heartbeat_if_silent.ensures.state
    (sym (quiet_beats c.args.state.now (g.V.Vault.holds c.args.vault.now)))) c.fill_window.ensures.err

pub returns-clause-lists : goal.returns-clause-lists
returns-clause-lists g c =
    on_err_weaker c.fill_window.result (lists_then (heartbeat_if_silent c.args.state.now) fill_window c.args.state.now c.heartbeat_if_silent.new.state (lists_of c.fill_window.new.state) c.in_ok-heartbeat_if_silent.ensures.state (lists_beats_if_silent c.args.state.now)) c.fill_window.ensures.lists
