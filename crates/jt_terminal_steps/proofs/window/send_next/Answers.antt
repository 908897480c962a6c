use Rattle.std.proofs.Common.{sym, subst, arith}
use Rattle.jt_terminal_rule.specs.declared.state.State.{State}
use Rattle.jt_terminal_steps.specs.Running.{IsSound}
use Rattle.jt_terminal_rule.proofs.Filling.{none_is_end}
use Rattle.jt_terminal_steps.proofs.Keeping.{unit_short, sound_sent}
use Rattle.jt_terminal_steps.proofs.window.send_next.Goals as goal

pub say_unit-requires-clause-body : goal.say_unit-requires-clause-body
say_unit-requires-clause-body g c = unit_short (g.V.Vault.holds c.args.vault.now) c.args.state.now c.args.state.now.sent c.in-Some.unit.now (sym c.in-Some.ensures.item) c.requires.sound

pub form_unit-requires-clause-room : goal.form_unit-requires-clause-room
form_unit-requires-clause-room g c =
    let end = none_is_end c.args.state.now.units c.args.state.now.sent (sym c.in_default.ensures.item) in
    omega (arith, end)

pub returns-clause-sound : goal.returns-clause-sound
returns-clause-sound g c =
    subst (λ (s : State). IsSound (g.V.Vault.holds c.args.vault.now) s) (sym c.one_sent.ensures)
    (sound_sent (g.V.Vault.holds c.args.vault.now) c.args.state.now c.in-Some.unit.now (sym c.in-Some.ensures.item) c.requires.sound)
