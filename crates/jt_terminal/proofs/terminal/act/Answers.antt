use Rattle.jt_terminal_steps.proofs.Keeping.{sound_down}
use Rattle.std.proofs.Common.{ap, refl}
use Rattle.jt_terminal_rule.specs.declared.state.State.{State}
use Rattle.jt_terminal.proofs.Staying.{sound_without_line}
use Rattle.jt_terminal.proofs.Lateness.{late_of, timed_after, timed_without_line}
use Rattle.jt_terminal.proofs.terminal.act.Goals as goal

pub returns-in-Err-clause-sound : goal.returns-in-Err-clause-sound
returns-in-Err-clause-sound g c = rw c.down_after.ensures.state (sound_down (g.V.Vault.holds c.args.vault.now) c.args.state.now c.requires.sound)

pub returns-in-Err-run_rule-clause-sound : goal.returns-in-Err-run_rule-clause-sound
returns-in-Err-run_rule-clause-sound g c = sound_without_line (g.V.Vault.holds c.run_rule.new.vault) c.run_rule.new.state _ c.down_after-in-Err-run_rule.new.state c.down_after-in-Err-run_rule.ensures.state refl refl refl (record { phase = refl; sent = refl }) c.in-Err-run_rule.ensures.sound

pub returns-in-Err-clause-timed : goal.returns-in-Err-clause-timed
returns-in-Err-clause-timed g c = timed_without_line c.down_after.new.state (ap (λ (s : State). s.phase) c.down_after.ensures.state)

pub returns-in-Err-run_rule-clause-timed : goal.returns-in-Err-run_rule-clause-timed
returns-in-Err-run_rule-clause-timed g c = timed_without_line c.down_after-in-Err-run_rule.new.state (ap (λ (s : State). s.phase) c.down_after-in-Err-run_rule.ensures.state)

pub returns-in-Ok-run_rule-clause-timed : goal.returns-in-Ok-run_rule-clause-timed
returns-in-Ok-run_rule-clause-timed g c = timed_after c.args.state.now c.run_rule.new.state c.args.event.now c.in-Ok-run_rule.ensures.ok.is_state c.requires.timed

pub returns-in-Ok-run_rule-clause-late : goal.returns-in-Ok-run_rule-clause-late
returns-in-Ok-run_rule-clause-late g c = λ now since at tick e. late_of c.args.state.now c.args.event.now c.in-Ok-run_rule.end now since at c.requires.timed tick c.in-Ok-run_rule.ensures.ok.is_end e
