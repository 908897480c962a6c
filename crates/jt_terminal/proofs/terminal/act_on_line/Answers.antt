use Rattle.std.proofs.Common.{ap, refl}
use Rattle.jt_terminal_rule.specs.declared.state.State.{State}
use Rattle.jt_terminal.specs.Feeding.{scene}
use Rattle.jt_terminal.proofs.Idling.{lost_again}
use Rattle.jt_terminal.proofs.Items.{cut_alike}
use Rattle.jt_terminal.proofs.Lateness.{timed_without_line}
use Rattle.jt_terminal.proofs.Looping.{timed_front}
use Rattle.jt_terminal.proofs.Staying.{sound_without_line}
use Rattle.jt_terminal.proofs.terminal.act_on_line.Goals as goal

pub returns-in-Err-clause-sound : goal.returns-in-Err-clause-sound
returns-in-Err-clause-sound g c = sound_without_line (g.V.Vault.holds c.hear.new.vault) c.hear.new.state _ c.down_after.new.state c.down_after.ensures.state refl refl refl (record { phase = refl; sent = refl }) c.in-Err.ensures.sound

pub returns-in-Err-clause-timed : goal.returns-in-Err-clause-timed
returns-in-Err-clause-timed g c = timed_without_line c.down_after.new.state (ap (λ (s : State). s.phase) c.down_after.ensures.state)

pub returns-in-Err-clause-err : goal.returns-in-Err-clause-err
returns-in-Err-clause-err g c = cut_alike (scene c.args.stream.now.splitter c.args.assembler.now c.args.state.now (g.V.Vault.holds c.args.vault.now) c.new-frames.result c.new-told.result) c.hear.new.stream.splitter c.hear.new.state _ c.down_after.new.state (g.V.Vault.holds c.hear.new.vault) c.args.octets.now c.down_after.ensures.state (record { timing = refl; params = refl; regions = refl }) refl c.in-Err.ensures.err

pub returns-in-Ok-clause-timed : goal.returns-in-Ok-clause-timed
returns-in-Ok-clause-timed g c = timed_front (scene c.args.stream.now.splitter c.args.assembler.now c.args.state.now (g.V.Vault.holds c.args.vault.now) c.new-frames.result c.new-told.result) (scene c.hear.new.stream.splitter c.hear.new.assembler c.hear.new.state (g.V.Vault.holds c.hear.new.vault) c.hear.new.out c.hear.new.told) c.args.octets.now c.in-Ok.end c.requires.timed c.in-Ok.ensures.ok

pub returns-in-Err-clause-unmoved : goal.returns-in-Err-clause-unmoved
returns-in-Err-clause-unmoved g c = lost_again c.args.state.now c.hear.new.state c.down_after.new.state c.down_after.ensures.state c.in-Err.ensures.unmoved
