use Rattle.jt_terminal_steps.proofs.Keeping.{sound_down}
use Rattle.jt_terminal_steps.proofs.hearing.take_reply.Goals as goal

pub returns-clause-sound : goal.returns-clause-sound
returns-clause-sound g c = rw c.in_ok-deny.ensures.state (sound_down (g.V.Vault.holds c.args.vault.now) c.args.state.now c.requires.sound)
