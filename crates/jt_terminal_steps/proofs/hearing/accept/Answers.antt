use Rattle.std.proofs.Common.{refl}
use Rattle.jt_terminal_steps.proofs.Keeping.{sound_took}
use Rattle.jt_terminal_steps.proofs.hearing.accept.Goals as goal

pub returns-in-Ok-clause-sound : goal.returns-in-Ok-clause-sound
returns-in-Ok-clause-sound g c = rw (c.in-Ok.ensures.answer, c.oldest_accepted.ensures) (sound_took (g.V.Vault.holds c.args.vault.now) c.args.state.now c.args.state.now.units refl c.requires.some c.requires.sound)
