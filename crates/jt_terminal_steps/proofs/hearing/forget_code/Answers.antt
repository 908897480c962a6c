use Rattle.jt_terminal_steps.proofs.Keeping.{sound_forgets}
use Rattle.jt_terminal_steps.proofs.hearing.forget_code.Goals as goal

pub returns-in-Ok-clause-sound : goal.returns-in-Ok-clause-sound
returns-in-Ok-clause-sound g c = rw (c.in-Ok.ensures.answer, c.lose.ensures) (sound_forgets (g.V.Vault.holds c.args.vault.now) c.args.state.now c.requires.sound)
