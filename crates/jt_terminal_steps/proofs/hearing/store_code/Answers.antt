use Rattle.jt_terminal_steps.proofs.Keeping.{sound_coded_on}
use Rattle.jt_terminal_steps.proofs.hearing.store_code.Goals as goal

pub returns-in-Ok-clause-sound : goal.returns-in-Ok-clause-sound
returns-in-Ok-clause-sound g c =
    rw (c.in-Ok.ensures.answer, c.now_in.ensures, c.as_slice-2.ensures, c.in_ok-copy.ensures) (sound_coded_on (g.V.Vault.holds c.args.vault.now) c.args.state.now c.args.code.now c.requires.short c.requires.sound)
