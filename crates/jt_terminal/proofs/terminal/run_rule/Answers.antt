use Rattle.jt_terminal_steps.proofs.Keeping.{sound_down, sound_opened, sound_reopened}
use Rattle.jt_terminal.proofs.terminal.run_rule.Goals as goal

pub returns-in_err-on_open-in-Opened-clause-sound : goal.returns-in_err-on_open-in-Opened-clause-sound
returns-in_err-on_open-in-Opened-clause-sound g c = rw c.in_err-on_open-in-Opened.ensures.err (sound_reopened (g.V.Vault.holds c.args.vault.now) c.args.state.now c.requires.sound)

pub returns-in_ok-on_open-in-Opened-clause-sound : goal.returns-in_ok-on_open-in-Opened-clause-sound
returns-in_ok-on_open-in-Opened-clause-sound g c = rw c.in_ok-on_open-in-Opened.ensures.state (sound_opened (g.V.Vault.holds c.args.vault.now) c.args.state.now c.requires.sound)

pub returns-in-Lost-clause-sound : goal.returns-in-Lost-clause-sound
returns-in-Lost-clause-sound g c = rw c.lose.ensures (sound_down (g.V.Vault.holds c.args.vault.now) c.args.state.now c.requires.sound)
