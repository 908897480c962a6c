use Rattle.jt_terminal.proofs.Ending.{told_done}
use Rattle.jt_terminal.proofs.terminal.Terminal.done.Goals as goal

pub returns-clause-told : goal.returns-clause-told
returns-clause-told g c = rw (← c.self.view_is) (told_done (g.V.Vault.holds c.self.inside.vault) c.self.inside.state c.is_done.result c.self.invariant.0 c.is_done.ensures)
