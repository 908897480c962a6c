use Rattle.jt_terminal_rule.proofs.Lasting.{passes_all_waits}
use Rattle.jt_terminal_steps.proofs.Keeping.{sound_noted}
use Rattle.jt_terminal.proofs.terminal.Terminal.note_fix.Goals as goal

pub invariant_of-self-in-Ok : goal.invariant_of-self-in-Ok
invariant_of-self-in-Ok g c =
    rw (c.in-Ok.ensures.answer.0, c.in_ok-push.ensures.ok, c.in_ok-copy.ensures.cases, c.in_ok-last.ensures.cases, c.saturating_add-self-inside.ensures)
    (sound_noted (g.V.Vault.holds c.self.inside.vault) c.self.inside.state c.args.fix.now c.as_slice-octets.ensures.fix c.self.invariant.0, passes_all_waits.noted c.self.inside.state c.args.fix.now c.self.invariant.1)
