use Rattle.std.proofs.Common.{◌≡◌, ◌≤◌, ◌-◌, length}
use Rattle.jt_terminal_rule.specs.declared.state.Phase.TheVariants.{Down}
use Rattle.jt_agent.specs.Attempt.{VaultStays}
use Rattle.jt_agent.specs.Tries.{Tries, between}
use Rattle.jt_agent.proofs.reporting.report_all.Given as goal

abbrev pub invariant-loop-alloc : goal.invariant-loop-alloc
invariant-loop-alloc g l =
    Tries l.ends.items
    (between l.fn.terminal.state (g.V.Vault.holds l.fn.terminal.vault) (g.V.Vault.faults l.fn.terminal.vault) (g.C.Clock.time l.fn.clock) (g.D.Dial.pool l.fn.dial) (g.D.Dial.faults l.fn.dial))
    (between l.terminal.state (g.V.Vault.holds l.terminal.vault) (g.V.Vault.faults l.terminal.vault) (g.C.Clock.time l.clock) (g.D.Dial.pool l.dial) (g.D.Dial.faults l.dial))
    × (length l.ends.items ≤ l.tries)
    × (l.terminal.state.phase ≡ Down)
    × (l.terminal.state.time ≤ (g.C.Clock.time l.clock).last)
    × (l.terminal.state.settings ≡ l.fn.terminal.state.settings)
    × VaultStays (g.V.Vault.faults l.fn.terminal.vault) (g.V.Vault.faults l.terminal.vault) (g.V.Vault.limit l.fn.terminal.vault) (g.V.Vault.limit l.terminal.vault) (g.V.Vault.may_fail l.fn.terminal.vault) (g.V.Vault.may_fail l.terminal.vault) ⊥
    × (l.fn.terminal.state.sent ≡ 0 → l.terminal.state.sent ≡ 0)

abbrev pub decreases-loop-alloc : goal.decreases-loop-alloc
decreases-loop-alloc g l = l.tries - length l.ends.items
