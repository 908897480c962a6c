use Rattle.std.proofs.Common.{◌≡◌, ◌-◌, Ok}
use Rattle.jt_report_command.specs.Noting.{noting}
use Rattle.jt_report_command.specs.NotingSteps.{Beside, GoesOn}
use Rattle.jt_report_command.proofs.noting.note_fixes.Given as goal

abbrev pub invariant-loop-terminal : goal.invariant-loop-terminal
invariant-loop-terminal g l =
    GoesOn l.lines l.number (g.S.Source.left l.fn.source) (g.S.Source.left l.source)
    (noting l.fn.terminal.state (g.V.Vault.holds l.fn.terminal.vault)) (noting l.terminal.state (g.V.Vault.holds l.terminal.vault))
    × Beside l.fn.terminal.state l.terminal.state (g.V.Vault.faults l.fn.terminal.vault) (g.V.Vault.faults l.terminal.vault) (g.V.Vault.limit l.fn.terminal.vault) (g.V.Vault.limit l.terminal.vault) (g.V.Vault.may_fail l.fn.terminal.vault) (g.V.Vault.may_fail l.terminal.vault) (Ok (tt {0}))
    × (g.S.Source.faults l.source ≡ g.S.Source.faults l.fn.source)

abbrev pub decreases-loop-terminal : goal.decreases-loop-terminal
decreases-loop-terminal g l = 10000001 - l.number
