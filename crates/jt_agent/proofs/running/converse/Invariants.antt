use Rattle.std.proofs.Common.{◌≡◌, ◌≤◌, ◌<◌, ◌+◌, ◌-◌, ◌*◌}
use Rattle.jt_outside.specs.Link.{wire_of}
use Rattle.jt_agent.specs.Attempt.{VaultStays, at_link}
use Rattle.jt_agent.specs.Course.{ARead}
use Rattle.jt_agent.specs.Moving.{GoesOn, IsQuiet}
use Rattle.jt_agent.proofs.running.converse.Given as goal

abbrev pub invariant-loop-taken : goal.invariant-loop-taken
invariant-loop-taken g l =
    GoesOn ARead
    (at_link l.fn.terminal.state (g.V.Vault.holds l.fn.terminal.vault) (g.V.Vault.faults l.fn.terminal.vault) (wire_of g.K.Sink.inbound g.K.Sink.written g.K.Sink.faults l.fn.link))
    (at_link l.terminal.state (g.V.Vault.holds l.terminal.vault) (g.V.Vault.faults l.terminal.vault) (wire_of g.K.Sink.inbound g.K.Sink.written g.K.Sink.faults l.link))
    (g.C.Clock.time l.fn.clock) (g.C.Clock.time l.clock) l.line l.taken
    × IsQuiet l.quiet (g.K.Sink.inbound l.fn.link) (g.K.Sink.inbound l.link)
    × (l.taken ≤ l.octets)
    × (l.quiet < l.quiets)
    × VaultStays (g.V.Vault.faults l.fn.terminal.vault) (g.V.Vault.faults l.terminal.vault) (g.V.Vault.limit l.fn.terminal.vault) (g.V.Vault.limit l.terminal.vault) (g.V.Vault.may_fail l.fn.terminal.vault) (g.V.Vault.may_fail l.terminal.vault) ⊥
    × (g.K.Sink.faults l.link ≡ g.K.Sink.faults l.fn.link)
    × (l.terminal.state.settings ≡ l.fn.terminal.state.settings)

abbrev pub decreases-loop-taken : goal.decreases-loop-taken
decreases-loop-taken g l = (l.octets - l.taken) * (l.quiets + 1) + (l.quiets - l.quiet)
