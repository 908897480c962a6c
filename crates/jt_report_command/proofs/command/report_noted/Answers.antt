use Rattle.jt_agent.specs.Tries.{between}
use Rattle.jt_input.specs.declared.status.Status.TheVariants as status
use Rattle.jt_report_command.proofs.Causes.{all_accepted, is_fault, is_of, never, no_net, no_read, no_usage, some_unsent}
use Rattle.jt_report_command.proofs.command.report_noted.Goals as goal

pub returns-clause-store_fault : goal.returns-clause-store_fault
returns-clause-store_fault g c e =
    c.report_all-outcome.ensures.failed (is_fault c.report_all-outcome.result
    (is_of c.report_all-outcome.result _ _ _ status.StoreFault c.tell_outcome.ensures.status e (λ z. absurd (cc z)) (λ z. absurd (cc z))))

pub returns-clause-no_read_fault : goal.returns-clause-no_read_fault
returns-clause-no_read_fault g c =
    never c.report_all-outcome.result _ _ _ status.ReadFault c.tell_outcome.ensures.status no_read (λ z. absurd (cc z)) (λ z. absurd (cc z))

pub returns-clause-no_net_fault : goal.returns-clause-no_net_fault
returns-clause-no_net_fault g c =
    never c.report_all-outcome.result _ _ _ status.NetFault c.tell_outcome.ensures.status no_net (λ z. absurd (cc z)) (λ z. absurd (cc z))

pub returns-clause-not_usage : goal.returns-clause-not_usage
returns-clause-not_usage g c =
    never c.report_all-outcome.result _ _ _ status.Usage c.tell_outcome.ensures.status no_usage (λ z. absurd (cc z)) (λ z. absurd (cc z))

pub returns-clause-done : goal.returns-clause-done
returns-clause-done g c e =
    let now = between c.report_all-outcome.new.terminal.state (g.V.Vault.holds c.report_all-outcome.new.terminal.vault) (g.V.Vault.faults c.report_all-outcome.new.terminal.vault)
    (g.C.Clock.time c.report_all-outcome.new.clock) (g.D.Dial.pool c.report_all-outcome.new.dial) (g.D.Dial.faults c.report_all-outcome.new.dial) in
    let is = is_of c.report_all-outcome.result _ _ _ status.Done c.tell_outcome.ensures.status e (λ z. absurd (cc z)) (λ z. absurd (cc z)) in
    all_accepted c.args.tries c.report_all-outcome.result _ now c.done-done.result is c.report_all-outcome.ensures.reports c.done-done.ensures.done c.done-done.ensures.told

pub returns-clause-unsent : goal.returns-clause-unsent
returns-clause-unsent g c e =
    let now = between c.report_all-outcome.new.terminal.state (g.V.Vault.holds c.report_all-outcome.new.terminal.vault) (g.V.Vault.faults c.report_all-outcome.new.terminal.vault)
    (g.C.Clock.time c.report_all-outcome.new.clock) (g.D.Dial.pool c.report_all-outcome.new.dial) (g.D.Dial.faults c.report_all-outcome.new.dial) in
    let is = is_of c.report_all-outcome.result _ _ _ status.Unsent c.tell_outcome.ensures.status e (λ z. absurd (cc z)) (λ z. absurd (cc z)) in
    some_unsent c.args.tries c.report_all-outcome.result _ now c.done-done.result is c.report_all-outcome.ensures.reports c.done-done.ensures.done c.done-done.ensures.told
