use Rattle.std.proofs.Common.{◌∙◌, refl, sym, arith}
use Rattle.jt_terminal_rule.specs.Machines.{is_up}
use Rattle.jt_order_terminal.specs.Feeding.{scene}
use Rattle.jt_order_terminal.specs.declared.fault.OrderFault.TheVariants as faults
use Rattle.jt_order_terminal.proofs.Causes.{lost_on}
use Rattle.jt_order_terminal.proofs.Feeding.{cut_commits, cut_steps, fails_at, fed_at, fed_says}
use Rattle.jt_order_terminal.proofs.Items.{stands_on}
use Rattle.jt_order_terminal.proofs.order_terminal.OrderTerminal.feed.Goals as goal

pub returns-in-Ok-clause-state : goal.returns-in-Ok-clause-state
returns-in-Ok-clause-state g c =
    let old = c.self.inside in
    let new = c.hear.new in
    let before = scene old.terminal.state old.ledger (g.V.Vault.holds old.terminal.vault) (g.G.OrderLog.holds old.log) c.new-said.result in
    let behind = scene new.terminal.state new.ledger (g.V.Vault.holds new.terminal.vault) (g.G.OrderLog.holds new.log) new.said in
    rw (← c.self.view_is) (λ seen stands. fed_at (is_up old.terminal.state.phase) old.stream.splitter new.stream.splitter before behind c.args.octets.now c.in-Ok.end (sym c.if-not-is_up.ensures) c.in-Ok.ensures.ok c.law_front.ensures.unplaced seen stands)

pub returns-in-Ok-clause-actions : goal.returns-in-Ok-clause-actions
returns-in-Ok-clause-actions g c =
    let old = c.self.inside in
    let new = c.hear.new in
    let before = scene old.terminal.state old.ledger (g.V.Vault.holds old.terminal.vault) (g.G.OrderLog.holds old.log) c.new-said.result in
    let behind = scene new.terminal.state new.ledger (g.V.Vault.holds new.terminal.vault) (g.G.OrderLog.holds new.log) new.said in
    let actions = c.into_actions-in-Ok.ensures in
    rw (← c.self.view_is) (λ seen stands.
    let says = fed_says (is_up old.terminal.state.phase) old.stream.splitter new.stream.splitter before behind c.args.octets.now c.in-Ok.end (sym c.if-not-is_up.ensures) c.in-Ok.ensures.ok c.law_front.ensures.unplaced seen stands c.new-said.ensures in
    (actions.frames ∙ says.0, actions.told ∙ says.1, actions.end ∙ says.2))

pub returns-in-Ok-clause-stands : goal.returns-in-Ok-clause-stands
returns-in-Ok-clause-stands g c =
    let old = c.self.inside in
    let new = c.hear.new in
    let before = scene old.terminal.state old.ledger (g.V.Vault.holds old.terminal.vault) (g.G.OrderLog.holds old.log) c.new-said.result in
    let behind = scene new.terminal.state new.ledger (g.V.Vault.holds new.terminal.vault) (g.G.OrderLog.holds new.log) new.said in
    rw (← c.self.view_is) (λ seen stands up goes_on. stands_on old.stream.splitter new.stream.splitter before behind c.args.octets.now c.in-Ok.end c.in-Ok.ensures.ok c.law_front.ensures.unplaced seen stands (λ i. omega (arith, c.type_inv.octets i)) (sym c.into_actions-in-Ok.ensures.end ∙ goes_on))

pub returns-in-Err-clause-commits : goal.returns-in-Err-clause-commits
returns-in-Err-clause-commits g c =
    let old = c.self.inside in
    let new = c.hear.new in
    let before = scene old.terminal.state old.ledger (g.V.Vault.holds old.terminal.vault) (g.G.OrderLog.holds old.log) c.new-said.result in
    rw (← c.self.view_is) (λ seen stands. cut_commits (is_up old.terminal.state.phase) old.stream.splitter new.stream.splitter before (g.V.Vault.holds new.terminal.vault) (g.G.OrderLog.holds new.log) c.args.octets.now (sym c.if-not-is_up.ensures) c.in-Err.ensures.err c.law_front.ensures.unplaced seen stands)

pub returns-in-Err-clause-fails : goal.returns-in-Err-clause-fails
returns-in-Err-clause-fails g c =
    let old = c.self.inside in
    let new = c.hear.new in
    let before = scene old.terminal.state old.ledger (g.V.Vault.holds old.terminal.vault) (g.G.OrderLog.holds old.log) c.new-said.result in
    rw (← c.self.view_is) (λ seen stands. fails_at (is_up old.terminal.state.phase) old.stream.splitter new.stream.splitter before (g.V.Vault.holds new.terminal.vault) (g.G.OrderLog.holds new.log) c.args.octets.now (sym c.if-not-is_up.ensures) c.in-Err.ensures.err c.law_front.ensures.unplaced seen stands (g.V.Vault.holds c.lose.new.terminal.vault) c.lose.ensures.holds)

pub returns-in-Err-clause-cut : goal.returns-in-Err-clause-cut
returns-in-Err-clause-cut g c =
    let old = c.self.inside in
    let new = c.hear.new in
    let before = scene old.terminal.state old.ledger (g.V.Vault.holds old.terminal.vault) (g.G.OrderLog.holds old.log) c.new-said.result in
    rw (← c.self.view_is) (λ seen stands. cut_steps (is_up old.terminal.state.phase) old.stream.splitter new.stream.splitter before (g.V.Vault.holds new.terminal.vault) (g.G.OrderLog.holds new.log) c.args.octets.now (sym c.if-not-is_up.ensures) c.in-Err.ensures.err c.law_front.ensures.unplaced seen stands (g.V.Vault.holds c.lose.new.terminal.vault) c.lose.ensures.holds)

pub returns-in-Err-clause-vault_cause : goal.returns-in-Err-clause-vault_cause
returns-in-Err-clause-vault_cause g c =
    let old = c.self.inside in
    rw (← c.self.view_is) (lost_on faults.Vault (g.V.Vault.faults old.terminal.vault) (g.V.Vault.faults c.hear.new.terminal.vault) (g.V.Vault.faults c.lose.new.terminal.vault) (g.V.Vault.may_fail old.terminal.vault) (g.V.Vault.may_fail c.hear.new.terminal.vault) (g.V.Vault.may_fail c.lose.new.terminal.vault) c.in-Err.fault c.in-Err.ensures.vault_cause c.lose.ensures.faults c.lose.ensures.steady)

pub returns-in-Err-clause-log_cause : goal.returns-in-Err-clause-log_cause
returns-in-Err-clause-log_cause g c =
    let old = c.self.inside in
    rw (← c.self.view_is) (lost_on faults.Log (g.G.OrderLog.faults old.log) (g.G.OrderLog.faults c.hear.new.log) (g.G.OrderLog.faults c.hear.new.log) (g.G.OrderLog.may_fail old.log) (g.G.OrderLog.may_fail c.hear.new.log) (g.G.OrderLog.may_fail c.hear.new.log) c.in-Err.fault c.in-Err.ensures.log_cause refl (λ e. e))
