use Rattle.std.proofs.Common.{arith}
use Rattle.jt_order_terminal.proofs.Committing.{keeps_performed}
use Rattle.jt_order_terminal.proofs.obeying.perform_order.Goals as goal

pub returns-clause-keeps : goal.returns-clause-keeps
returns-clause-keeps g c =
    keeps_performed c.law_of_bodies.ensures.one_to_one c.law_performing.ensures.editions c.args.header.now c.args.body.now c.args.ledger.now c.note.new.self c.in_ok-order.order c.args.message.now c.in_ok-outcome.outcome c.in_ok-outcome.tables (g.G.OrderLog.holds c.args.log.now) (g.G.OrderLog.holds c.commit.new.log)
    c.in_ok-order.ensures c.requires.order c.requires.short (λ i. omega (arith, c.type_inv.body i)) c.requires.body (record { outcome = c.in_ok-outcome.ensures; ledger = c.note.ensures; commits = c.in_ok-commit.ensures.ok })
