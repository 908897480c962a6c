use Rattle.std.proofs.Common.{◌∙◌, OnErr, subst, sym}
use Rattle.jt_order.specs.declared.rules.Ruling.{Ruling}
use Rattle.jt_order_terminal.specs.Terminals.{CommitsFirst, by_ruling}
use Rattle.jt_order_terminal.proofs.obeying.obey.Goals as goal

pub returns-in-Performs-clause-err : goal.returns-in-Performs-clause-err
returns-in-Performs-clause-err g c = λ s.
    subst (λ (r : Ruling). OnErr c.perform_order.result (CommitsFirst (by_ruling s c.args.ledger.now c.args.header.now c.args.body.now c.args.message.now r).performed (g.G.OrderLog.holds c.args.log.now) (g.G.OrderLog.holds c.perform_order.new.log)))
    (sym c.in-Performs.is ∙ c.ruling.ensures) (c.perform_order.ensures.err s)
