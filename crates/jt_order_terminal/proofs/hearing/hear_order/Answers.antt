use Rattle.std.proofs.Common.{refl}
use Rattle.jt_terminal_steps.proofs.Chaining.{any_err}
use Rattle.jt_order_terminal.proofs.Doing.{order_begun, order_done}
use Rattle.jt_order_terminal.proofs.hearing.hear_order.Goals as goal

pub returns-clause-ok : goal.returns-clause-ok
returns-clause-ok g c = λ s held. rw (← c.said.view_is)
    (order_done s c.args.ledger.now c.args.header.now c.args.body.now c.args.message.now c.obey.new.ledger held (g.G.OrderLog.holds c.args.log.now) (g.G.OrderLog.holds c.obey.new.log)
    (record { frames = c.said.inside.frames.items; told = c.said.inside.told.items }) (record { frames = c.obey.new.frames.items; told = c.said.inside.told.items })
    c.requires.order refl (c.in_ok-obey.ensures.ok s))

pub returns-in_err-obey-clause-err : goal.returns-in_err-obey-clause-err
returns-in_err-obey-clause-err g c = λ s held. any_err _
    (order_begun s c.args.ledger.now c.args.header.now c.args.body.now c.args.message.now held (g.G.OrderLog.holds c.args.log.now) (g.G.OrderLog.holds c.obey.new.log) c.requires.order (c.in_err-obey.ensures.err s))
