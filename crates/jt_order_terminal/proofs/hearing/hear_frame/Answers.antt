use Rattle.std.proofs.Common.{arith, sym}
use Rattle.jt_order_terminal.proofs.Doing.{read_is}
use Rattle.jt_order_terminal.proofs.hearing.hear_frame.Goals as goal

pub returns-in-Ok-clause-ok : goal.returns-in-Ok-clause-ok
returns-in-Ok-clause-ok g c = rw (read_is c.law_of_bodies.ensures.one_to_one c.args.header.now c.args.body.now c.args.header.now.packet c.in-Ok.message (λ i. omega (arith, c.type_inv.body i)) (sym c.if-is_some.ensures) c.in-Ok.ensures.answer) c.hear_message.ensures.ok

pub returns-in-Ok-clause-err : goal.returns-in-Ok-clause-err
returns-in-Ok-clause-err g c = rw (read_is c.law_of_bodies.ensures.one_to_one c.args.header.now c.args.body.now c.args.header.now.packet c.in-Ok.message (λ i. omega (arith, c.type_inv.body i)) (sym c.if-is_some.ensures) c.in-Ok.ensures.answer) c.hear_message.ensures.err
