use Rattle.std.proofs.Common.{arith}
use Rattle.jt_order_command.proofs.Wording.{no_body, no_order_id, order_is, too_long}
use Rattle.jt_order_command.proofs.reading.order_of.Goals as goal

pub returns-in-Ok : goal.returns-in-Ok
returns-in-Ok c = order_is c.law_of_bodies.ensures.one_to_one c.args.id c.args.body.now (λ i. omega (arith, c.type_inv.body i)) c.in-Ok.order c.in-Ok.ensures

pub returns-in-Err-NotOrder : goal.returns-in-Err-NotOrder
returns-in-Err-NotOrder c =
    no_order_id c.law_of_bodies.ensures.one_to_one c.args.id c.args.body.now (λ i. omega (arith, c.type_inv.body i)) c.in-Err-NotOrder.field-0 _ c.in-Err-NotOrder.field-0-is c.in-Err-NotOrder.ensures

pub returns-in-Err-Long : goal.returns-in-Err-Long
returns-in-Err-Long c =
    too_long c.law_of_bodies.ensures.one_to_one c.args.id c.args.body.now (λ i. omega (arith, c.type_inv.body i)) c.in-Err-Long.field-0 _ c.in-Err-Long.field-0-is c.in-Err-Long.ensures

pub returns-in-Err-Refused : goal.returns-in-Err-Refused
returns-in-Err-Refused c =
    no_body c.law_of_bodies.ensures.one_to_one c.args.id c.args.body.now (λ i. omega (arith, c.type_inv.body i)) c.in-Err-Refused.field-0 _ c.in-Err-Refused.field-0-is c.in-Err-Refused.ensures
