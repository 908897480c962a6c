use Rattle.jt_value.specs.declared.phone.Edition.TheVariants.{E2013}
use Rattle.jt_order_terminal.proofs.Committing.{again_read, again_refused}
use Rattle.jt_order_terminal.proofs.ledger.Tables.perform_again.Goals as goal

pub returns-in-Ok : goal.returns-in-Ok
returns-in-Ok c = again_read c.law_of_bodies.ensures.one_to_one E2013 c.args.self.now c.args.order.now c.in-Ok.message c.body.result.now c.id.result c.id.ensures.order c.id.ensures.id c.body.ensures.body c.in-Ok.ensures.answer c.perform_known.new.self c.perform_known.result c.perform_known.ensures

pub returns-in-Err-Refused : goal.returns-in-Err-Refused
returns-in-Err-Refused c = again_refused c.law_of_bodies.ensures.one_to_one E2013 c.args.self.now c.args.order.now c.in-Err-Refused.field-0 c.in-Err-Refused.field-0-0 c.body.result.now c.id.result c.id.ensures.order c.id.ensures.id c.body.ensures.body c.in-Err-Refused.field-0-is c.in-Err-Refused.ensures.answer
