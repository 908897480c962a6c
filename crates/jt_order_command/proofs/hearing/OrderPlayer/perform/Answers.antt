use Rattle.jt_order_command.proofs.Events.{did, did_not}
use Rattle.jt_order_command.proofs.hearing.OrderPlayer.perform.Goals as goal

pub returns-in-Ok-clause-does : goal.returns-in-Ok-clause-does
returns-in-Ok-clause-does c =
    did c.args.self.now c.step.new.self c.args.event c.step.result c.step.ensures.steps tt c.in-Ok.is c.performed-performed.result c.answered-answered.result
    c.performed-performed.ensures c.answered-answered.ensures c.tell.result _ _ c.tell.ensures.next c.tell.ensures.text

pub returns-in-Err-clause-does : goal.returns-in-Err-clause-does
returns-in-Err-clause-does c =
    did_not c.args.self.now c.step.new.self c.args.event c.step.result c.step.ensures.steps c.in-Err.error c.refuse.result _ _ c.in-Err.is c.refuse.ensures
