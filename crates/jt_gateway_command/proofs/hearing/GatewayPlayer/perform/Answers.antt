use Rattle.jt_gateway_command.proofs.Events.{count_by, did_next, did_not}
use Rattle.jt_gateway_command.proofs.hearing.GatewayPlayer.perform.Goals as goal

pub returns-in-Err-clause-does : goal.returns-in-Err-clause-does
returns-in-Err-clause-does c = λ g.
    did_not c.args.self.now c.step.new.self c.args.event c.step.result (c.step.ensures.steps g) c.in-Err.error c.refuse.result _ _ c.in-Err.is c.refuse.ensures

pub returns-clause-does : goal.returns-clause-does
returns-clause-does c = λ g.
    did_next c.args.self.now c.step.new.self c.args.event c.step.result (c.step.ensures.steps g) c.in-Ok.entries c.in-Ok.is c.as_slice.result.now c.as_slice.ensures
    c.world_name-name.result.now c.world_name-name.ensures c.is_pump-pumps.result c.is_pump-pumps.ensures c.saturating_sub-count.result
    (count_by _ _ _ _ _ c.saturating_sub-count.ensures c.recorded.ensures c.recorded-before.ensures) _ _ c.in_ok-push_event.ensures
