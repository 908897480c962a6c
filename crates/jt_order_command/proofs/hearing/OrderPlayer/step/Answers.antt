use Rattle.std.proofs.Common.{subst}
use Rattle.jt_order_octets.specs.Reaching.{Reached}
use Rattle.jt_order_play.specs.Scripts.{OrderScene}
use Rattle.jt_order_command.specs.Hearing.{Steps}
use Rattle.jt_order_play.proofs.Composing.{reached_on}
use Rattle.jt_order_command.proofs.hearing.OrderPlayer.step.Goals as goal

pub returns-clause-reached : goal.returns-clause-reached
returns-clause-reached c =
    subst (λ (old : OrderScene). Reached old.play.world → Reached c.step.new.self.play.world) c.self.view_is (reached_on _ _ c.step.ensures.leads)

pub returns-clause-steps : goal.returns-clause-steps
returns-clause-steps c =
    subst (λ (old : OrderScene). Steps old c.args.event c.step.new.self c.step.result) c.self.view_is
    (record {
      identity = c.step.ensures.identity;
      ok = c.step.ensures.ok;
      room = c.step.ensures.room;
      full = c.step.ensures.full;
      no_line = c.step.ensures.no_line;
      same = c.step.ensures.same;
    })
