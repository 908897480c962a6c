use Rattle.std.proofs.Common.{subst}
use Rattle.jt_gateway.specs.Gateway.{GatewayScene, IsGateway}
use Rattle.jt_gateway_command.specs.Hearing.{Steps}
use Rattle.jt_gateway_command.proofs.hearing.GatewayPlayer.step.Goals as goal

pub returns-clause-steps : goal.returns-clause-steps
returns-clause-steps c =
    subst (λ (old : GatewayScene). IsGateway old → Steps old c.args.event c.step.new.self c.step.result) c.self.view_is
    (λ g. record {
      ok = c.step.ensures.ok g;
      room = c.step.ensures.room;
      full = c.step.ensures.full;
      no_line = c.step.ensures.no_line;
      same = c.step.ensures.same;
      entries = c.step.ensures.entries;
    })
