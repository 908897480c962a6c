use Rattle.jt_value.specs.declared.limits.TheConstants.{FIX_LIMIT}
use Rattle.jt_play.specs.declared.error.WorldError.TheVariants as refused
use Rattle.jt_play.proofs.Scenes.{at_full_is, refusals}
use Rattle.jt_gateway.specs.Gateway.{gateway_full}
use Rattle.jt_gateway.proofs.Acting.{no_line_not_full}
use Rattle.jt_gateway.proofs.gateway.Gateway.step.Goals as goal

pub returns-clause-at_full : goal.returns-clause-at_full
returns-clause-at_full c found =
    at_full_is refused.NoLine refused.Full refused.Memory FIX_LIMIT (gateway_full c.args.self.now c.args.event) c.act.result refusals
    c.act.ensures.room
    (λ number is. no_line_not_full c.args.self.now c.args.event number ((c.act.ensures.no_line number).0 is))
    (λ limit is. (c.act.ensures.full limit is).0)
    found
