use Rattle.jt_gateway.proofs.Acting.{begins}
use Rattle.jt_gateway.proofs.gateway.gateway_of.Goals as goal

pub returns-in-Ok-clause-gateway : goal.returns-in-Ok-clause-gateway
returns-in-Ok-clause-gateway c = begins c.args.a c.in-Ok.b c.requires.begun c.in-Ok.ensures.upstream

pub invariant_of-result : goal.invariant_of-result
invariant_of-result c = c.in-Ok.ensures.upstream.of_2019
