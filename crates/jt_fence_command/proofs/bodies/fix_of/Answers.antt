use Rattle.std.proofs.Common.{arith}
use Rattle.jt_fence_command.proofs.Reading.{fix_is, long_fix, no_fix}
use Rattle.jt_fence_command.proofs.bodies.fix_of.Goals as goal

pub returns-then-octets-gt-BODY_LIMIT-clause-says : goal.returns-then-octets-gt-BODY_LIMIT-clause-says
returns-then-octets-gt-BODY_LIMIT-clause-says c = long_fix c.args.octets.now (omega (arith, c.if-octets-gt-BODY_LIMIT.true))

pub returns-in-Ok-clause-says : goal.returns-in-Ok-clause-says
returns-in-Ok-clause-says c =
    fix_is c.law_positions.ensures.one_to_one c.args.octets.now (record { fixed = c.in-Ok.view.fixed; items = c.in-Ok.view.items }) (λ i. omega (arith, c.type_inv.octets i))
    (omega (arith, c.if-octets-gt-BODY_LIMIT.false)) c.in-Ok.ensures.position

pub returns-in-Err-clause-says : goal.returns-in-Err-clause-says
returns-in-Err-clause-says c =
    no_fix c.law_positions.ensures.one_to_one c.args.octets.now _ (λ i. omega (arith, c.type_inv.octets i)) (omega (arith, c.if-octets-gt-BODY_LIMIT.false)) c.in-Err.ensures.position
