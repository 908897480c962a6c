use Rattle.std.proofs.Common.{arith}
use Rattle.jt_fence_command.proofs.Reading.{few_rectangles, no_rectangles, rectangles_are}
use Rattle.jt_fence_command.proofs.bodies.rectangles_of.Goals as goal

pub returns-in-Ok-clause-says : goal.returns-in-Ok-clause-says
returns-in-Ok-clause-says c =
    rectangles_are c.law_rectangles.ensures c.args.octets.now c.in-Ok.setting c.in-Ok.list (λ i. omega (arith, c.type_inv.octets i)) c.in-Ok.ensures

pub returns-in-Ok-clause-few : goal.returns-in-Ok-clause-few
returns-in-Ok-clause-few c = few_rectangles c.args.octets.now c.in-Ok.setting c.in-Ok.list c.in-Ok.ensures

pub returns-in-Err-Refused-clause-says : goal.returns-in-Err-Refused-clause-says
returns-in-Err-Refused-clause-says c =
    no_rectangles c.law_rectangles.ensures c.args.octets.now c.in-Err-Refused.field-0 _ (λ i. omega (arith, c.type_inv.octets i)) c.in-Err-Refused.field-0-is c.in-Err-Refused.ensures
