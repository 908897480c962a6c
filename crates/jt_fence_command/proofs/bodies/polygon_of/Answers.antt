use Rattle.std.proofs.Common.{arith}
use Rattle.jt_fence_command.proofs.Reading.{no_polygon, polygon_is}
use Rattle.jt_fence_command.proofs.bodies.polygon_of.Goals as goal

pub returns-in-Ok-clause-says : goal.returns-in-Ok-clause-says
returns-in-Ok-clause-says c = polygon_is c.law_polygons.ensures c.args.octets.now c.in-Ok.polygon (λ i. omega (arith, c.type_inv.octets i)) c.in-Ok.ensures

pub returns-in-Err-Refused-clause-says : goal.returns-in-Err-Refused-clause-says
returns-in-Err-Refused-clause-says c =
    no_polygon c.law_polygons.ensures c.args.octets.now c.in-Err-Refused.field-0 _ (λ i. omega (arith, c.type_inv.octets i)) c.in-Err-Refused.field-0-is c.in-Err-Refused.ensures
