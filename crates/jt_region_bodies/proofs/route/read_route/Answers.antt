use Rattle.std.proofs.Common.{arith}
use Rattle.jt_layout.proofs.Answering.{answers}
use Rattle.jt_region_bodies.specs.Regions.{route}
use Rattle.jt_region_bodies.proofs.RegionLaws.{route_law}
use Rattle.jt_region_bodies.proofs.route.read_route.Goals as goal

pub returns : goal.returns
returns c = answers route route_law c.args.octets.now c.route_in.result (λ i. omega (arith, c.type_inv.octets i)) c.route_in.ensures
