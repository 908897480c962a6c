use Rattle.std.proofs.Common.{arith}
use Rattle.jt_layout.proofs.Answering.{answers}
use Rattle.jt_region_bodies.specs.Regions.{polygon}
use Rattle.jt_region_bodies.proofs.RegionLaws.{polygon_law}
use Rattle.jt_region_bodies.proofs.polygon.read_polygon.Goals as goal

pub returns : goal.returns
returns c = answers polygon polygon_law c.args.octets.now c.polygon_in.result (λ i. omega (arith, c.type_inv.octets i)) c.polygon_in.ensures
