use Rattle.std.proofs.Common.{arith}
use Rattle.jt_layout.proofs.Answering.{answers}
use Rattle.jt_region_bodies.specs.Regions.{circles}
use Rattle.jt_region_bodies.proofs.RegionLaws.{circles_law}
use Rattle.jt_region_bodies.proofs.circle.read_circles.Goals as goal

pub returns : goal.returns
returns c = answers circles circles_law c.args.octets.now c.circles_in.result (λ i. omega (arith, c.type_inv.octets i)) c.circles_in.ensures
