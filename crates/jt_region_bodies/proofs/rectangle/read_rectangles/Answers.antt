use Rattle.std.proofs.Common.{arith}
use Rattle.jt_layout.proofs.Answering.{answers}
use Rattle.jt_region_bodies.specs.Regions.{rectangles}
use Rattle.jt_region_bodies.proofs.RegionLaws.{rectangles_law}
use Rattle.jt_region_bodies.proofs.rectangle.read_rectangles.Goals as goal

pub returns : goal.returns
returns c = answers rectangles rectangles_law c.args.octets.now c.rectangles_in.result (λ i. omega (arith, c.type_inv.octets i)) c.rectangles_in.ensures
