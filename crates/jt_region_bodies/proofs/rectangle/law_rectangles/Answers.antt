use Rattle.jt_layout.proofs.Answering.{one_to_one}
use Rattle.jt_region_bodies.specs.Regions.{rectangles}
use Rattle.jt_region_bodies.proofs.RegionLaws.{rectangles_law}
use Rattle.jt_region_bodies.proofs.rectangle.law_rectangles.Goals as goal

pub returns : goal.returns
returns c = one_to_one rectangles rectangles_law
