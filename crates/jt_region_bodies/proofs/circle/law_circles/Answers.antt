use Rattle.jt_layout.proofs.Answering.{one_to_one}
use Rattle.jt_region_bodies.specs.Regions.{circles}
use Rattle.jt_region_bodies.proofs.RegionLaws.{circles_law}
use Rattle.jt_region_bodies.proofs.circle.law_circles.Goals as goal

pub returns : goal.returns
returns c = one_to_one circles circles_law
