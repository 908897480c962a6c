use Rattle.jt_layout.proofs.Answering.{one_to_one}
use Rattle.jt_region_bodies.specs.Regions.{polygon}
use Rattle.jt_region_bodies.proofs.RegionLaws.{polygon_law}
use Rattle.jt_region_bodies.proofs.polygon.law_polygons.Goals as goal

pub returns : goal.returns
returns c = one_to_one polygon polygon_law
