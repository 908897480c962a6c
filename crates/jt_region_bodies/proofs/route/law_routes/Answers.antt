use Rattle.jt_layout.proofs.Answering.{one_to_one}
use Rattle.jt_region_bodies.specs.Regions.{route}
use Rattle.jt_region_bodies.proofs.RegionLaws.{route_law}
use Rattle.jt_region_bodies.proofs.route.law_routes.Goals as goal

pub returns : goal.returns
returns c = one_to_one route route_law
