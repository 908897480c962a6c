use Rattle.jt_layout.proofs.Answering.{one_to_one}
use Rattle.jt_region_bodies.specs.Regions.{deletion}
use Rattle.jt_region_bodies.proofs.RegionLaws.{deletion_law}
use Rattle.jt_region_bodies.proofs.deletion.law_deletions.Goals as goal

pub returns : goal.returns
returns c = one_to_one deletion deletion_law
