use Rattle.std.proofs.Common.{arith}
use Rattle.jt_layout.proofs.Answering.{answers}
use Rattle.jt_region_bodies.specs.Regions.{deletion}
use Rattle.jt_region_bodies.proofs.RegionLaws.{deletion_law}
use Rattle.jt_region_bodies.proofs.deletion.read_deletion.Goals as goal

pub returns : goal.returns
returns c = answers deletion deletion_law c.args.octets.now c.deletion_in.result (λ i. omega (arith, c.type_inv.octets i)) c.deletion_in.ensures
