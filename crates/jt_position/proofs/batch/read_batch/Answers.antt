use Rattle.std.proofs.Common.{arith}
use Rattle.jt_layout.proofs.Answering.{answers}
use Rattle.jt_position.specs.Positions.{batch}
use Rattle.jt_position.proofs.ItemLaws.{batch_law}
use Rattle.jt_position.proofs.batch.read_batch.Goals as goal

pub returns : goal.returns
returns c = answers batch batch_law c.args.octets.now c.batch_in.result (λ i. omega (arith, c.type_inv.octets i)) c.batch_in.ensures
