use Rattle.std.proofs.Common.{arith}
use Rattle.jt_layout.proofs.Answering.{answers}
use Rattle.jt_position.specs.Positions.{position}
use Rattle.jt_position.proofs.ItemLaws.{position_law}
use Rattle.jt_position.proofs.position.read_position.Goals as goal

pub returns : goal.returns
returns c = answers position position_law c.args.octets.now c.read_from.result (λ i. omega (arith, c.type_inv.octets i)) (rw c.new.ensures at c.read_from.ensures.value)
