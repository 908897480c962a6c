use Rattle.std.proofs.Common.{arith}
use Rattle.jt_layout.proofs.Answering.{answers_plainly}
use Rattle.jt_position.specs.declared.position_view.PositionView.{PositionView}
use Rattle.jt_position.specs.Positions.{position}
use Rattle.jt_position.proofs.ItemLaws.{position_law}
use Rattle.jt_position.proofs.position_view.view_position.Goals as goal

pub returns : goal.returns
returns c = record { position = answers_plainly position position_law (λ (view : PositionView). record { fixed = view.fixed; items = view.items }) c.args.octets.now c.read_from.result (λ i. omega (arith, c.type_inv.octets i)) (rw c.new.ensures at c.read_from.ensures) }
