use Rattle.std.proofs.Common.{arith}
use Rattle.jt_layout.specs.Layout.{empty}
use Rattle.jt_layout.proofs.Answering.{answers_plainly}
use Rattle.jt_layout.proofs.Laws.{empty_law}
use Rattle.jt_codec.proofs.empty.view_empty.Goals as goal

pub returns : goal.returns
returns c = answers_plainly empty empty_law (λ (end : Unit {0}). end) c.args.octets.now c.end.result (λ i. omega (arith, c.type_inv.octets i)) (rw c.new.ensures at c.end.ensures)
