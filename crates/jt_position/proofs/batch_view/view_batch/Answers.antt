use Rattle.std.proofs.Common.{arith}
use Rattle.jt_layout.proofs.Answering.{answers_plainly}
use Rattle.jt_position.specs.declared.batch_view.BatchView.{BatchView}
use Rattle.jt_position.specs.Positions.{batch}
use Rattle.jt_position.proofs.ItemLaws.{batch_law}
use Rattle.jt_position.proofs.batch_view.view_batch.Goals as goal

pub returns : goal.returns
returns c = record { batch = answers_plainly batch batch_law (λ (view : BatchView). record { kind = view.kind; fixes = view.fixes }) c.args.octets.now c.view_in.result (λ i. omega (arith, c.type_inv.octets i)) c.view_in.ensures }
