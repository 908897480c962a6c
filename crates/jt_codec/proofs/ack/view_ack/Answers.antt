use Rattle.std.proofs.Common.{ℕ, arith}
use Rattle.jt_layout.proofs.Answering.{answers_plainly}
use Rattle.jt_codec.specs.Layouts.{ack}
use Rattle.jt_codec.proofs.BodyLaws.{ack_law}
use Rattle.jt_codec.proofs.ack.view_ack.Goals as goal

pub returns : goal.returns
returns c = answers_plainly ack ack_law (λ (fields : ℕ × ℕ × ℕ). fields) c.args.octets.now c.fields_in.result (λ i. omega (arith, c.type_inv.octets i)) c.fields_in.ensures
