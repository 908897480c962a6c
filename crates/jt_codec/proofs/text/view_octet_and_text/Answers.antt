use Rattle.std.proofs.Common.{arith}
use Rattle.jt_layout.proofs.Answering.{answers_plainly}
use Rattle.jt_codec.specs.Layouts.{octet_and_text}
use Rattle.jt_codec.proofs.BodyLaws.{octet_and_text_law}
use Rattle.jt_codec.proofs.text.view_octet_and_text.Goals as goal

pub returns : goal.returns
returns c = answers_plainly octet_and_text octet_and_text_law (λ fields. (fields.0, fields.1.now)) c.args.octets.now c.octet_and_slice.result (λ i. omega (arith, c.type_inv.octets i)) c.octet_and_slice.ensures
