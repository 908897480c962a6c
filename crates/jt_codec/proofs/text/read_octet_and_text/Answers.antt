use Rattle.std.proofs.Common.{arith}
use Rattle.jt_layout.proofs.Answering.{answers}
use Rattle.jt_codec.specs.Layouts.{octet_and_text}
use Rattle.jt_codec.proofs.BodyLaws.{octet_and_text_law}
use Rattle.jt_codec.proofs.text.read_octet_and_text.Goals as goal

pub returns : goal.returns
returns c = answers octet_and_text octet_and_text_law c.args.octets.now c.octet_and_text_in.result (λ i. omega (arith, c.type_inv.octets i)) c.octet_and_text_in.ensures
