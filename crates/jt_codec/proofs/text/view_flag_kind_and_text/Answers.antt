use Rattle.std.proofs.Common.{arith}
use Rattle.jt_layout.proofs.Answering.{answers_plainly}
use Rattle.jt_codec.specs.Layouts.{flag_kind_and_text}
use Rattle.jt_codec.proofs.BodyLaws.{flag_kind_and_text_law}
use Rattle.jt_codec.proofs.text.view_flag_kind_and_text.Goals as goal

pub returns : goal.returns
returns c = answers_plainly flag_kind_and_text flag_kind_and_text_law (λ fields. (fields.0, fields.1, fields.2.now)) c.args.octets.now c.flag_kind_and_slice.result (λ i. omega (arith, c.type_inv.octets i)) c.flag_kind_and_slice.ensures
