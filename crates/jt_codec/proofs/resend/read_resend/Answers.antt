use Rattle.std.proofs.Common.{arith}
use Rattle.jt_layout.proofs.Answering.{answers}
use Rattle.jt_codec.specs.Resend.{resend}
use Rattle.jt_codec.proofs.ResendLaws.{resend_law}
use Rattle.jt_codec.proofs.resend.read_resend.Goals as goal

pub returns : goal.returns
returns c = answers (resend c.args.edition) (resend_law c.args.edition) c.args.octets.now c.resend_in.result (λ i. omega (arith, c.type_inv.octets i)) c.resend_in.ensures
