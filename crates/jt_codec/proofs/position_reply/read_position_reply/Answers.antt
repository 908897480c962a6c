use Rattle.std.proofs.Common.{arith}
use Rattle.jt_layout.proofs.Answering.{answers}
use Rattle.jt_codec.specs.Layouts.{position_reply}
use Rattle.jt_codec.proofs.BodyLaws.{position_reply_law}
use Rattle.jt_codec.proofs.position_reply.read_position_reply.Goals as goal

pub returns : goal.returns
returns c = answers position_reply position_reply_law c.args.octets.now c.position_reply_in.result (λ i. omega (arith, c.type_inv.octets i)) c.position_reply_in.ensures
