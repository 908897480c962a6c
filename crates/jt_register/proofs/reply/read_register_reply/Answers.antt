use Rattle.std.proofs.Common.{arith}
use Rattle.jt_layout.proofs.Answering.{answers}
use Rattle.jt_register.specs.Registration.{register_reply}
use Rattle.jt_register.proofs.RegistrationLaws.{register_reply_law}
use Rattle.jt_register.proofs.reply.read_register_reply.Goals as goal

pub returns : goal.returns
returns c = answers register_reply register_reply_law c.args.octets.now c.register_reply_in.result (λ i. omega (arith, c.type_inv.octets i)) c.register_reply_in.ensures
