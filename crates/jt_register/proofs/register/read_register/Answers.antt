use Rattle.std.proofs.Common.{arith}
use Rattle.jt_layout.proofs.Answering.{answers}
use Rattle.jt_register.specs.Registration.{register}
use Rattle.jt_register.proofs.RegistrationLaws.{register_law}
use Rattle.jt_register.proofs.register.read_register.Goals as goal

pub returns : goal.returns
returns c = answers (register c.args.edition) (register_law c.args.edition) c.args.octets.now c.register_in.result (λ i. omega (arith, c.type_inv.octets i)) c.register_in.ensures
