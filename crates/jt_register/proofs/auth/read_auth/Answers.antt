use Rattle.std.proofs.Common.{arith}
use Rattle.jt_layout.proofs.Answering.{answers}
use Rattle.jt_register.specs.Registration.{auth}
use Rattle.jt_register.proofs.RegistrationLaws.{auth_law}
use Rattle.jt_register.proofs.auth.read_auth.Goals as goal

pub returns : goal.returns
returns c = answers (auth c.args.edition) (auth_law c.args.edition) c.args.octets.now c.auth_in.result (λ i. omega (arith, c.type_inv.octets i)) c.auth_in.ensures
