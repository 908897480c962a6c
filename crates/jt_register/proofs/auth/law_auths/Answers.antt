use Rattle.jt_layout.proofs.Answering.{one_to_one}
use Rattle.jt_register.specs.Registration.{auth}
use Rattle.jt_register.proofs.RegistrationLaws.{auth_law}
use Rattle.jt_register.proofs.auth.law_auths.Goals as goal

pub returns : goal.returns
returns c = λ edition. one_to_one (auth edition) (auth_law edition)
