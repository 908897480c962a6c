use Rattle.jt_layout.proofs.Answering.{one_to_one}
use Rattle.jt_register.specs.Registration.{register}
use Rattle.jt_register.proofs.RegistrationLaws.{register_law}
use Rattle.jt_register.proofs.register.law_registrations.Goals as goal

pub returns : goal.returns
returns c = λ edition. one_to_one (register edition) (register_law edition)
