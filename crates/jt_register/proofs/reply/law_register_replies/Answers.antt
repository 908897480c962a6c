use Rattle.jt_layout.proofs.Answering.{one_to_one}
use Rattle.jt_register.specs.Registration.{register_reply}
use Rattle.jt_register.proofs.RegistrationLaws.{register_reply_law}
use Rattle.jt_register.proofs.reply.law_register_replies.Goals as goal

pub returns : goal.returns
returns c = one_to_one register_reply register_reply_law
