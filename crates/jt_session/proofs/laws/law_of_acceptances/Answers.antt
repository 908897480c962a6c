use Rattle.jt_session.proofs.Answering.{accepted_once_stored}
use Rattle.jt_session.proofs.laws.law_of_acceptances.Goals as goal

pub returns : goal.returns
returns c = accepted_once_stored
