use Rattle.jt_session.proofs.Saying.{answers_are}
use Rattle.jt_session.proofs.laws.law_of_answers.Goals as goal

pub returns : goal.returns
returns c = answers_are c.law_of_acks.ensures
