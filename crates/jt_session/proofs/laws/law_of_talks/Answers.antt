use Rattle.jt_session.proofs.Talking.{one_talk}
use Rattle.jt_session.proofs.laws.law_of_talks.Goals as goal

pub returns : goal.returns
returns c = one_talk
