use Rattle.jt_order_session.proofs.Responding.{responses_agree}
use Rattle.jt_order_session.proofs.laws.law_of_responses.Goals as goal

pub returns : goal.returns
returns c = responses_agree
