use Rattle.jt_order_session_steps.proofs.Offering.{offers_are_steps}
use Rattle.jt_order_session_steps.proofs.laws.law_session_offers.Goals as goal

pub returns : goal.returns
returns c = offers_are_steps
