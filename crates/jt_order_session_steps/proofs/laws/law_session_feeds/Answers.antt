use Rattle.jt_order_session_steps.proofs.Feeding.{feeds_are_steps}
use Rattle.jt_order_session_steps.proofs.laws.law_session_feeds.Goals as goal

pub returns : goal.returns
returns c = feeds_are_steps c.law_one_octet.ensures c.law_front.ensures.unplaced c.law_of_responses.ensures
