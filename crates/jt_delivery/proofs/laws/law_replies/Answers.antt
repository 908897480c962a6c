use Rattle.jt_delivery.proofs.Kept.{reached_none}
use Rattle.jt_delivery.proofs.laws.law_replies.Goals as goal

pub returns : goal.returns
returns c = reached_none c.law_verdicts.ensures
