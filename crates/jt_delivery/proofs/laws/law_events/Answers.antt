use Rattle.jt_delivery.proofs.Kept.{events_keep}
use Rattle.jt_delivery.proofs.laws.law_events.Goals as goal

pub returns : goal.returns
returns c = events_keep c.law_verdicts.ensures
