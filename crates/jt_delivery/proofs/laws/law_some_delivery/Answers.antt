use Rattle.jt_delivery.proofs.Happening.{some_delivery}
use Rattle.jt_delivery.proofs.laws.law_some_delivery.Goals as goal

pub returns : goal.returns
returns c = some_delivery c.law_fixes.ensures
