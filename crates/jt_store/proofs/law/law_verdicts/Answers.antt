use Rattle.jt_store.proofs.Nearness.{near}
use Rattle.jt_store.proofs.law.law_verdicts.Goals as goal

pub returns : goal.returns
returns c = near
