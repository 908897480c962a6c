use Rattle.jt_delivery.proofs.Kept.{reached_kept}
use Rattle.jt_delivery.proofs.laws.law_kept_delivery.Goals as goal

pub returns : goal.returns
returns c = record { kept = reached_kept c.law_verdicts.ensures }
