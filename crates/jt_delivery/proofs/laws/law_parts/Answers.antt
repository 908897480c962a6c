use Rattle.jt_delivery.proofs.Hearing.{one_is_named}
use Rattle.jt_delivery.proofs.Parts.{parts_follow, reached_parts}
use Rattle.jt_delivery.proofs.laws.law_parts.Goals as goal

pub returns-clause-follow : goal.returns-clause-follow
returns-clause-follow c = parts_follow

pub returns-clause-reached : goal.returns-clause-reached
returns-clause-reached c = reached_parts c.law_verdicts.ensures

pub returns-clause-one : goal.returns-clause-one
returns-clause-one c = one_is_named
