use Rattle.jt_value.proofs.Verdicts.{verdicts}
use Rattle.jt_value.proofs.serials.place.Goals as goal

pub returns-clause-verdict : goal.returns-clause-verdict
returns-clause-verdict c = λ has v. verdicts c.args.last c.args.serial c.place_of.result c.place_of.ensures has v
