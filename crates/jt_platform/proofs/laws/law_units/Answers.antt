use Rattle.jt_platform.proofs.Telling.{units_tell}
use Rattle.jt_platform.proofs.laws.law_units.Goals as goal

pub returns : goal.returns
returns c = units_tell c.law_verdicts.ensures
