use Rattle.jt_escape.proofs.Reading.{ended, one_end}
use Rattle.jt_escape.proofs.laws.law_one_end.Goals as goal

pub returns-clause-some : goal.returns-clause-some
returns-clause-some c = ended

pub returns-clause-one : goal.returns-clause-one
returns-clause-one c = one_end
