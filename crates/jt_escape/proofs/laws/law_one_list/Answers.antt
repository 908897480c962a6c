use Rattle.jt_escape.proofs.Reading.{events_held, one_list}
use Rattle.jt_escape.proofs.laws.law_one_list.Goals as goal

pub returns-clause-some : goal.returns-clause-some
returns-clause-some c = events_held

pub returns-clause-one : goal.returns-clause-one
returns-clause-one c = one_list
