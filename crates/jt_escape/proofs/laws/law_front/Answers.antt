use Rattle.jt_escape.proofs.Reading.{front_first}
use Rattle.jt_escape.proofs.laws.law_front.Goals as goal

pub returns : goal.returns
returns c = front_first
