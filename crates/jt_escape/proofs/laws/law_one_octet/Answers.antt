use Rattle.jt_escape.proofs.Reading.{one_octet}
use Rattle.jt_escape.proofs.laws.law_one_octet.Goals as goal

pub returns : goal.returns
returns c = one_octet
