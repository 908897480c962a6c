use Rattle.jt_stream.proofs.Judging.{one_octet}
use Rattle.jt_stream.proofs.laws.law_one_octet.Goals as goal

pub returns : goal.returns
returns c = one_octet c.law_one_list.ensures.some c.law_one_octet.ensures
