use Rattle.jt_stream.proofs.Judging.{unplaced_are}
use Rattle.jt_stream.proofs.laws.law_items.Goals as goal

pub returns : goal.returns
returns c = unplaced_are c.law_of_contents.ensures.read_back c.law_one_list.ensures.some c.law_one_list.ensures.one
