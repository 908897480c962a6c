use Rattle.jt_stream.proofs.Judging.{front_first, front_unplaced}
use Rattle.jt_stream.proofs.laws.law_front.Goals as goal

pub returns-clause-placed : goal.returns-clause-placed
returns-clause-placed c = front_first c.law_of_contents.ensures.never_both c.law_of_contents.ensures.one_content c.law_front.ensures

pub returns-clause-unplaced : goal.returns-clause-unplaced
returns-clause-unplaced c = front_unplaced c.law_one_list.ensures.some c.law_front.ensures
