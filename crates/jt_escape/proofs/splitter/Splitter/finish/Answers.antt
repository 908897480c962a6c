use Rattle.jt_escape.proofs.Taking.{end_now, end_in_place}
use Rattle.jt_escape.proofs.splitter.Splitter.finish.Goals as goal

pub returns-clause-end : goal.returns-clause-end
returns-clause-end c = λ stream stands. end_now _ stream _ c.end.ensures stands

pub returns-clause-in_place : goal.returns-clause-in_place
returns-clause-in_place c = λ stream continues. end_in_place _ stream _ c.end.ensures continues
