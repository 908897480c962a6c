use Rattle.jt_escape.proofs.Runs.{Runs-kept, takes_run, takes_in_place, silent_before, silent_in_place}
use Rattle.jt_escape.proofs.splitter.Splitter.take.Goals as goal

pub returns-clause-events : goal.returns-clause-events
returns-clause-events c = takes_run _ _ _ _ c.take_all.ensures.runs

pub returns-clause-in_place : goal.returns-clause-in_place
returns-clause-in_place c = takes_in_place _ _ _ _ (Runs-kept _ _ _ _ c.take_all.ensures.runs)

pub returns-clause-first : goal.returns-clause-first
returns-clause-first c = silent_before _ _ _ _ _ c.take_all.ensures.runs c.take_all.ensures.within

pub returns-clause-first_in_place : goal.returns-clause-first_in_place
returns-clause-first_in_place c = silent_in_place _ _ _ _ _ (Runs-kept _ _ _ _ c.take_all.ensures.runs) c.take_all.ensures.within
