use Rattle.jt_escape.proofs.Runs.{Runs-none, takes_in_place, silent_in_place}
use Rattle.jt_escape.proofs.splitter.Splitter.take_in_place.Goals as goal

pub returns-then-opens-clause-events : goal.returns-then-opens-clause-events
returns-then-opens-clause-events c = takes_in_place _ _ _ _ c.take_frame.ensures.runs

pub returns-then-opens-clause-first : goal.returns-then-opens-clause-first
returns-then-opens-clause-first c = silent_in_place _ _ _ _ _ c.take_frame.ensures.runs c.take_frame.ensures.within.1

pub returns-clause-events : goal.returns-clause-events
returns-clause-events c = takes_in_place _ _ _ _ (c.take_kept.ensures.runs _ (Runs-none _))

pub returns-clause-first : goal.returns-clause-first
returns-clause-first c = silent_in_place _ _ _ _ _ (c.take_kept.ensures.runs _ (Runs-none _)) c.take_kept.ensures.within.1
