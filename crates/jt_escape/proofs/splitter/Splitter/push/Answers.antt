use Rattle.jt_escape.proofs.Taking.{place_next, content_some}
use Rattle.jt_escape.proofs.Runs.{Runs-one, Runs-kept, takes_run, takes_in_place}
use Rattle.jt_escape.proofs.splitter.Splitter.push.Goals as goal

pub returns-clause-place : goal.returns-clause-place
returns-clause-place c = place_next _ _ _ c.step.ensures.next

pub returns-clause-events : goal.returns-clause-events
returns-clause-events c = takes_run _ _ _ _ (Runs-one _ _ _ _ c.step.ensures.next c.step.ensures.told)

pub returns-clause-in_place : goal.returns-clause-in_place
returns-clause-in_place c = takes_in_place _ _ _ _ (Runs-kept _ _ _ _ (Runs-one _ _ _ _ c.step.ensures.next c.step.ensures.told))

pub returns-clause-content : goal.returns-clause-content
returns-clause-content c = content_some _ _ _ _ c.step.ensures.told
