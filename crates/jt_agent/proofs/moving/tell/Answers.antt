use Rattle.jt_agent.proofs.Concluding.{came}
use Rattle.jt_agent.proofs.moving.tell.Goals as goal

pub returns-in-Ok-clause-comes : goal.returns-in-Ok-clause-comes
returns-in-Ok-clause-comes g c = came _ _ _ _ _ _ _ _ c.in-Ok.ensures.state c.in-Ok.ensures.vault c.in-Ok.ensures.frames c.in-Ok.ensures.end c.done-done.ensures.done c.conclude.ensures.concludes
