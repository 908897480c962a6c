use Rattle.jt_agent.proofs.Concluding.{came}
use Rattle.jt_agent.proofs.moving.hear.Goals as goal

pub returns-in-Ok-clause-comes : goal.returns-in-Ok-clause-comes
returns-in-Ok-clause-comes g c = λ seen stands.
    came _ _ _ _ _ _ _ _ (c.in-Ok.ensures.state seen stands) (c.in-Ok.ensures.vault seen stands) (c.in-Ok.ensures.frames seen stands) (c.in-Ok.ensures.end seen stands) c.done-done.ensures.done c.conclude.ensures.concludes
