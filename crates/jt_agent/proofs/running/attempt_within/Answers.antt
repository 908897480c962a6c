use Rattle.jt_agent.proofs.Going.{attempt_of}
use Rattle.jt_agent.proofs.running.attempt_within.Goals as goal

pub returns-clause-attempt : goal.returns-clause-attempt
returns-clause-attempt g c = attempt_of _ _ _ _ _ _ _ _ _ _ c.converse-ended.ensures.ends c.lose.ensures.did c.lose.ensures.vault.later
