use Rattle.jt_escape.specs.Splitter.{StandsFor, Continues}
use Rattle.jt_stream.proofs.Gaining.{gains, refusal_stays}
use Rattle.jt_stream.proofs.stream.take.Goals as goal

pub returns-in-More-clause-items : goal.returns-in-More-clause-items
returns-in-More-clause-items c = gains StandsFor _ _ _ _ _ (rw c.in-More.is at c.take-taken.ensures.events) tt

pub returns-in-More-clause-in_place : goal.returns-in-More-clause-in_place
returns-in-More-clause-in_place c = gains Continues _ _ _ _ _ (rw c.in-More.is at c.take-taken.ensures.in_place) tt

pub returns-in-Refused-clause-items : goal.returns-in-Refused-clause-items
returns-in-Refused-clause-items c = gains StandsFor _ _ _ _ _ (rw c.in-Refused.is at c.take-taken.ensures.events) (refusal_stays c.in-Refused.refusal)

pub returns-in-Refused-clause-in_place : goal.returns-in-Refused-clause-in_place
returns-in-Refused-clause-in_place c = gains Continues _ _ _ _ _ (rw c.in-Refused.is at c.take-taken.ensures.in_place) (refusal_stays c.in-Refused.refusal)

pub returns-in-Content-clause-items : goal.returns-in-Content-clause-items
returns-in-Content-clause-items c = gains StandsFor _ _ _ _ _ (rw c.in-Content.is at c.take-taken.ensures.events) c.judge.ensures.items

pub returns-in-Content-clause-in_place : goal.returns-in-Content-clause-in_place
returns-in-Content-clause-in_place c = gains Continues _ _ _ _ _ (rw c.in-Content.is at c.take-taken.ensures.in_place) c.judge.ensures.items
