use Rattle.std.proofs.Common.{◌∙◌}
use Rattle.jt_turn.proofs.turn.Turn.lock.Goals as goal

pub take_soon-requires-clause-idle : goal.take_soon-requires-clause-idle
take_soon-requires-clause-idle g c = (c.requires.idle.0, c.loop.invariant.3 ∙ c.requires.idle.1)

pub swap_lock-requires-clause-idle : goal.swap_lock-requires-clause-idle
swap_lock-requires-clause-idle g c = (c.requires.idle.0, c.take_soon.ensures.same ∙ (c.loop.invariant.3 ∙ c.requires.idle.1))
