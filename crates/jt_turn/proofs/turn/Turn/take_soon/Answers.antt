use Rattle.std.proofs.Common.{◌∙◌}
use Rattle.jt_turn.proofs.turn.Turn.take_soon.Goals as goal

pub take_lock-requires-clause-idle : goal.take_lock-requires-clause-idle
take_lock-requires-clause-idle g c = (c.requires.idle.0, c.loop.invariant.1 ∙ c.requires.idle.1)
