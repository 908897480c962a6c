use Rattle.jt_world.proofs.Made.{IsRound}
use Rattle.jt_world.proofs.making.Making.rounds.Given as goal

abbrev pub invariant-loop-k : goal.invariant-loop-k
invariant-loop-k l = IsRound l.fn.self l.self l.count l.k l.newest
