use Rattle.std.proofs.Common.{◌≡◌}
use Rattle.turn_tests.proofs.tests.asks_beyond_the_limit_are_faults.Given as goal

abbrev pub invariant-loop-answer : goal.invariant-loop-answer
invariant-loop-answer g l = (l.pass.turn ≡ l.turn) × (l.pass.number ≡ 0) × (l.pass.lent ≡ 0)
