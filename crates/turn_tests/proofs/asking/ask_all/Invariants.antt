use Rattle.std.proofs.Common.{◌≡◌}
use Rattle.turn_tests.proofs.asking.ask_all.Given as goal

abbrev pub invariant-loop-ask : goal.invariant-loop-ask
invariant-loop-ask g l = (l.pass.turn ≡ l.turn) × (l.pass.number ≡ l.number) × (l.pass.mine ≡ l.told)
