use Rattle.std.proofs.Common.{◌≡◌}
use Rattle.platform_tests.proofs.turning.goes_all.Given as goal

abbrev pub invariant-loop-step : goal.invariant-loop-step
invariant-loop-step g l = l.pass.turn ≡ l.turn
