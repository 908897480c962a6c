use Rattle.std.proofs.Common.{◌≡◌}
use Rattle.sql_run_tests.proofs.terminal.go.Given as goal

abbrev pub invariant-loop-moment : goal.invariant-loop-moment
invariant-loop-moment g l =
    (goal.iterator-loop-moment g).can_next l.moment-iterator ×
    (goal.iterator-loop-moment g).is_finite l.moment-iterator ×
    (l.terminal.state.time ≡ 0)
