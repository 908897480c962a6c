use Rattle.std.proofs.Common.{◌≡◌, ◌≤◌}
use Rattle.terminal_tests.proofs.counting.beats.Given as goal

abbrev pub invariant-loop : goal.invariant-loop
invariant-loop l = (l.sent ≤ l.counter) × (l.terminal.state.time ≡ l.fn.terminal.state.time)
