use Rattle.std.proofs.Common.{◌≤◌}
use Rattle.terminal_tests.proofs.playing.wrong_row.Given as goal

abbrev pub invariant-loop-place : goal.invariant-loop-place
invariant-loop-place l = (l.terminal.state.time ≤ l.time) × (l.line.stream.place ≤ l.read)
