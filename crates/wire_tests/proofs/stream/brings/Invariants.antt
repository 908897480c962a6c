use Rattle.std.proofs.Common.{◌≤◌, ◌+◌, length}
use Rattle.wire_tests.proofs.stream.brings.Given as goal

abbrev pub invariant-loop-answer : goal.invariant-loop-answer
invariant-loop-answer l = l.stream.splitter.place + length l.rest ≤ l.fn.stream.splitter.place + length l.piece
