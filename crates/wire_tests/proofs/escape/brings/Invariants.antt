use Rattle.std.proofs.Common.{◌≡◌, ◌+◌}
use Rattle.wire_tests.proofs.escape.brings.Given as goal

abbrev pub invariant-loop-index : goal.invariant-loop-index
invariant-loop-index l = l.splitter.place ≡ l.initial.splitter.place + l.index-counter
