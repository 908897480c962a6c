use Rattle.std.proofs.Common.{◌+◌, ◌-◌, ◌≤◌, [], length, take, ◌≡◌}
use Rattle.jt_escape.specs.Scan.{Runs}
use Rattle.jt_escape.proofs.splitter.Splitter.take_all.Given as goal

abbrev pub invariant-loop-taken : goal.invariant-loop-taken
invariant-loop-taken l =
    (l.taken ≤ length l.piece)
    × (l.self.place ≡ l.initial.self.place + l.taken)
    × Runs l.initial.self l.self (take l.taken l.piece) []

abbrev pub decreases-loop-taken : goal.decreases-loop-taken
decreases-loop-taken l = length l.piece - l.taken
