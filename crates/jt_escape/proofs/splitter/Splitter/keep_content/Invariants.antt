use Rattle.std.proofs.Common.{◌+◌, ◌-◌, ◌≤◌, [], length, take, ◌≡◌}
use Rattle.jt_escape.specs.declared.splitter.Mode.TheVariants.{Inside}
use Rattle.jt_escape.specs.Scan.{Runs}
use Rattle.jt_escape.proofs.splitter.Splitter.keep_content.Given as goal

abbrev pub invariant-loop-taken : goal.invariant-loop-taken
invariant-loop-taken l =
    (l.taken ≤ length l.octets)
    × (l.self.place ≡ l.initial.self.place + l.taken)
    × (l.self.mode ≡ Inside)
    × Runs l.initial.self l.self (take l.taken l.octets) []

abbrev pub decreases-loop-taken : goal.decreases-loop-taken
decreases-loop-taken l = length l.octets - l.taken
