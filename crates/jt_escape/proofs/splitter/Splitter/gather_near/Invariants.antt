use Rattle.std.proofs.Common.{◌+◌, ◌-◌, ◌<◌, ◌≤◌, [], get_or, length, take, ◌≡◌}
use Rattle.jt_escape.specs.declared.splitter.Mode.TheVariants.{Inside}
use Rattle.jt_escape.specs.Scan.{Runs, standing}
use Rattle.jt_escape.proofs.splitter.Splitter.gather_near.Given as goal

abbrev pub invariant-loop-taken : goal.invariant-loop-taken
invariant-loop-taken l =
    (l.taken ≤ length l.octets)
    × (l.self.place ≡ l.initial.self.place)
    × (l.self.mode ≡ Inside)
    × (length l.self.content + length l.octets ≤ 1045 + l.taken)
    × (l.taken < length l.octets → get_or l.octets l.taken 0 ≡ l.first)
    × Runs l.initial.self (standing l.self (l.initial.self.place + l.taken)) (take l.taken l.octets) []

abbrev pub decreases-loop-taken : goal.decreases-loop-taken
decreases-loop-taken l = length l.octets - l.taken
