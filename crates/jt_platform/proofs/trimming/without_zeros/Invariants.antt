use Rattle.std.proofs.Common.{◌≡◌, ◌≤◌, take, length}
use Rattle.jt_platform.specs.History.{trim_zeros}
use Rattle.jt_platform.proofs.trimming.without_zeros.Given as goal

abbrev pub invariant-loop-end : goal.invariant-loop-end
invariant-loop-end l = (l.end ≤ length l.octets) × (trim_zeros l.octets ≡ trim_zeros (take l.end l.octets))

abbrev pub decreases-loop-end : goal.decreases-loop-end
decreases-loop-end l = l.end
