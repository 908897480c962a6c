use Rattle.std.proofs.Common.{length}
use Rattle.dewfelt_fleet.proofs.line.without_zeros.Given as goal

abbrev pub decreases-loop-last : goal.decreases-loop-last
decreases-loop-last l = length l.rest
