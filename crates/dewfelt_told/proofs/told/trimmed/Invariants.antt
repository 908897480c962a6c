use Rattle.std.proofs.Common.{length}
use Rattle.dewfelt_told.proofs.told.trimmed.Given as goal

abbrev pub decreases-loop-last : goal.decreases-loop-last
decreases-loop-last l = length l.rest
