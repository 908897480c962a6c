use Rattle.std.proofs.Common.{length}
use Rattle.dewfelt_fleet.proofs.reader.read_fleet.Given as goal

abbrev pub decreases-loop-rest : goal.decreases-loop-rest
decreases-loop-rest l = length l.rest
