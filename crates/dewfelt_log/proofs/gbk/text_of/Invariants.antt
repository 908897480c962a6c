use Rattle.std.proofs.Common.{length}
use Rattle.dewfelt_log.proofs.gbk.text_of.Given as goal

abbrev pub decreases-loop-rest : goal.decreases-loop-rest
decreases-loop-rest l = length l.rest
