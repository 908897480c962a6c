use Rattle.std.proofs.Common.{length}
use Rattle.dewfelt_board.proofs.board.trimmed.Given as goal

abbrev pub decreases-loop-last : goal.decreases-loop-last
decreases-loop-last l = length l.rest
