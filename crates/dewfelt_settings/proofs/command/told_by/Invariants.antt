use Rattle.std.proofs.Common.{length}
use Rattle.dewfelt_settings.proofs.command.told_by.Given as goal

abbrev pub decreases-loop-word : goal.decreases-loop-word
decreases-loop-word l = length l.rest
