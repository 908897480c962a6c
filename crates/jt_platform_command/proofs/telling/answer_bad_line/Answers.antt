use Rattle.jt_platform_command.proofs.Causes.{cut_fault}
use Rattle.jt_platform_command.proofs.telling.answer_bad_line.Goals as goal

pub returns-clause-status : goal.returns-clause-status
returns-clause-status g c = cut_fault _ _ c.answer_early_end.ensures.status
