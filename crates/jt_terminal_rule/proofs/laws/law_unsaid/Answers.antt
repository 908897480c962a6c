use Rattle.jt_terminal_rule.proofs.Unsaying.{each_frame}
use Rattle.jt_terminal_rule.proofs.laws.law_unsaid.Goals as goal

pub returns : goal.returns
returns c = each_frame
