use Rattle.jt_terminal_rule.proofs.Lasting.{passes_all_waits}
use Rattle.jt_terminal_rule.proofs.laws.law_waits.Goals as goal

pub returns : goal.returns
returns c = passes_all_waits
