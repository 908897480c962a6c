use Rattle.jt_terminal_rule.proofs.Batches.{fitting_is_greatest, unit_carries}
use Rattle.jt_terminal_rule.proofs.laws.law_forming.Goals as goal

pub returns-clause-greatest : goal.returns-clause-greatest
returns-clause-greatest c = fitting_is_greatest

pub returns-clause-carries : goal.returns-clause-carries
returns-clause-carries c = unit_carries c.law_fixes.ensures
