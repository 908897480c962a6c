use Rattle.jt_order_session_steps.proofs.Beginning.{lines_are_noted, new_sessions_stand}
use Rattle.jt_order_session_steps.proofs.Keeping.{sessions_stand_on}
use Rattle.jt_order_session_steps.proofs.laws.law_session_stands.Goals as goal

pub returns-clause-noted : goal.returns-clause-noted
returns-clause-noted c = lines_are_noted

pub returns-clause-begins : goal.returns-clause-begins
returns-clause-begins c = new_sessions_stand

pub returns-clause-goes_on : goal.returns-clause-goes_on
returns-clause-goes_on c = sessions_stand_on
