use Rattle.jt_order_session_steps.proofs.Closing.{closes_are_steps}
use Rattle.jt_order_session_steps.proofs.laws.law_session_closes.Goals as goal

pub returns : goal.returns
returns c = closes_are_steps
