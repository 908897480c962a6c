use Rattle.jt_terminal_steps.proofs.Chaining.{any_err}
use Rattle.jt_terminal.proofs.feeding.hear_refused.Goals as goal

pub returns-in_err-refuse_if_live-clause-tables : goal.returns-in_err-refuse_if_live-clause-tables
returns-in_err-refuse_if_live-clause-tables g c = any_err _ c.refuse_if_live.ensures.tables
