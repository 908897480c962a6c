use Rattle.jt_terminal_steps.proofs.Chaining.{any_err}
use Rattle.jt_terminal.proofs.feeding.hear_lack.Goals as goal

pub returns-in_err-ask_if_live-clause-tables : goal.returns-in_err-ask_if_live-clause-tables
returns-in_err-ask_if_live-clause-tables g c = any_err _ c.ask_if_live.ensures.tables
