use Rattle.jt_terminal_rule.proofs.Composing.{sends_append}
use Rattle.jt_terminal_steps.proofs.Chaining.{holds_after-append, holds_after-told, holds_after-untold}
use Rattle.jt_terminal_steps.proofs.Leaving.{lists_append}
use Rattle.jt_terminal.proofs.laws.law_steps.Goals as goal

pub returns-clause-sends : goal.returns-clause-sends
returns-clause-sends c = sends_append

pub returns-clause-holds : goal.returns-clause-holds
returns-clause-holds c = holds_after-append

pub returns-clause-lists : goal.returns-clause-lists
returns-clause-lists c = lists_append

pub returns-clause-told : goal.returns-clause-told
returns-clause-told c = holds_after-told

pub returns-clause-untold : goal.returns-clause-untold
returns-clause-untold c = holds_after-untold
