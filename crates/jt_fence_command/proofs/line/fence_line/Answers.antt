use Rattle.std.proofs.Common.{sym, ◌∙◌}
use Rattle.jt_fence_command.proofs.Words.{says_event, says_passed, says_words}
use Rattle.jt_fence_command.proofs.line.fence_line.Goals as goal

pub returns-in-Passed-clause-says : goal.returns-in-Passed-clause-says
returns-in-Passed-clause-says c = says_passed c.args.line.now (sym c.in-Passed.is ∙ c.in_ok-event_line.ensures)

pub returns-in-Event-clause-says : goal.returns-in-Event-clause-says
returns-in-Event-clause-says c = says_event c.args.line.now c.in-Event.event c.event_of.result (sym c.in-Event.is ∙ c.in_ok-event_line.ensures) c.event_of.ensures.says

pub returns-in-Bad-clause-says : goal.returns-in-Bad-clause-says
returns-in-Bad-clause-says c = says_words c.args.line.now c.words_of.result (sym c.in-Bad.is ∙ c.in_ok-event_line.ensures) c.words_of.ensures.says
