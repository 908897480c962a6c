use Rattle.jt_order_terminal_steps.proofs.Events.{event_in_part, event_whole, first_is, start_is}
use Rattle.jt_order_terminal_steps.proofs.Feeds.{feed_in_part, feed_whole}
use Rattle.jt_order_terminal_steps.proofs.Keeping.{terminal_stands_on}
use Rattle.jt_order_terminal_steps.proofs.laws.law_order_terminal.Goals as goal

pub returns-clause-first : goal.returns-clause-first
returns-clause-first c = first_is

pub returns-clause-start : goal.returns-clause-start
returns-clause-start c = start_is c.law_rule.ensures.start

pub returns-clause-event : goal.returns-clause-event
returns-clause-event c = event_whole c.law_rule.ensures.steps

pub returns-clause-failed_event : goal.returns-clause-failed_event
returns-clause-failed_event c = event_in_part c.law_rule.ensures.cut

pub returns-clause-feed : goal.returns-clause-feed
returns-clause-feed c = feed_whole c.law_reading.ensures c.law_rule.ensures.settings

pub returns-clause-failed_feed : goal.returns-clause-failed_feed
returns-clause-failed_feed c = feed_in_part c.law_reading.ensures c.law_rule.ensures.settings

pub returns-clause-goes_on : goal.returns-clause-goes_on
returns-clause-goes_on c = terminal_stands_on
