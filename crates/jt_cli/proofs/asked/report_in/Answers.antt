use Rattle.jt_cli.proofs.Asking.{of_report, of_nothing, of_want}
use Rattle.jt_cli.proofs.asked.report_in.Goals as goal

pub returns-in-Ok-Some : goal.returns-in-Ok-Some
returns-in-Ok-Some c = of_report _ _ _ c.in-Ok-Some.field-0-is c.in-Ok-Some.ensures.told c.in-Ok-Some.ensures.that_one c.requires.task c.requires.platform c.requires.relay

pub returns-in-Ok-None : goal.returns-in-Ok-None
returns-in-Ok-None c = of_nothing _ _ c.in-Ok-None.field-0-is c.in-Ok-None.ensures.that_one c.requires.task c.requires.platform c.requires.relay

pub returns-in-Err : goal.returns-in-Err
returns-in-Err c = of_want _ c.requires.task c.requires.platform c.requires.relay
