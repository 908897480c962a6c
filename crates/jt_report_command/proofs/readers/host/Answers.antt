use Rattle.jt_report_command.proofs.Hosts.{is_text}
use Rattle.jt_report_command.proofs.readers.host.Goals as goal

pub returns-in-Err : goal.returns-in-Err
returns-in-Err c = λ is. c.in-Err.ensures.cases.0 (is_text c.args.text.now is)
