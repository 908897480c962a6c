use Rattle.jt_report_command.proofs.Causes.{no_write_fault}
use Rattle.jt_report_command.proofs.telling.tell_outcome.Goals as goal

pub returns-in-Ok-clause-write_fault : goal.returns-in-Ok-clause-write_fault
returns-in-Ok-clause-write_fault g c e = c.write_reply.ensures.write_fault e (no_write_fault c.args.outcome.now 0 0 _ (c.status_of-status.ensures 0 0))
