use Rattle.std.proofs.Common.{refl}
use Rattle.jt_fence_command.proofs.Hearing.{taken}
use Rattle.jt_fence_command.proofs.alarm_tally.AlarmTally.change.Goals as goal

pub returns-in-Ok : goal.returns-in-Ok
returns-in-Ok c = taken c.args.self.now _ c.args.change.now c.change.new.self c.in-Ok.ensures.table c.in-Ok.ensures.settled refl
