use Rattle.std.proofs.Common.{◌≡◌, Err}
use Rattle.jt_play.specs.declared.error.WorldError.TheVariants as refused
use Rattle.jt_world.proofs.Heard.{did_bad, may_on, not_memory}
use Rattle.jt_world.proofs.world.World.perform.Goals as goal

pub returns-in_ok-push_entry_lines-in-Ok-clause-may : goal.returns-in_ok-push_entry_lines-in-Ok-clause-may
returns-in_ok-push_entry_lines-in-Ok-clause-may c = λ may.
    may_on c.args.self.now c.step.new.self may c.in-Ok.ensures.leads c.in-Ok.ensures.identity (c.in-Ok.ensures.scripted may.scripted)

pub returns-in-Err-NoLine-clause-does : goal.returns-in-Err-NoLine-clause-does
returns-in-Err-NoLine-clause-does c = λ may.
    let outer = c.in-Err-NoLine.is in
    let inner = c.in-Err-NoLine.field-0-is in
    let is : c.step.result ≡ Err (refused.NoLine c.in-Err-NoLine.field-0-0) = cc in
    did_bad c.args.self.now c.step.new.self c.args.event c.step.result may c.step.ensures.no_line c.in-Err-NoLine.field-0-0 is
    (c.step.ensures.same (refused.NoLine c.in-Err-NoLine.field-0-0) is (not_memory c.in-Err-NoLine.field-0-0)) _
