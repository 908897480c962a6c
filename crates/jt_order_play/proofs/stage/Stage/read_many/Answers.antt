use Rattle.std.proofs.Common.{arith, sym, ◌∙◌}
use Rattle.jt_value.specs.contracts.memory.Memory as memory
use Rattle.jt_order_play.proofs.Composing.{reads_end, reads_false, reads_next, reads_true, still, still_reached}
use Rattle.jt_order_play.proofs.Standing.{leads_both}
use Rattle.jt_order_play.proofs.stage.Stage.read_many.Goals as goal

pub read_next-requires : goal.read_next-requires
read_next-requires c = record { reached = still_reached c.args.self.now.world c.loop-left.self.world c.requires.reached c.loop-left.invariant.leads }

pub loop-left-preserved : goal.loop-left-preserved
loop-left-preserved c = record {
  leads = leads_both c.args.self.now.world c.loop-left.self.world c.read_next.new.self.world c.loop-left.invariant.leads c.read_next.ensures.leads;
  rest = reads_next c.loop-left.left c.loop-left.self c.read_next.new.self c.loop-left-test.true (reads_true memory.the_row.Denot c.loop-left.self c.read_next.new.self c.in-Ok-true.field-0 c.in-Ok-true.field-0-test c.in-Ok-true.ensures.whole) ∙ c.loop-left.invariant.rest;
}

pub returns-in-Ok-false-clause-leads : goal.returns-in-Ok-false-clause-leads
returns-in-Ok-false-clause-leads c = leads_both c.args.self.now.world c.loop-left.self.world c.read_next.new.self.world c.loop-left.invariant.leads c.read_next.ensures.leads

pub returns-in-Ok-false-clause-whole : goal.returns-in-Ok-false-clause-whole
returns-in-Ok-false-clause-whole c done =
    let last = reads_false memory.the_row.Denot c.loop-left.self c.read_next.new.self c.in-Ok-false.field-0 c.in-Ok-false.field-0-test c.in-Ok-false.ensures.whole in
    last.1 ∙ (sym (still c.loop-left.left c.loop-left.self last.0) ∙ c.loop-left.invariant.rest)

pub returns-in-Err-clause-leads : goal.returns-in-Err-clause-leads
returns-in-Err-clause-leads c = leads_both c.args.self.now.world c.loop-left.self.world c.read_next.new.self.world c.loop-left.invariant.leads c.read_next.ensures.leads

pub returns-clause-whole : goal.returns-clause-whole
returns-clause-whole c done = reads_end c.loop-left.left c.loop-left.self _ (omega (arith, c.loop-left-test.false)) c.loop-left.invariant.rest
