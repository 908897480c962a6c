use Rattle.std.proofs.Common.{ℕ, ◌<◌, arith, inl, inr, sym, ◌∙◌, subst}
use Rattle.jt_value.specs.contracts.memory.Memory as memory
use Rattle.jt_order_play.proofs.Composing.{same_on, still_reached, takes_false, takes_next, takes_true, took_many}
use Rattle.jt_order_play.proofs.Standing.{leads_both}
use Rattle.jt_order_play.proofs.stage.Stage.take_many.Goals as goal

pub take_next-requires : goal.take_next-requires
take_next-requires c = record {
  opened = subst (λ (n : ℕ). c.args.place < n) (sym c.loop-left.invariant.count) c.requires.opened;
  reached = still_reached c.args.self.now.world c.loop-left.self.world c.requires.reached c.loop-left.invariant.leads;
}

pub loop-left-preserved : goal.loop-left-preserved
loop-left-preserved c =
    let went = takes_true memory.the_row.Denot c.loop-left.self c.take_next.new.self c.args.place c.in-Ok-true.field-0 c.in-Ok-true.field-0-test c.in-Ok-true.ensures.whole in
    record {
      leads = leads_both c.args.self.now.world c.loop-left.self.world c.take_next.new.self.world c.loop-left.invariant.leads c.take_next.ensures.leads;
      count = c.take_next.ensures.count ∙ c.loop-left.invariant.count;
      rest = takes_next c.loop-left.left c.loop-left.self c.take_next.new.self c.args.place c.loop-left-test.true went ∙ c.loop-left.invariant.rest;
      same = same_on c.args.self.now c.loop-left.self c.take_next.new.self c.args.place c.loop-left.invariant.same went.1;
    }

pub returns-in-Ok-false-clause-leads : goal.returns-in-Ok-false-clause-leads
returns-in-Ok-false-clause-leads c = leads_both c.args.self.now.world c.loop-left.self.world c.take_next.new.self.world c.loop-left.invariant.leads c.take_next.ensures.leads

pub returns-in-Ok-false-clause-whole : goal.returns-in-Ok-false-clause-whole
returns-in-Ok-false-clause-whole c done =
    let last = takes_false memory.the_row.Denot c.loop-left.self c.take_next.new.self c.args.place c.in-Ok-false.field-0 c.in-Ok-false.field-0-test c.in-Ok-false.ensures.whole in
    last.1 ∙ took_many c.loop-left.left c.args.most c.args.self.now c.loop-left.self c.args.place c.loop-left.invariant.same c.loop-left.invariant.rest (inr last.0)

pub returns-in-Err-clause-leads : goal.returns-in-Err-clause-leads
returns-in-Err-clause-leads c = leads_both c.args.self.now.world c.loop-left.self.world c.take_next.new.self.world c.loop-left.invariant.leads c.take_next.ensures.leads

pub returns-clause-whole : goal.returns-clause-whole
returns-clause-whole c done = took_many c.loop-left.left c.args.most c.args.self.now c.loop-left.self c.args.place c.loop-left.invariant.same c.loop-left.invariant.rest (inl (omega (arith, c.loop-left-test.false)))
