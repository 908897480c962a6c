use Rattle.std.proofs.Common.{◌≡◌, arith, sym, ◌∙◌}
use Rattle.jt_play.proofs.Downward.{leads_both}
use Rattle.jt_play.proofs.Wholes.{beats_end, beats_next}
use Rattle.jt_play.proofs.stage.Stage.beat.Goals as goal

pub loop-left-preserved : goal.loop-left-preserved
loop-left-preserved c = record {
  leads = leads_both c.args.self.now.world c.loop-left.self.world c.act.new.self.world c.loop-left.invariant.leads c.act.ensures.leads;
  recorded = c.act.ensures.recorded ∙ c.loop-left.invariant.recorded;
  phone = c.act.ensures.phone ∙ c.loop-left.invariant.phone;
  rest = beats_next c.loop-left.left c.loop-left.self c.act.new.self c.loop-left-test.true (c.act.ensures.whole c.if-not-act.false) ∙ c.loop-left.invariant.rest;
}

pub returns-then-not-act-clause-leads : goal.returns-then-not-act-clause-leads
returns-then-not-act-clause-leads c = leads_both c.args.self.now.world c.loop-left.self.world c.act.new.self.world c.loop-left.invariant.leads c.act.ensures.leads

pub returns-clause-whole : goal.returns-clause-whole
returns-clause-whole c done = beats_end c.loop-left.left c.loop-left.self _ (omega (arith, c.loop-left-test.false)) c.loop-left.invariant.rest
