use Rattle.std.proofs.Common.{◌≡◌, arith, refl, sym, ◌∙◌}
use Rattle.jt_terminal_rule.specs.declared.state.Event.TheVariants.{Tick}
use Rattle.jt_order_play.specs.Playing.{meets}
use Rattle.jt_order_play.proofs.Composing.{ran, still_reached, went_more}
use Rattle.jt_order_play.proofs.Standing.{leads_both}
use Rattle.jt_order_play.proofs.stage.Stage.run.Goals as goal

pub loop-alloc-preserved : goal.loop-alloc-preserved
loop-alloc-preserved c = record {
  leads = leads_both c.args.self.now.world c.loop-alloc.self.world c.round.new.self.world c.loop-alloc.invariant.leads c.round.ensures.leads;
  went = went_more (meets c.args.self.now (Tick c.args.self.now.clock)) c.loop-alloc.self c.round.new.self c.loop-alloc.left c.loop-alloc.invariant.went (λ none. absurd (omega (arith, none, c.if-left-eq0.false))) (sym c.moves.ensures ∙ c.loop-alloc-test.true) (c.round.ensures.whole c.if-not-round.false);
}

pub round-requires : goal.round-requires
round-requires c = record { reached = still_reached c.args.self.now.world c.loop-alloc.self.world c.requires.reached c.loop-alloc.invariant.leads }

pub returns-then-not-round-clause-leads : goal.returns-then-not-round-clause-leads
returns-then-not-round-clause-leads c = leads_both c.args.self.now.world c.loop-alloc.self.world c.round.new.self.world c.loop-alloc.invariant.leads c.round.ensures.leads

pub returns-clause-whole : goal.returns-clause-whole
returns-clause-whole c done = ran c.args.self.now (meets c.args.self.now (Tick c.args.self.now.clock)) c.loop-alloc.self c.loop-alloc.left refl c.loop-alloc.invariant.went (sym c.moves.ensures ∙ c.loop-alloc-test.false)
