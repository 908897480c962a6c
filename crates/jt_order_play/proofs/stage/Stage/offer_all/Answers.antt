use Rattle.std.proofs.Common.{ℕ, ◌+◌, ◌<◌, ◌≤◌, ◌≡◌, length, arith, refl, sym, ap, ◌∙◌, subst}
use Rattle.jt_order_play.specs.Playing.{OrderPlay, offers_upto, with_world}
use Rattle.jt_order_play.proofs.Composing.{offers_next}
use Rattle.jt_order_play.proofs.Standing.{leads_both, leads_none, many_lines}
use Rattle.jt_order_play.proofs.stage.Stage.offer_all.Goals as goal

pub offer_at-requires : goal.offer_at-requires
offer_at-requires c =
    let count = c.loop-place.invariant.count in
    let many = c.loop-place.invariant.many in
    record { opened = omega (arith, count, many, c.loop-place-test.true) }

pub loop-place-init : goal.loop-place-init
loop-place-init c =
    let s = c.self.inside in
    record {
      leads = leads_none c.args.self.now.world;
      count = refl;
      many = subst (λ (p : OrderPlay). length p.world.base.lines ≡ c.len-count.result) c.self.view_is (many_lines s.lines.items ∙ sym (c.len-count.ensures ∙ Prim.search));
      within = omega arith;
      done = refl;
    }

pub loop-place-preserved : goal.loop-place-preserved
loop-place-preserved c =
    let many = c.loop-place.invariant.many in
    record {
      leads = leads_both c.args.self.now.world c.loop-place.self.world c.offer_at.new.self.world c.loop-place.invariant.leads c.offer_at.ensures.leads;
      count = c.offer_at.ensures.count ∙ c.loop-place.invariant.count;
      many = c.loop-place.invariant.many;
      within = omega (arith, c.loop-place-test.true);
      done = offers_next c.args.self.now c.loop-place.self c.offer_at.new.self c.loop-place.place c.loop-place.invariant.done (c.offer_at.ensures.whole c.if-not-offer_at.false);
    }

pub returns-then-not-offer_at-clause-leads : goal.returns-then-not-offer_at-clause-leads
returns-then-not-offer_at-clause-leads c = leads_both c.args.self.now.world c.loop-place.self.world c.offer_at.new.self.world c.loop-place.invariant.leads c.offer_at.ensures.leads

pub returns-clause-whole : goal.returns-clause-whole
returns-clause-whole c done =
    let many = c.loop-place.invariant.many in
    let within = c.loop-place.invariant.within in
    let all : c.loop-place.place ≡ length c.args.self.now.world.base.lines = omega (arith, many, within, c.loop-place-test.false) in
    c.loop-place.invariant.done ∙ ap (λ (n : ℕ). with_world c.args.self.now (offers_upto n c.args.self.now.world)) all
