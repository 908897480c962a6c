use Rattle.std.proofs.Common.{refl, sym, ◌∙◌}
use Rattle.jt_octets.specs.World.{line_at}
use Rattle.jt_order_play.proofs.Composing.{GoesParts, goes_parts, took_one}
use Rattle.jt_order_play.proofs.Standing.{leads_both}
use Rattle.jt_order_play.proofs.stage.Stage.take_next.Goals as goal

pub returns-then-not-takes_more-clause-whole : goal.returns-then-not-takes_more-clause-whole
returns-then-not-takes_more-clause-whole c = (sym c.takes_more.ensures ∙ c.if-not-takes_more.true, refl)

pub take_up-done-requires : goal.take_up-done-requires
take_up-done-requires c =
    let g : GoesParts (line_at c.args.self.now.world.base.lines c.args.place) = goes_parts (line_at c.args.self.now.world.base.lines c.args.place) (sym c.takes_more.ensures ∙ c.if-not-takes_more.false) in
    record { opened = c.requires.opened; is_open = g.is_open; going = g.some; left = g.left; reached = c.requires.reached }

pub returns-then-not-done-clause-leads : goal.returns-then-not-done-clause-leads
returns-then-not-done-clause-leads c = leads_both c.args.self.now.world c.take_up-done.new.self.world c.close.new.self.world c.take_up-done.ensures.leads c.close.ensures.leads

pub returns-clause-leads : goal.returns-clause-leads
returns-clause-leads c = leads_both c.args.self.now.world c.take_up-done.new.self.world c.close.new.self.world c.take_up-done.ensures.leads c.close.ensures.leads

pub returns-clause-whole : goal.returns-clause-whole
returns-clause-whole c =
    (sym c.takes_more.ensures ∙ c.if-not-takes_more.false, took_one c.args.self.now c.take_up-done.new.self c.close.new.self c.args.place (c.take_up-done.ensures.whole c.if-not-done.false) c.close.ensures.whole)
