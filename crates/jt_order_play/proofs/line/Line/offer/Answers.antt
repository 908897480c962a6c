use Rattle.std.proofs.Common.{◌≡◌, true, false, sym, ◌∙◌, subst}
use Rattle.std.specs.Prelude.{if◌then◌else◌, Some, None}
use Rattle.jt_order_play.specs.Holding.{LineOfOrders, StandsIn}
use Rattle.jt_order_play.proofs.Offering.{offers_one}
use Rattle.jt_order_play.proofs.line.Line.offer.Goals as goal

pub returns-clause-offers : goal.returns-clause-offers
returns-clause-offers c =
    let l = c.self.inside in
    let opened : l.is_open ≡ true = subst (λ (v : LineOfOrders). v.plain.line.is_open ≡ true) (sym c.self.view_is) c.requires in
    λ w place st.
    offers_one l.up.items l.down.items c.offer.new.out.items l.taken l.read l.over l.is_open l.session c.offer.new.self c.args.hub.now c.args.book.now.book w place c.self.invariant.first c.self.invariant.plain.read_within opened
    (subst (λ (v : LineOfOrders). StandsIn w place v c.args.hub.now c.args.book.now.book) (sym c.self.view_is) st) c.offer.result c.is_ok.result (λ e. sym c.is_ok.ensures.value ∙ e) c.offer.ensures.offers
