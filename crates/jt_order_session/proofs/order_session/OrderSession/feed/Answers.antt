use Rattle.std.proofs.Common.{◌≡◌, ◌↔◌, false, sym, ap, subst}
use Rattle.std.specs.Prelude.{is_ok}
use Rattle.jt_platform.specs.History.{newest}
use Rattle.jt_platform.specs.Hub.{opening_of}
use Rattle.jt_session.specs.declared.end.Fed.TheVariants.{On}
use Rattle.jt_order_session.proofs.Causes.{cause_then, steady_then}
use Rattle.jt_order_session.proofs.Walking.{feeds_then_offers, feeds_failed}
use Rattle.jt_order_session.proofs.order_session.OrderSession.feed.Goals as goal

pub returns-in-Ok-clause-feeds : goal.returns-in-Ok-clause-feeds
returns-in-Ok-clause-feeds g c =
    let hub = c.args.hub.now in
    let next = c.walk-fed.new.hub in
    feeds_then_offers c.args.self.now c.walk-fed.new.self c.offer.new.self c.args.octets.now (opening_of (g.P.Keeper.tables hub.start) (g.P.Keeper.limit hub.start) hub.fleet hub.secret) (newest hub.history) (newest next.history) (g.B.OrderBook.holds c.args.book.now) (g.B.OrderBook.holds c.walk-fed.new.book) (g.B.OrderBook.holds c.offer.new.book) c.args.out.now.items c.walk-fed.new.out.items c.offer.new.out.items c.walk-fed.result.0 c.walk-fed.result.1 c.offer.result
    c.walk-fed.ensures.walks (ap is_ok c.in-Ok.is) c.offer.ensures.book c.offer.ensures.offers

pub returns-in-Ok-clause-on : goal.returns-in-Ok-clause-on
returns-in-Ok-clause-on g c = subst (λ s. (c.walk-fed.result.0 ≡ On) ↔ (s.over ≡ false)) (sym c.offer.ensures.offers.session) c.walk-fed.ensures.on

pub returns-in-Ok-clause-cause : goal.returns-in-Ok-clause-cause
returns-in-Ok-clause-cause g c =
    cause_then (g.B.OrderBook.faults c.args.book.now) (g.B.OrderBook.faults c.walk-fed.new.book) (g.B.OrderBook.faults c.offer.new.book) c.walk-fed.result.1 c.offer.result c.in-Ok.is c.walk-fed.ensures.cause c.offer.ensures.cause

pub returns-in-Ok-clause-steady : goal.returns-in-Ok-clause-steady
returns-in-Ok-clause-steady g c =
    steady_then (g.B.OrderBook.may_fail c.args.book.now) (g.B.OrderBook.may_fail c.walk-fed.new.book) (g.B.OrderBook.may_fail c.offer.new.book) c.walk-fed.result.1 c.offer.result c.in-Ok.is c.walk-fed.ensures.steady c.offer.ensures.steady

pub returns-in-Err-clause-feeds : goal.returns-in-Err-clause-feeds
returns-in-Err-clause-feeds g c =
    let hub = c.args.hub.now in
    let next = c.walk-fed.new.hub in
    feeds_failed c.args.self.now c.walk-fed.new.self c.args.octets.now (opening_of (g.P.Keeper.tables hub.start) (g.P.Keeper.limit hub.start) hub.fleet hub.secret) (newest hub.history) (newest next.history) (g.B.OrderBook.holds c.args.book.now) (g.B.OrderBook.holds c.walk-fed.new.book) c.args.out.now.items c.walk-fed.new.out.items c.walk-fed.result.0 c.walk-fed.result.1 c.in-Err.error c.in-Err.is c.walk-fed.ensures.walks
