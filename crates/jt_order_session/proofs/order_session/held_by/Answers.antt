use Rattle.std.proofs.Common.{◌≡◌, true, sym, subst}
use Rattle.jt_platform.specs.History.{newest}
use Rattle.jt_order_session.specs.Sessions.{holds_phone}
use Rattle.jt_order_session.proofs.Offers.{holds_some}
use Rattle.jt_order_session.proofs.order_session.held_by.Goals as goal

pub returns-then-holds-clause-some : goal.returns-then-holds-clause-some
returns-then-holds-clause-some g c =
    let held = c.holds.ensures.0 c.if-holds.true in (
      c.in-Some.is,
      c.requires c.in-Some.header c.in-Some.is,
      subst (λ first. holds_phone c.args.session first (newest c.args.hub.now.history) ≡ true) (sym c.in-Some.is) (holds_some c.args.session c.in-Some.header (newest c.args.hub.now.history) held.0 held.1),
    )
