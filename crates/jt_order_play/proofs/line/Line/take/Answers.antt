use Rattle.std.proofs.Common.{◌≡◌, ◌<◌, length, Some, None, IsSome, true, sym, subst}
use Rattle.std.specs.Prelude.{if◌then◌else◌}
use Rattle.jt_order_play.specs.Holding.{LineOfOrders, StandsIn}
use Rattle.jt_order_play.proofs.Taking.{held_now, takes_one}
use Rattle.jt_order_play.proofs.line.Line.take.Goals as goal

pub invariant_of-self : goal.invariant_of-self
invariant_of-self c =
    let l = c.self.inside in
    let some : IsSome (if l.over then None else Some l.session.session.state) = subst (λ (v : LineOfOrders). IsSome v.plain.line.session) (sym c.self.view_is) c.requires.going in
    let lt : l.taken < length l.up.items = subst (λ (v : LineOfOrders). v.plain.line.up.taken < length v.plain.line.up.octets) (sym c.self.view_is) c.requires.left in
    held_now l.up.items l.down.items c.feed-fed.new.out.items l.taken l.read c.index-octet.result.now l.over c.is_over-self-inside.result l.session c.feed-fed.new.self c.args.hub.now c.feed-fed.new.hub c.args.book.now.book c.feed-fed.new.book.book
    c.feed-fed.result.0 c.feed-fed.result.1 c.self.invariant some lt c.index-octet.ensures c.feed-fed.ensures.feeds c.law_one_octet.ensures c.feed-fed.ensures.waiting c.feed-fed.ensures.on c.is_over-self-inside.ensures c.feed-fed.ensures.place

pub returns-clause-takes : goal.returns-clause-takes
returns-clause-takes c =
    let l = c.self.inside in
    let some : IsSome (if l.over then None else Some l.session.session.state) = subst (λ (v : LineOfOrders). IsSome v.plain.line.session) (sym c.self.view_is) c.requires.going in
    let lt : l.taken < length l.up.items = subst (λ (v : LineOfOrders). v.plain.line.up.taken < length v.plain.line.up.octets) (sym c.self.view_is) c.requires.left in
    let opened : l.is_open ≡ true = subst (λ (v : LineOfOrders). v.plain.line.is_open ≡ true) (sym c.self.view_is) c.requires.opened in
    λ w place st.
    takes_one l.up.items l.down.items c.feed-fed.new.out.items l.taken l.read c.index-octet.result.now l.over c.is_over-self-inside.result l.session c.feed-fed.new.self c.args.hub.now c.feed-fed.new.hub c.args.book.now.book c.feed-fed.new.book.book
    c.feed-fed.result.0 c.feed-fed.result.1 c.self.invariant some lt c.index-octet.ensures c.feed-fed.ensures.feeds c.law_one_octet.ensures c.feed-fed.ensures.waiting c.feed-fed.ensures.on c.is_over-self-inside.ensures c.feed-fed.ensures.place
    c.law_of_responses.ensures c.law_of_turns.ensures.not_short l.is_open opened c.feed-fed.ensures.opening.0 c.feed-fed.ensures.opening.1 c.feed-fed.ensures.opening.2 c.was_done.result c.was_done.ensures
    w place (subst (λ (v : LineOfOrders). StandsIn w place v c.args.hub.now c.args.book.now.book) (sym c.self.view_is) st)
