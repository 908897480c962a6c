use Rattle.std.proofs.Common.{◌≡◌, ◌&&◌, length, take, Some, Ok, refl, ap, ◌∙◌, subst, arith}
use Rattle.std.specs.Prelude.{slice_get}
use Rattle.jt_value.proofs.OctetLists.{AreOctets-take}
use Rattle.jt_header.specs.Fields.{header_at, body_at}
use Rattle.jt_stream.specs.declared.stream.StreamItem.TheVariants as item
use Rattle.jt_stream.specs.Stream.{Gains, stream_items}
use Rattle.jt_stream.specs.Unplaced.{Message as Frame}
use Rattle.jt_platform.specs.History.{newest}
use Rattle.jt_platform.specs.Hub.{opening_of}
use Rattle.jt_order_session.specs.Sessions.{OrderSeen, Walks, is_accepted}
use Rattle.jt_order_session.proofs.Items.{Gives, Heard, first_quiet, gives_item, have_now, item_told, no_frame, quiet_unless, walks_frame, walks_quiet}
use Rattle.jt_order_session.proofs.order_session.OrderSession.feed_item.Goals as goal

pub invariant_of-self : goal.invariant_of-self
invariant_of-self g c =
    let hub = c.args.hub.now in
    let next = c.feed-fed.new.hub in
    let old : OrderSeen = record { session = c.self.inside.session; stream = c.self.inside.stream.splitter; first = c.self.inside.first; sent = c.self.inside.sent } in
    let new : OrderSeen = record { session = c.feed-fed.new.self; stream = c.take-count.new.self.splitter; first = c.hear-heard.new.first; sent = c.self.inside.sent } in
    let octets = take c.take-count.result.0 c.args.octets.now in
    let opening = opening_of (g.P.Keeper.tables hub.start) (g.P.Keeper.limit hub.start) hub.fleet hub.secret in
    let are = AreOctets-take c.take-count.result.0 c.args.octets.now (λ i. omega (arith, c.type_inv.octets i)) in
    let on = ap (λ (s : OrderSeen). s.session.over) c.self.view_is ∙ c.requires.on in
    let header = header_at new.stream.content in
    let body = body_at new.stream.content in
    let gained = subst (λ answer. Gains old.stream new.stream octets (stream_items answer new.stream)) c.in-Frame.is c.take-count.ensures.items in
    let gives : Gives old new octets opening (newest hub.history) (newest next.history) c.args.out.now.items c.feed-fed.new.out.items c.feed-fed.result (Some (Frame header body)) =
    gives_item c.law_one_list.ensures.some c.law_items.ensures old new octets opening (newest hub.history) (newest next.history) c.args.out.now.items c.feed-fed.new.out.items c.feed-fed.result item.Frame c.feed-fed.ensures.feeds are on c.feed-fed.ensures.waiting gained c.hear-heard.ensures.first refl in
    (c.hear-heard.ensures.good, λ going. have_now old new octets opening (newest hub.history) (newest next.history) c.args.out.now.items c.feed-fed.new.out.items c.feed-fed.result (Some (Frame header body)) gives (c.self.invariant.1 on) going)

pub invariant_of-self-in-Refused : goal.invariant_of-self-in-Refused
invariant_of-self-in-Refused g c =
    let hub = c.args.hub.now in
    let next = c.feed-fed.new.hub in
    let old : OrderSeen = record { session = c.self.inside.session; stream = c.self.inside.stream.splitter; first = c.self.inside.first; sent = c.self.inside.sent } in
    let new : OrderSeen = record { session = c.feed-fed.new.self; stream = c.take-count.new.self.splitter; first = c.self.inside.first; sent = c.self.inside.sent } in
    let octets = take c.take-count.result.0 c.args.octets.now in
    let opening = opening_of (g.P.Keeper.tables hub.start) (g.P.Keeper.limit hub.start) hub.fleet hub.secret in
    let are = AreOctets-take c.take-count.result.0 c.args.octets.now (λ i. omega (arith, c.type_inv.octets i)) in
    let on = ap (λ (s : OrderSeen). s.session.over) c.self.view_is ∙ c.requires.on in
    let told = item_told c.take-count.result.1 new.stream in
    let quiet = quiet_unless c.take-count.result.1 new.stream (no_frame c.take-count.result.1 c.in-Refused.is) in
    let gives : Gives old new octets opening (newest hub.history) (newest next.history) c.args.out.now.items c.feed-fed.new.out.items c.feed-fed.result told =
    gives_item c.law_one_list.ensures.some c.law_items.ensures old new octets opening (newest hub.history) (newest next.history) c.args.out.now.items c.feed-fed.new.out.items c.feed-fed.result c.take-count.result.1 c.feed-fed.ensures.feeds are on c.feed-fed.ensures.waiting c.take-count.ensures.items (first_quiet c.self.inside.first told quiet) refl in
    (c.self.invariant.0, λ going. have_now old new octets opening (newest hub.history) (newest next.history) c.args.out.now.items c.feed-fed.new.out.items c.feed-fed.result told gives (c.self.invariant.1 on) going)

pub returns-in-Frame-clause-walks : goal.returns-in-Frame-clause-walks
returns-in-Frame-clause-walks g c =
    let hub = c.args.hub.now in
    let next = c.feed-fed.new.hub in
    let old : OrderSeen = record { session = c.self.inside.session; stream = c.self.inside.stream.splitter; first = c.self.inside.first; sent = c.self.inside.sent } in
    let new : OrderSeen = record { session = c.feed-fed.new.self; stream = c.take-count.new.self.splitter; first = c.hear-heard.new.first; sent = c.self.inside.sent } in
    let octets = take c.take-count.result.0 c.args.octets.now in
    let opening = opening_of (g.P.Keeper.tables hub.start) (g.P.Keeper.limit hub.start) hub.fleet hub.secret in
    let are = AreOctets-take c.take-count.result.0 c.args.octets.now (λ i. omega (arith, c.type_inv.octets i)) in
    let on = ap (λ (s : OrderSeen). s.session.over) c.self.view_is ∙ c.requires.on in
    let header = header_at new.stream.content in
    let body = body_at new.stream.content in
    let gained = subst (λ answer. Gains old.stream new.stream octets (stream_items answer new.stream)) c.in-Frame.is c.take-count.ensures.items in
    let gives : Gives old new octets opening (newest hub.history) (newest next.history) c.args.out.now.items c.feed-fed.new.out.items c.feed-fed.result (Some (Frame header body)) =
    gives_item c.law_one_list.ensures.some c.law_items.ensures old new octets opening (newest hub.history) (newest next.history) c.args.out.now.items c.feed-fed.new.out.items c.feed-fed.result item.Frame c.feed-fed.ensures.feeds are on c.feed-fed.ensures.waiting gained c.hear-heard.ensures.first refl in
    let at : slice_get c.history.result.now (length c.history-before.result.now) ≡ slice_get next.history (length hub.history) = cc (c.history.ensures.entries, c.history-before.ensures.entries) in
    let heard : Heard (c.args.is_told && is_accepted (slice_get next.history (length hub.history))) old.sent header body (g.B.OrderBook.holds c.args.book.now) (g.B.OrderBook.holds c.hear-heard.new.book) c.hear-heard.result =
    subst (λ to_tell. Heard to_tell old.sent header body (g.B.OrderBook.holds c.args.book.now) (g.B.OrderBook.holds c.hear-heard.new.book) c.hear-heard.result) (c.is_to_tell-to_tell.ensures ∙ ap (λ entry. c.args.is_told && is_accepted entry) at)
    (record { ok = c.hear-heard.ensures.ok; err = c.hear-heard.ensures.err; quiet = c.hear-heard.ensures.quiet }) in
    subst (λ (s : OrderSeen). Walks c.args.is_told s new octets opening (newest hub.history) (newest next.history) (g.B.OrderBook.holds c.args.book.now) (g.B.OrderBook.holds c.hear-heard.new.book) c.args.out.now.items c.feed-fed.new.out.items c.feed-fed.result c.hear-heard.result) c.self.view_is
    (walks_frame old new octets opening (newest hub.history) (newest next.history) c.args.out.now.items c.feed-fed.new.out.items c.feed-fed.result (Some (Frame header body)) gives c.args.is_told header body hub.history next.history (g.B.OrderBook.holds c.args.book.now) (g.B.OrderBook.holds c.hear-heard.new.book) c.hear-heard.result refl refl refl heard)

pub returns-in-Refused-clause-walks : goal.returns-in-Refused-clause-walks
returns-in-Refused-clause-walks g c =
    let hub = c.args.hub.now in
    let next = c.feed-fed.new.hub in
    let old : OrderSeen = record { session = c.self.inside.session; stream = c.self.inside.stream.splitter; first = c.self.inside.first; sent = c.self.inside.sent } in
    let new : OrderSeen = record { session = c.feed-fed.new.self; stream = c.take-count.new.self.splitter; first = c.self.inside.first; sent = c.self.inside.sent } in
    let octets = take c.take-count.result.0 c.args.octets.now in
    let opening = opening_of (g.P.Keeper.tables hub.start) (g.P.Keeper.limit hub.start) hub.fleet hub.secret in
    let are = AreOctets-take c.take-count.result.0 c.args.octets.now (λ i. omega (arith, c.type_inv.octets i)) in
    let on = ap (λ (s : OrderSeen). s.session.over) c.self.view_is ∙ c.requires.on in
    let told = item_told c.take-count.result.1 new.stream in
    let quiet = quiet_unless c.take-count.result.1 new.stream (no_frame c.take-count.result.1 c.in-Refused.is) in
    let gives : Gives old new octets opening (newest hub.history) (newest next.history) c.args.out.now.items c.feed-fed.new.out.items c.feed-fed.result told =
    gives_item c.law_one_list.ensures.some c.law_items.ensures old new octets opening (newest hub.history) (newest next.history) c.args.out.now.items c.feed-fed.new.out.items c.feed-fed.result c.take-count.result.1 c.feed-fed.ensures.feeds are on c.feed-fed.ensures.waiting c.take-count.ensures.items (first_quiet c.self.inside.first told quiet) refl in
    subst (λ (s : OrderSeen). Walks c.args.is_told s new octets opening (newest hub.history) (newest next.history) (g.B.OrderBook.holds c.args.book.now) (g.B.OrderBook.holds c.args.book.now) c.args.out.now.items c.feed-fed.new.out.items c.feed-fed.result (Ok tt)) c.self.view_is
    (walks_quiet old new octets opening (newest hub.history) (newest next.history) c.args.out.now.items c.feed-fed.new.out.items c.feed-fed.result told gives c.args.is_told (g.B.OrderBook.holds c.args.book.now) (g.B.OrderBook.holds c.args.book.now) (Ok tt) quiet refl refl)
