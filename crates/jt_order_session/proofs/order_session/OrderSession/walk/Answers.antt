use Rattle.std.proofs.Common.{◌≡◌, ◌+◌, ◌-◌, length, take, drop, false, true, refl, sym, ap, ◌∙◌, subst, arith, length-drop}
use Rattle.std.specs.Prelude.{◌≢◌, Err, is_ok}
use Rattle.jt_store.specs.declared.error.StoreError.TheVariants.{Full}
use Rattle.jt_store.specs.Tables.{HasCause, IsSteady}
use Rattle.jt_platform.specs.History.{newest}
use Rattle.jt_platform.specs.Hub.{opening_of}
use Rattle.jt_session.specs.declared.end.Fed.TheVariants.{On, Stop}
use Rattle.jt_session.proofs.Hubs.{reason_none, reason_both, reason_on, never_stops, ended}
use Rattle.jt_order_session.specs.Sessions.{both_told}
use Rattle.jt_order_session.proofs.Walking.{walks_none, walks_on, walks_told, walks_more, walks_ended}
use Rattle.jt_order_session.proofs.Causes.{cause_none, cause_both, steady_none, steady_both, full_both, full_none}
use Rattle.jt_order_session.proofs.order_session.OrderSession.walk.Goals as goal

pub loop-taken-init : goal.loop-taken-init
loop-taken-init g c =
    let hub = c.args.hub.now in
    record {
      within = omega arith;
      waits = c.requires.waits;
      on = c.requires.on;
      place = omega arith;
      walks = walks_none c.args.self.now (opening_of (g.P.Keeper.tables hub.start) (g.P.Keeper.limit hub.start) hub.fleet hub.secret) (newest hub.history) (g.B.OrderBook.holds c.args.book.now) c.args.out.now.items;
      start = refl;
      fleet = refl;
      secret = refl;
      reserved = refl;
      closed_as_before = λ session. refl;
      reason = reason_none (g.P.Keeper.faults hub.keeper) (g.P.Keeper.may_fail hub.keeper) On never_stops;
      cause = cause_none (g.B.OrderBook.faults c.args.book.now);
      steady = steady_none (g.B.OrderBook.may_fail c.args.book.now);
      never_full = full_none;
    }

pub loop-taken-preserved : goal.loop-taken-preserved
loop-taken-preserved g c =
    let hub = c.args.hub.now in
    let mid = c.loop-taken.hub in
    let now = c.feed_item-count.new.hub in
    let kept = c.loop-taken.invariant in
    let did = c.feed_item-count.ensures in
    let opening : opening_of (g.P.Keeper.tables mid.start) (g.P.Keeper.limit mid.start) mid.fleet mid.secret ≡ opening_of (g.P.Keeper.tables hub.start) (g.P.Keeper.limit hub.start) hub.fleet hub.secret =
    ap (λ start. opening_of (g.P.Keeper.tables start) (g.P.Keeper.limit start) mid.fleet mid.secret) kept.start
    ∙ (ap (λ fleet. opening_of (g.P.Keeper.tables hub.start) (g.P.Keeper.limit hub.start) fleet mid.secret) kept.fleet
    ∙ ap (λ secret. opening_of (g.P.Keeper.tables hub.start) (g.P.Keeper.limit hub.start) hub.fleet secret) kept.secret) in
    let quiet : is_ok c.loop-taken.told ≡ false → is_ok c.feed_item-count.result.2 ≡ true = λ none. did.quiet (c.is_ok-is_told.ensures.value ∙ none) in
    record {
      within = omega (arith, did.taken, length-drop c.loop-taken.taken c.args.octets.now, c.loop-taken-test.true);
      waits = did.waiting;
      on = did.on.0 c.in-On.is;
      place = omega (arith, did.place, kept.place);
      walks =
          walks_told c.args.self.now c.feed_item-count.new.self (take (c.loop-taken.taken + c.feed_item-count.result.0) c.args.octets.now) (opening_of (g.P.Keeper.tables hub.start) (g.P.Keeper.limit hub.start) hub.fleet hub.secret) (newest hub.history) (newest now.history) (g.B.OrderBook.holds c.args.book.now) (g.B.OrderBook.holds c.feed_item-count.new.book) c.args.out.now.items c.feed_item-count.new.out.items On (both_told c.loop-taken.told c.feed_item-count.result.2) c.both_told-told.result (sym c.both_told-told.ensures)
          (walks_more c.law_of_feeds.ensures c.args.self.now c.loop-taken.self c.feed_item-count.new.self c.args.octets.now c.loop-taken.taken c.feed_item-count.result.0 (opening_of (g.P.Keeper.tables hub.start) (g.P.Keeper.limit hub.start) hub.fleet hub.secret) (newest hub.history) (newest mid.history) (newest now.history) (g.B.OrderBook.holds c.args.book.now) (g.B.OrderBook.holds c.loop-taken.book) (g.B.OrderBook.holds c.feed_item-count.new.book) c.args.out.now.items c.loop-taken.out.items c.feed_item-count.new.out.items On c.loop-taken.told c.feed_item-count.result.2
          (λ i. omega (arith, c.type_inv.octets i)) kept.walks kept.on
          (walks_on c.is_ok-is_told.result (is_ok c.loop-taken.told) c.loop-taken.self c.feed_item-count.new.self (take c.feed_item-count.result.0 (take (length c.args.octets.now - c.loop-taken.taken) (drop c.loop-taken.taken c.args.octets.now))) (opening_of (g.P.Keeper.tables mid.start) (g.P.Keeper.limit mid.start) mid.fleet mid.secret) (opening_of (g.P.Keeper.tables hub.start) (g.P.Keeper.limit hub.start) hub.fleet hub.secret) (newest mid.history) (newest now.history) (g.B.OrderBook.holds c.loop-taken.book) (g.B.OrderBook.holds c.feed_item-count.new.book) c.loop-taken.out.items c.feed_item-count.new.out.items c.feed_item-count.result.1 On c.feed_item-count.result.2 c.is_ok-is_told.ensures.value opening c.in-On.is did.walks));
      start = did.opening.0 ∙ kept.start;
      fleet = did.opening.1 ∙ kept.fleet;
      secret = did.opening.2 ∙ kept.secret;
      reserved = did.opening.3 ∙ kept.reserved;
      closed_as_before = λ session. did.closed session ∙ kept.closed_as_before session;
      reason =
          reason_both (g.P.Keeper.faults hub.keeper) (g.P.Keeper.faults mid.keeper) (g.P.Keeper.faults now.keeper) (g.P.Keeper.may_fail hub.keeper) (g.P.Keeper.may_fail mid.keeper) (g.P.Keeper.may_fail now.keeper) On
          kept.reason (reason_on (g.P.Keeper.faults mid.keeper) (g.P.Keeper.faults now.keeper) (g.P.Keeper.may_fail mid.keeper) (g.P.Keeper.may_fail now.keeper) c.feed_item-count.result.1 On c.in-On.is did.reason);
      cause = subst (λ t. HasCause (g.B.OrderBook.faults c.args.book.now) (g.B.OrderBook.faults c.feed_item-count.new.book) t) (sym c.both_told-told.ensures) (cause_both (g.B.OrderBook.faults c.args.book.now) (g.B.OrderBook.faults c.loop-taken.book) (g.B.OrderBook.faults c.feed_item-count.new.book) c.loop-taken.told c.feed_item-count.result.2 kept.cause did.cause quiet);
      steady = subst (λ t. IsSteady (g.B.OrderBook.may_fail c.args.book.now) (g.B.OrderBook.may_fail c.feed_item-count.new.book) t) (sym c.both_told-told.ensures) (steady_both (g.B.OrderBook.may_fail c.args.book.now) (g.B.OrderBook.may_fail c.loop-taken.book) (g.B.OrderBook.may_fail c.feed_item-count.new.book) c.loop-taken.told c.feed_item-count.result.2 kept.steady did.steady);
      never_full = λ limit. subst (λ t. t ≢ Err (Full limit)) (sym c.both_told-told.ensures) (full_both c.loop-taken.told c.feed_item-count.result.2 kept.never_full did.never_full limit);
    }

pub returns-in-Stop-clause-walks : goal.returns-in-Stop-clause-walks
returns-in-Stop-clause-walks g c =
    let hub = c.args.hub.now in
    let mid = c.loop-taken.hub in
    let now = c.feed_item-count.new.hub in
    let kept = c.loop-taken.invariant in
    let did = c.feed_item-count.ensures in
    let opening : opening_of (g.P.Keeper.tables mid.start) (g.P.Keeper.limit mid.start) mid.fleet mid.secret ≡ opening_of (g.P.Keeper.tables hub.start) (g.P.Keeper.limit hub.start) hub.fleet hub.secret =
    ap (λ start. opening_of (g.P.Keeper.tables start) (g.P.Keeper.limit start) mid.fleet mid.secret) kept.start
    ∙ (ap (λ fleet. opening_of (g.P.Keeper.tables hub.start) (g.P.Keeper.limit hub.start) fleet mid.secret) kept.fleet
    ∙ ap (λ secret. opening_of (g.P.Keeper.tables hub.start) (g.P.Keeper.limit hub.start) hub.fleet secret) kept.secret) in
    walks_ended c.law_of_feeds.ensures c.args.self.now c.feed_item-count.new.self c.args.octets.now (c.loop-taken.taken + c.feed_item-count.result.0) (opening_of (g.P.Keeper.tables hub.start) (g.P.Keeper.limit hub.start) hub.fleet hub.secret) (newest hub.history) (newest now.history) (g.B.OrderBook.holds c.args.book.now) (g.B.OrderBook.holds c.feed_item-count.new.book) c.args.out.now.items c.feed_item-count.new.out.items (Stop c.in-Stop.end) c.both_told-told.result
    (walks_told c.args.self.now c.feed_item-count.new.self (take (c.loop-taken.taken + c.feed_item-count.result.0) c.args.octets.now) (opening_of (g.P.Keeper.tables hub.start) (g.P.Keeper.limit hub.start) hub.fleet hub.secret) (newest hub.history) (newest now.history) (g.B.OrderBook.holds c.args.book.now) (g.B.OrderBook.holds c.feed_item-count.new.book) c.args.out.now.items c.feed_item-count.new.out.items (Stop c.in-Stop.end) (both_told c.loop-taken.told c.feed_item-count.result.2) c.both_told-told.result (sym c.both_told-told.ensures)
    (walks_more c.law_of_feeds.ensures c.args.self.now c.loop-taken.self c.feed_item-count.new.self c.args.octets.now c.loop-taken.taken c.feed_item-count.result.0 (opening_of (g.P.Keeper.tables hub.start) (g.P.Keeper.limit hub.start) hub.fleet hub.secret) (newest hub.history) (newest mid.history) (newest now.history) (g.B.OrderBook.holds c.args.book.now) (g.B.OrderBook.holds c.loop-taken.book) (g.B.OrderBook.holds c.feed_item-count.new.book) c.args.out.now.items c.loop-taken.out.items c.feed_item-count.new.out.items (Stop c.in-Stop.end) c.loop-taken.told c.feed_item-count.result.2
    (λ i. omega (arith, c.type_inv.octets i)) kept.walks kept.on
    (walks_on c.is_ok-is_told.result (is_ok c.loop-taken.told) c.loop-taken.self c.feed_item-count.new.self (take c.feed_item-count.result.0 (take (length c.args.octets.now - c.loop-taken.taken) (drop c.loop-taken.taken c.args.octets.now))) (opening_of (g.P.Keeper.tables mid.start) (g.P.Keeper.limit mid.start) mid.fleet mid.secret) (opening_of (g.P.Keeper.tables hub.start) (g.P.Keeper.limit hub.start) hub.fleet hub.secret) (newest mid.history) (newest now.history) (g.B.OrderBook.holds c.loop-taken.book) (g.B.OrderBook.holds c.feed_item-count.new.book) c.loop-taken.out.items c.feed_item-count.new.out.items c.feed_item-count.result.1 (Stop c.in-Stop.end) c.feed_item-count.result.2 c.is_ok-is_told.ensures.value opening c.in-Stop.is did.walks)))
    (ended c.feed_item-count.new.self.session.over c.feed_item-count.result.1 c.in-Stop.end did.on c.in-Stop.is)
