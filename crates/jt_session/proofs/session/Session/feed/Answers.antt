use Rattle.std.proofs.Common.{◌≡◌, ◌+◌, ◌-◌, [], length, take, drop, refl, ap, ◌∙◌, arith, length-drop}
use Rattle.jt_platform.specs.History.{newest}
use Rattle.jt_platform.specs.Hub.{opening_of}
use Rattle.jt_session.specs.declared.end.Fed.TheVariants.{On, Stop}
use Rattle.jt_session.proofs.Turning.{takes_none}
use Rattle.jt_session.proofs.Hubs.{feeds_on, feeds_more, feeds_ended, reason_none, reason_both, ended, fed_on, never_stops, reason_on}
use Rattle.jt_session.proofs.session.Session.feed.Goals as goal

pub loop-taken-init : goal.loop-taken-init
loop-taken-init g c =
    let hub = c.args.hub.now in
    record {
      within = omega arith;
      waits = c.requires.waits;
      on = c.requires.on;
      place = omega arith;
      feeds = feeds_on c.args.self.now c.args.self.now [] (opening_of (g.P.Keeper.tables hub.start) (g.P.Keeper.limit hub.start) hub.fleet hub.secret) (newest hub.history) c.args.out.now.items c.args.out.now.items (takes_none c.args.self.now c.args.out.now.items c.requires.waits) c.requires.on;
      start = refl;
      fleet = refl;
      secret = refl;
      reserved = refl;
      closed_as_before = λ session. refl;
      reason = reason_none (g.P.Keeper.faults hub.keeper) (g.P.Keeper.may_fail hub.keeper) On never_stops;
    }

pub loop-taken-preserved : goal.loop-taken-preserved
loop-taken-preserved g c =
    let hub = c.args.hub.now in
    let mid = c.loop-taken.hub in
    let now = c.feed_some-count.new.hub in
    let kept = c.loop-taken.invariant in
    let did = c.feed_some-count.ensures in
    let opening : opening_of (g.P.Keeper.tables mid.start) (g.P.Keeper.limit mid.start) mid.fleet mid.secret ≡ opening_of (g.P.Keeper.tables hub.start) (g.P.Keeper.limit hub.start) hub.fleet hub.secret =
    ap (λ start. opening_of (g.P.Keeper.tables start) (g.P.Keeper.limit start) mid.fleet mid.secret) kept.start
    ∙ (ap (λ fleet. opening_of (g.P.Keeper.tables hub.start) (g.P.Keeper.limit hub.start) fleet mid.secret) kept.fleet
    ∙ ap (λ secret. opening_of (g.P.Keeper.tables hub.start) (g.P.Keeper.limit hub.start) hub.fleet secret) kept.secret) in
    record {
      within = omega (arith, did.taken, length-drop c.loop-taken.taken c.args.octets.now, c.loop-taken-test.true);
      waits = did.waiting;
      on = did.on.0 c.in-On.is;
      place = omega (arith, did.place, kept.place);
      feeds =
          feeds_more c.args.self.now c.loop-taken.self c.feed_some-count.new.self c.args.octets.now c.loop-taken.taken c.feed_some-count.result.0 (opening_of (g.P.Keeper.tables hub.start) (g.P.Keeper.limit hub.start) hub.fleet hub.secret) (newest hub.history) (newest mid.history) (newest now.history) c.args.out.now.items c.loop-taken.out.items c.feed_some-count.new.out.items On
          (λ i. omega (arith, c.type_inv.octets i)) kept.feeds kept.on
          (fed_on c.loop-taken.self c.feed_some-count.new.self (take c.feed_some-count.result.0 (take (length c.args.octets.now - c.loop-taken.taken) (drop c.loop-taken.taken c.args.octets.now))) (opening_of (g.P.Keeper.tables mid.start) (g.P.Keeper.limit mid.start) mid.fleet mid.secret) (opening_of (g.P.Keeper.tables hub.start) (g.P.Keeper.limit hub.start) hub.fleet hub.secret) (newest mid.history) (newest now.history) c.loop-taken.out.items c.feed_some-count.new.out.items c.feed_some-count.result.1 On opening c.in-On.is did.feeds);
      start = did.opening.0 ∙ kept.start;
      fleet = did.opening.1 ∙ kept.fleet;
      secret = did.opening.2 ∙ kept.secret;
      reserved = did.opening.3 ∙ kept.reserved;
      closed_as_before = λ session. did.closed session ∙ kept.closed_as_before session;
      reason =
          reason_both (g.P.Keeper.faults hub.keeper) (g.P.Keeper.faults mid.keeper) (g.P.Keeper.faults now.keeper) (g.P.Keeper.may_fail hub.keeper) (g.P.Keeper.may_fail mid.keeper) (g.P.Keeper.may_fail now.keeper) On
          kept.reason (reason_on (g.P.Keeper.faults mid.keeper) (g.P.Keeper.faults now.keeper) (g.P.Keeper.may_fail mid.keeper) (g.P.Keeper.may_fail now.keeper) c.feed_some-count.result.1 On c.in-On.is did.reason);
    }

pub returns-in-Stop-clause-feeds : goal.returns-in-Stop-clause-feeds
returns-in-Stop-clause-feeds g c =
    let hub = c.args.hub.now in
    let mid = c.loop-taken.hub in
    let now = c.feed_some-count.new.hub in
    let kept = c.loop-taken.invariant in
    let did = c.feed_some-count.ensures in
    let opening : opening_of (g.P.Keeper.tables mid.start) (g.P.Keeper.limit mid.start) mid.fleet mid.secret ≡ opening_of (g.P.Keeper.tables hub.start) (g.P.Keeper.limit hub.start) hub.fleet hub.secret =
    ap (λ start. opening_of (g.P.Keeper.tables start) (g.P.Keeper.limit start) mid.fleet mid.secret) kept.start
    ∙ (ap (λ fleet. opening_of (g.P.Keeper.tables hub.start) (g.P.Keeper.limit hub.start) fleet mid.secret) kept.fleet
    ∙ ap (λ secret. opening_of (g.P.Keeper.tables hub.start) (g.P.Keeper.limit hub.start) hub.fleet secret) kept.secret) in
    feeds_ended c.law_front.ensures.unplaced c.args.self.now c.feed_some-count.new.self c.args.octets.now (c.loop-taken.taken + c.feed_some-count.result.0) (opening_of (g.P.Keeper.tables hub.start) (g.P.Keeper.limit hub.start) hub.fleet hub.secret) (newest hub.history) (newest now.history) c.args.out.now.items c.feed_some-count.new.out.items (Stop c.in-Stop.end)
    (feeds_more c.args.self.now c.loop-taken.self c.feed_some-count.new.self c.args.octets.now c.loop-taken.taken c.feed_some-count.result.0 (opening_of (g.P.Keeper.tables hub.start) (g.P.Keeper.limit hub.start) hub.fleet hub.secret) (newest hub.history) (newest mid.history) (newest now.history) c.args.out.now.items c.loop-taken.out.items c.feed_some-count.new.out.items (Stop c.in-Stop.end)
    (λ i. omega (arith, c.type_inv.octets i)) kept.feeds kept.on
    (fed_on c.loop-taken.self c.feed_some-count.new.self (take c.feed_some-count.result.0 (take (length c.args.octets.now - c.loop-taken.taken) (drop c.loop-taken.taken c.args.octets.now))) (opening_of (g.P.Keeper.tables mid.start) (g.P.Keeper.limit mid.start) mid.fleet mid.secret) (opening_of (g.P.Keeper.tables hub.start) (g.P.Keeper.limit hub.start) hub.fleet hub.secret) (newest mid.history) (newest now.history) c.loop-taken.out.items c.feed_some-count.new.out.items c.feed_some-count.result.1 (Stop c.in-Stop.end) opening c.in-Stop.is did.feeds))
    (ended c.feed_some-count.new.self.over c.feed_some-count.result.1 c.in-Stop.end did.on c.in-Stop.is)
