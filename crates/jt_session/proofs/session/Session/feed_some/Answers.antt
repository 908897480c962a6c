use Rattle.std.proofs.Common.{take, arith}
use Rattle.jt_platform.specs.History.{newest}
use Rattle.jt_platform.specs.Hub.{opening_of}
use Rattle.jt_value.proofs.OctetLists.{AreOctets-take}
use Rattle.jt_session.proofs.Hubs.{feeds_on, feeds_short, feeds_then, led_ask, led_short}
use Rattle.jt_session.proofs.Stepping.{led_on}
use Rattle.jt_session.proofs.session.Session.feed_some.Goals as goal

pub returns-in-More-clause-feeds : goal.returns-in-More-clause-feeds
returns-in-More-clause-feeds g c =
    let hub = c.args.hub.now in
    feeds_on c.args.self.now c.take-count.new.self (take c.take-count.result.0 c.args.octets.now) (opening_of (g.P.Keeper.tables hub.start) (g.P.Keeper.limit hub.start) hub.fleet hub.secret) (newest hub.history) c.args.out.now.items c.take-count.new.out.items
    c.take-count.ensures.turns (led_on c.take-count.new.self c.take-count.result.1 c.in-More.is c.take-count.ensures.led).1

pub returns-in-Ask-clause-feeds : goal.returns-in-Ask-clause-feeds
returns-in-Ask-clause-feeds g c =
    let hub = c.args.hub.now in
    let opening = opening_of (g.P.Keeper.tables hub.start) (g.P.Keeper.limit hub.start) hub.fleet hub.secret in
    let on = (led_ask c.take-count.new.self c.take-count.result.1 c.in-Ask.request c.in-Ask.is c.take-count.ensures.led).1 in
    feeds_then c.args.self.now c.take-count.new.self c.ask.new.self (take c.take-count.result.0 c.args.octets.now) opening (newest hub.history) (newest hub.history) (newest c.ask.new.hub.history) c.args.out.now.items c.take-count.new.out.items c.ask.new.out.items c.ask.result
    (AreOctets-take c.take-count.result.0 c.args.octets.now (λ i. omega (arith, c.type_inv.octets i)))
    (feeds_on c.args.self.now c.take-count.new.self (take c.take-count.result.0 c.args.octets.now) opening (newest hub.history) c.args.out.now.items c.take-count.new.out.items c.take-count.ensures.turns on)
    on c.ask.ensures.feeds

pub returns-in-Memory-clause-feeds : goal.returns-in-Memory-clause-feeds
returns-in-Memory-clause-feeds g c =
    let hub = c.args.hub.now in
    feeds_short c.args.self.now c.take-count.new.self (take c.take-count.result.0 c.args.octets.now) (opening_of (g.P.Keeper.tables hub.start) (g.P.Keeper.limit hub.start) hub.fleet hub.secret) (newest hub.history) c.args.out.now.items c.take-count.new.out.items
    c.take-count.ensures.turns c.requires.on (led_short c.take-count.new.self c.take-count.result.1 c.in-Memory.is c.take-count.ensures.led).1
