use Rattle.std.proofs.Common.{take, arith}
use Rattle.std.specs.Option.{option_map}
use Rattle.jt_platform.specs.Hub.{opening_of}
use Rattle.jt_value.proofs.OctetLists.{AreOctets-take}
use Rattle.jt_session.proofs.Hubs.{led_ask, led_short}
use Rattle.jt_session.proofs.Hearings.{hears_on, hears_short, hears_then}
use Rattle.jt_session.proofs.Stepping.{led_on}
use Rattle.jt_session.proofs.hearing.hear_some.Goals as goal

pub returns-in-More-clause-hears : goal.returns-in-More-clause-hears
returns-in-More-clause-hears g c =
    let pass = c.args.pass.now in
    hears_on (option_map (λ o. opening_of (g.P.Keeper.tables o.start) (g.P.Keeper.limit o.start) o.fleet o.secret) pass.opening) c.args.session.now c.take-count.new.self (take c.take-count.result.0 c.args.octets.now) c.args.out.now.items c.take-count.new.out.items pass
    c.take-count.ensures.turns (led_on c.take-count.new.self c.take-count.result.1 c.in-More.is c.take-count.ensures.led).1

pub returns-in-Ask-clause-hears : goal.returns-in-Ask-clause-hears
returns-in-Ask-clause-hears g c =
    let pass = c.args.pass.now in
    let o = option_map (λ o. opening_of (g.P.Keeper.tables o.start) (g.P.Keeper.limit o.start) o.fleet o.secret) pass.opening in
    let on = (led_ask c.take-count.new.self c.take-count.result.1 c.in-Ask.request c.in-Ask.is c.take-count.ensures.led).1 in
    hears_then o c.args.session.now c.take-count.new.self c.ask.new.session (take c.take-count.result.0 c.args.octets.now) pass c.ask.new.pass c.args.out.now.items c.take-count.new.out.items c.ask.new.out.items c.ask.result
    (AreOctets-take c.take-count.result.0 c.args.octets.now (λ i. omega (arith, c.type_inv.octets i)))
    (hears_on o c.args.session.now c.take-count.new.self (take c.take-count.result.0 c.args.octets.now) c.args.out.now.items c.take-count.new.out.items pass c.take-count.ensures.turns on)
    on c.ask.ensures.hears

pub returns-in-Memory-clause-hears : goal.returns-in-Memory-clause-hears
returns-in-Memory-clause-hears g c =
    let pass = c.args.pass.now in
    hears_short (option_map (λ o. opening_of (g.P.Keeper.tables o.start) (g.P.Keeper.limit o.start) o.fleet o.secret) pass.opening) c.args.session.now c.take-count.new.self (take c.take-count.result.0 c.args.octets.now) c.args.out.now.items c.take-count.new.out.items pass
    c.take-count.ensures.turns c.requires.on (led_short c.take-count.new.self c.take-count.result.1 c.in-Memory.is c.take-count.ensures.led).1
