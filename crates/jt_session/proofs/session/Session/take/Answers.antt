use Rattle.std.proofs.Common.{arith, length-drop}
use Rattle.jt_session.proofs.Stepping.{takes_more, led_on}
use Rattle.jt_session.proofs.session.Session.take.Goals as goal

pub loop-taken-preserved : goal.loop-taken-preserved
loop-taken-preserved c =
    let led = led_on c.next-count.new.self c.next-count.result.1 c.in-More.is c.next-count.ensures.led in
    record {
      within = omega (arith, c.next-count.ensures.taken, length-drop c.loop-taken.taken c.args.octets.now, c.loop-taken-test.true);
      waits = led.0;
      on = led.1;
      place = omega (arith, c.next-count.ensures.place, c.loop-taken.invariant.place);
      turns = takes_more c.args.self.now c.loop-taken.self c.next-count.new.self c.args.octets.now c.loop-taken.taken c.next-count.result.0 c.args.out.now.items c.loop-taken.out.items c.next-count.new.out.items (λ i. omega (arith, c.type_inv.octets i)) c.loop-taken.invariant.turns c.next-count.ensures.goes;
      bound = omega (arith, c.next-count.ensures.bound, c.next-count.ensures.some, c.loop-taken.invariant.bound);
    }

pub returns-in-Ask-clause-turns : goal.returns-in-Ask-clause-turns
returns-in-Ask-clause-turns c =
    takes_more c.args.self.now c.loop-taken.self c.next-count.new.self c.args.octets.now c.loop-taken.taken c.next-count.result.0 c.args.out.now.items c.loop-taken.out.items c.next-count.new.out.items (λ i. omega (arith, c.type_inv.octets i)) c.loop-taken.invariant.turns c.next-count.ensures.goes

pub returns-in-Memory-clause-turns : goal.returns-in-Memory-clause-turns
returns-in-Memory-clause-turns c =
    takes_more c.args.self.now c.loop-taken.self c.next-count.new.self c.args.octets.now c.loop-taken.taken c.next-count.result.0 c.args.out.now.items c.loop-taken.out.items c.next-count.new.out.items (λ i. omega (arith, c.type_inv.octets i)) c.loop-taken.invariant.turns c.next-count.ensures.goes
