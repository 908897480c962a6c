use Rattle.std.proofs.Common.{◌≤◌, ◌+◌, ◌∙◌, sym, take, ap, arith, rules, refl, length-take}
use Rattle.std.specs.Option.{option_map}
use Rattle.jt_outside.specs.Link.{wire_of}
use Rattle.jt_platform.specs.Hub.{opening_of}
use Rattle.jt_session.specs.declared.end.End.TheVariants as ends
use Rattle.jt_session.specs.Serving.{most_quiet}
use Rattle.jt_session.proofs.Servings.{course_begun, course_closes, course_ends, course_faults, course_over, course_reads, course_waits, none_quiet}
use Rattle.jt_session.proofs.serving.converse.Goals as goal

pub loop-read-init : goal.loop-read-init
loop-read-init g c = record {
  within = omega arith;
  few = omega arith;
  still = refl;
  course = course_begun (option_map (λ o. opening_of (g.P.Keeper.tables o.start) (g.P.Keeper.limit o.start) o.fleet o.secret) c.args.pass.now.opening) c.args.session.now c.args.pass.now (wire_of g.K.Sink.inbound g.K.Sink.written g.K.Sink.faults c.args.link.now) c.requires.new c.requires.place;
}

pub returns-in-Some-clause-converses : goal.returns-in-Some-clause-converses
returns-in-Some-clause-converses g c =
    let within : c.loop-read.read + c.in-Bytes.count ≤ c.args.octets = search rules in
    course_ends (option_map (λ o. opening_of (g.P.Keeper.tables o.start) (g.P.Keeper.limit o.start) o.fleet o.secret) c.args.pass.now.opening) c.args.session.now c.args.pass.now (wire_of g.K.Sink.inbound g.K.Sink.written g.K.Sink.faults c.args.link.now) c.loop-read.session c.loop-read.pass (wire_of g.K.Sink.inbound g.K.Sink.written g.K.Sink.faults c.loop-read.link) (wire_of g.K.Sink.inbound g.K.Sink.written g.K.Sink.faults c.read.new.self) c.loop-read.read c.loop-read.written c.loop-read.quiets c.loop-read.invariant.course c.read.ensures.written (take c.in-Bytes.count c.read.new.buf) c.in-Bytes.count c.in-Bytes.ensures.octets.2 c.in-Bytes.ensures.cause c.answer-done.ensures.fit
    (option_map (λ o. opening_of (g.P.Keeper.tables o.start) (g.P.Keeper.limit o.start) o.fleet o.secret) c.loop-read.pass.opening) (ap (λ x. option_map (λ o. opening_of (g.P.Keeper.tables o.start) (g.P.Keeper.limit o.start) o.fleet o.secret) x) c.loop-read.invariant.course.same.opening) c.answer-done.new.session c.answer-done.new.pass (wire_of g.K.Sink.inbound g.K.Sink.written g.K.Sink.faults c.answer-done.new.link) c.answer-done.result.0 c.answer-done.result.1 c.answer-done.ensures.answers c.answer-done.ensures.same
    c.in-Some.end c.args.octets c.in-Some.is within (omega (arith, length-take c.in-Bytes.count c.read.new.buf, c.in-Bytes.ensures.octets.1))

pub loop-read-preserved-in-None : goal.loop-read-preserved-in-None
loop-read-preserved-in-None g c =
    let within : c.loop-read.read + c.in-Bytes.count ≤ c.args.octets = search rules in
    record {
      within = within;
      few = omega arith;
      still = c.answer-done.ensures.still (λ e. absurd (let f = sym c.in-None.is ∙ e in cc)) ∙ c.in-Bytes.ensures.cause.still (λ e. cc) ∙ c.loop-read.invariant.still;
      course =
          course_reads (option_map (λ o. opening_of (g.P.Keeper.tables o.start) (g.P.Keeper.limit o.start) o.fleet o.secret) c.args.pass.now.opening) c.args.session.now c.args.pass.now (wire_of g.K.Sink.inbound g.K.Sink.written g.K.Sink.faults c.args.link.now) c.loop-read.session c.loop-read.pass (wire_of g.K.Sink.inbound g.K.Sink.written g.K.Sink.faults c.loop-read.link) (wire_of g.K.Sink.inbound g.K.Sink.written g.K.Sink.faults c.read.new.self) c.loop-read.read c.loop-read.written c.loop-read.quiets c.loop-read.invariant.course c.read.ensures.written (take c.in-Bytes.count c.read.new.buf) c.in-Bytes.count c.in-Bytes.ensures.octets.2 c.in-Bytes.ensures.cause c.answer-done.ensures.fit
          (option_map (λ o. opening_of (g.P.Keeper.tables o.start) (g.P.Keeper.limit o.start) o.fleet o.secret) c.loop-read.pass.opening) (ap (λ x. option_map (λ o. opening_of (g.P.Keeper.tables o.start) (g.P.Keeper.limit o.start) o.fleet o.secret) x) c.loop-read.invariant.course.same.opening) c.answer-done.new.session c.answer-done.new.pass (wire_of g.K.Sink.inbound g.K.Sink.written g.K.Sink.faults c.answer-done.new.link) c.answer-done.result.0 c.answer-done.result.1 c.answer-done.ensures.answers c.answer-done.ensures.same
          c.in-None.is c.answer-done.ensures.waiting (c.answer-done.ensures.on c.in-None.is) c.answer-done.ensures.place c.answer-done.ensures.short (omega (arith, length-take c.in-Bytes.count c.read.new.buf, c.in-Bytes.ensures.octets.1)) c.in-Bytes.ensures.octets.3;
    }

pub returns-then-quiets-eq-MOST_QUIETS-clause-converses : goal.returns-then-quiets-eq-MOST_QUIETS-clause-converses
returns-then-quiets-eq-MOST_QUIETS-clause-converses g c =
    let waited = course_waits (option_map (λ o. opening_of (g.P.Keeper.tables o.start) (g.P.Keeper.limit o.start) o.fleet o.secret) c.args.pass.now.opening) c.args.session.now c.args.pass.now (wire_of g.K.Sink.inbound g.K.Sink.written g.K.Sink.faults c.args.link.now) c.loop-read.session c.loop-read.pass (wire_of g.K.Sink.inbound g.K.Sink.written g.K.Sink.faults c.loop-read.link) (wire_of g.K.Sink.inbound g.K.Sink.written g.K.Sink.faults c.read.new.self) c.loop-read.read c.loop-read.written c.loop-read.quiets c.loop-read.invariant.course c.read.ensures.written c.in-Quiet.ensures.octets c.in-Quiet.ensures.cause c.loop-read.invariant.few in
    course_over (option_map (λ o. opening_of (g.P.Keeper.tables o.start) (g.P.Keeper.limit o.start) o.fleet o.secret) c.args.pass.now.opening) c.args.session.now c.args.pass.now (wire_of g.K.Sink.inbound g.K.Sink.written g.K.Sink.faults c.args.link.now) c.loop-read.session c.loop-read.pass (wire_of g.K.Sink.inbound g.K.Sink.written g.K.Sink.faults c.read.new.self) c.loop-read.read c.loop-read.written (c.loop-read.quiets + 1) c.args.octets ends.Idle
    waited c.loop-read.invariant.within (omega (arith, waited.rose, c.if-quiets-eq-MOST_QUIETS.true), omega (arith, waited.run, c.if-quiets-eq-MOST_QUIETS.true)) refl

pub returns-in-End-clause-converses : goal.returns-in-End-clause-converses
returns-in-End-clause-converses g c = course_closes (option_map (λ o. opening_of (g.P.Keeper.tables o.start) (g.P.Keeper.limit o.start) o.fleet o.secret) c.args.pass.now.opening) c.args.session.now c.args.pass.now (wire_of g.K.Sink.inbound g.K.Sink.written g.K.Sink.faults c.args.link.now) c.loop-read.session c.loop-read.pass (wire_of g.K.Sink.inbound g.K.Sink.written g.K.Sink.faults c.loop-read.link) (wire_of g.K.Sink.inbound g.K.Sink.written g.K.Sink.faults c.read.new.self) c.loop-read.read c.loop-read.written c.loop-read.quiets c.loop-read.invariant.course c.read.ensures.written c.args.octets c.loop-read.invariant.within c.in-End.ensures.octets

pub returns-in-Failed-clause-converses : goal.returns-in-Failed-clause-converses
returns-in-Failed-clause-converses g c = course_faults (option_map (λ o. opening_of (g.P.Keeper.tables o.start) (g.P.Keeper.limit o.start) o.fleet o.secret) c.args.pass.now.opening) c.args.session.now c.args.pass.now (wire_of g.K.Sink.inbound g.K.Sink.written g.K.Sink.faults c.args.link.now) c.loop-read.session c.loop-read.pass (wire_of g.K.Sink.inbound g.K.Sink.written g.K.Sink.faults c.loop-read.link) (wire_of g.K.Sink.inbound g.K.Sink.written g.K.Sink.faults c.read.new.self) c.loop-read.read c.loop-read.written c.loop-read.quiets c.loop-read.invariant.course c.read.ensures.written c.args.octets c.loop-read.invariant.within c.in-Failed.ensures.octets c.in-Failed.ensures.cause

pub returns-clause-converses : goal.returns-clause-converses
returns-clause-converses g c =
    course_over (option_map (λ o. opening_of (g.P.Keeper.tables o.start) (g.P.Keeper.limit o.start) o.fleet o.secret) c.args.pass.now.opening) c.args.session.now c.args.pass.now (wire_of g.K.Sink.inbound g.K.Sink.written g.K.Sink.faults c.args.link.now) c.loop-read.session c.loop-read.pass (wire_of g.K.Sink.inbound g.K.Sink.written g.K.Sink.faults c.loop-read.link) c.loop-read.read c.loop-read.written c.loop-read.quiets c.args.octets ends.Spent
    c.loop-read.invariant.course c.loop-read.invariant.within (omega (arith, c.loop-read-test.false, c.loop-read.invariant.within)) refl

pub returns-in-Some-clause-quiet : goal.returns-in-Some-clause-quiet
returns-in-Some-clause-quiet g c = none_quiet (g.K.Sink.inbound c.args.link.now).run (g.K.Sink.inbound c.read.new.self) (g.K.Sink.inbound c.answer-done.new.link) (most_quiet c.in-Some.end) c.answer-done.ensures.answers.inbound c.in-Bytes.ensures.octets.3

pub returns-then-quiets-eq-MOST_QUIETS-clause-quiet : goal.returns-then-quiets-eq-MOST_QUIETS-clause-quiet
returns-then-quiets-eq-MOST_QUIETS-clause-quiet g c =
    let run = c.in-Quiet.ensures.octets.1 in
    let most = c.loop-read.invariant.course.most in
    omega (arith, run, most, c.loop-read.invariant.few)

pub returns-in-End-clause-quiet : goal.returns-in-End-clause-quiet
returns-in-End-clause-quiet g c =
    let run = c.in-End.ensures.octets.2 in
    let most = c.loop-read.invariant.course.most in
    omega (arith, run, most, c.loop-read.invariant.few)

pub returns-in-Failed-clause-quiet : goal.returns-in-Failed-clause-quiet
returns-in-Failed-clause-quiet g c =
    let run = c.in-Failed.ensures.octets.1 in
    let most = c.loop-read.invariant.course.most in
    omega (arith, run, most, c.loop-read.invariant.few)

pub returns-clause-quiet : goal.returns-clause-quiet
returns-clause-quiet g c =
    let most = c.loop-read.invariant.course.most in
    omega (arith, most, c.loop-read.invariant.few)
