use Rattle.std.proofs.Common.{◌≡◌, ◌+◌, ◌-◌, [], ◌∷◌, length, arith, refl, sym, ap, ◌∙◌, subst}
use Rattle.std.specs.Prelude.{option_map}
use lib.ListN.{get_elem?}
use mathlib.Core.Option.{some}
use Rattle.jt_outside.specs.Link.{wire_of}
use Rattle.jt_platform.specs.Hub.{opening_of}
use Rattle.jt_server.proofs.Places.{at_last, at_longer, one_more}
use Rattle.jt_server.proofs.Joins.{not_there}
use Rattle.jt_server.proofs.Accepting.{all_more, counts_none, counts_then, lent_as, lent_more, lent_none, over_still, reserved_for, rose_then, started, unused_given}
use Rattle.jt_server.proofs.threads.accept_each.Goals as goal

pub loop-accepted-init : goal.loop-accepted-init
loop-accepted-init g c = record {
  within = omega arith;
  as_many = ap length c.requires.room.0;
  rest = omega (arith, c.requires.new.as_many);
  unused = c.requires.new.unused;
  numbers = c.requires.new.numbers;
  room = omega (arith, c.requires.room.1);
  pool = lent_none (g.D.Door.pool c.args.door.now);
  name = refl;
  count = counts_none (g.D.Door.faults c.args.door.now);
  jobs = λ m job at. absurd (not_there c.args.jobs.now.items m job c.requires.room.0 at);
}

pub start-job-requires-clause-turn : goal.start-job-requires-clause-turn
start-job-requires-clause-turn g c κs within =
    let m = length c.pop.new.self.items in
    (c.loop-accepted.invariant.unused m c.in-Some.one (subst (λ l. get_elem? l m ≡ some c.in-Some.one) (sym c.in-Some.ensures.items) (at_last c.pop.new.self.items c.in-Some.one))).of_turn

pub start-job-requires-clause-number : goal.start-job-requires-clause-number
start-job-requires-clause-number g c κs within =
    let m = length c.pop.new.self.items in
    let at = subst (λ l. get_elem? l m ≡ some c.in-Some.one) (sym c.in-Some.ensures.items) (at_last c.pop.new.self.items c.in-Some.one) in
    let less : length c.loop-accepted.passes.items ≡ m + 1 = one_more _ _ _ c.in-Some.ensures.items in
    let rest = c.loop-accepted.invariant.rest in
    let all = c.loop-accepted.invariant.numbers m c.in-Some.one at in (
      omega (arith, less, rest, all),
      reserved_for c.args.root.now.opening c.in-Some.one.opening _ c.in-Some.one.number c.args.sessions (c.loop-accepted.invariant.unused m c.in-Some.one at).over (omega (arith, all)) c.requires.reserved,
    )

pub start-job-requires-clause-new : goal.start-job-requires-clause-new
start-job-requires-clause-new g c κs within =
    let m = length c.pop.new.self.items in
    (c.loop-accepted.invariant.unused m c.in-Some.one (subst (λ l. get_elem? l m ≡ some c.in-Some.one) (sym c.in-Some.ensures.items) (at_last c.pop.new.self.items c.in-Some.one))).mine

pub loop-accepted-preserved : goal.loop-accepted-preserved
loop-accepted-preserved g c =
    let inv = c.loop-accepted.invariant in
    let m = c.loop-accepted.accepted in
    let k = length c.pop.new.self.items in
    let at = subst (λ l. get_elem? l k ≡ some c.in-Some.one) (sym c.in-Some.ensures.items) (at_last c.pop.new.self.items c.in-Some.one) in
    let less : length c.loop-accepted.passes.items ≡ k + 1 = one_more _ _ _ c.in-Some.ensures.items in
    let rest = inv.rest in
    let all = inv.numbers k c.in-Some.one at in
    let more : length c.push.new.self.items ≡ length c.loop-accepted.jobs.items + 1 = one_more _ _ _ c.in-Ok.ensures.ok in record {
      within = omega (arith, c.loop-accepted-test.true);
      as_many = omega (arith, more, inv.as_many);
      rest = omega (arith, less, rest);
      unused = λ i one there. inv.unused i one (subst (λ l. get_elem? l i ≡ some one) (sym c.in-Some.ensures.items) (at_longer c.pop.new.self.items (c.in-Some.one ∷ []) i one there));
      numbers = λ i one there. inv.numbers i one (subst (λ l. get_elem? l i ≡ some one) (sym c.in-Some.ensures.items) (at_longer c.pop.new.self.items (c.in-Some.one ∷ []) i one there));
      room = omega (arith, inv.room, c.push.ensures.spare, c.loop-accepted-test.true);
      pool = lent_more m (g.D.Door.pool c.args.door.now) (g.D.Door.pool c.loop-accepted.door) (g.D.Door.pool c.accept.new.self) inv.pool c.in-Link.ensures.link.1;
      name = c.in-Link.ensures.name ∙ inv.name;
      count = counts_then _ _ _ inv.count c.in-Link.ensures.count;
      jobs = all_more _ c.loop-accepted.jobs.items c.push.new.self.items c.start-job.result m c.in-Ok.ensures.ok inv.as_many inv.jobs
          (started c.start-job.result (λ x. option_map (λ o. opening_of (g.P.Keeper.tables o.start) (g.P.Keeper.limit o.start) o.fleet o.secret) x) c.args.root.now.opening c.args.turn.now (g.D.Door.pool c.args.door.now).coming m c.in-Some.one c.in-Link.link (λ k. wire_of g.D.Link.Sink.inbound g.D.Link.Sink.written g.D.Link.Sink.faults k)
          (λ h. h.promise.given.value.pass.value) (λ h. h.promise.given.value.link.value) (λ w. w.pass) (λ w. w.link) (λ w. w.report)
          (unused_given c.args.root.now.opening c.args.turn.now (g.D.Door.pool c.args.door.now) (g.D.Door.pool c.loop-accepted.door) m c.in-Some.one _ (inv.unused k c.in-Some.one at) (omega (arith, less, rest, all)) inv.pool c.in-Link.ensures.link.0)
          c.start-job.ensures);
    }

pub returns-in-Over : goal.returns-in-Over
returns-in-Over g c =
    let inv = c.loop-accepted.invariant in record {
      unused = inv.unused;
      all = omega (arith, inv.as_many, inv.rest);
      jobs = inv.jobs;
      pool = lent_as c.loop-accepted.accepted (length c.loop-accepted.jobs.items) (g.D.Door.pool c.args.door.now) (g.D.Door.pool c.accept.new.self) (c.in-Over.ensures.link.0 ∙ inv.pool) inv.as_many;
      name = c.in-Over.ensures.name ∙ inv.name;
      count = counts_then _ _ _ inv.count c.in-Over.ensures.count;
      end = (omega (arith, inv.as_many, c.loop-accepted-test.true), over_still (g.D.Door.pool c.loop-accepted.door) (g.D.Door.pool c.accept.new.self) c.in-Over.ensures.link.0 c.in-Over.ensures.link.1);
    }

pub returns-in-Failed : goal.returns-in-Failed
returns-in-Failed g c =
    let inv = c.loop-accepted.invariant in record {
      unused = inv.unused;
      all = omega (arith, inv.as_many, inv.rest);
      jobs = inv.jobs;
      pool = lent_as c.loop-accepted.accepted (length c.loop-accepted.jobs.items) (g.D.Door.pool c.args.door.now) (g.D.Door.pool c.accept.new.self) (c.in-Failed.ensures.link ∙ inv.pool) inv.as_many;
      name = c.in-Failed.ensures.name ∙ inv.name;
      count = counts_then _ _ _ inv.count c.in-Failed.ensures.count;
      end = (omega (arith, inv.as_many, c.loop-accepted-test.true), rose_then _ _ _ inv.count (c.in-Failed.ensures.cause refl));
    }

pub returns : goal.returns
returns g c =
    let inv = c.loop-accepted.invariant in record {
      unused = inv.unused;
      all = omega (arith, inv.as_many, inv.rest);
      jobs = inv.jobs;
      pool = lent_as c.loop-accepted.accepted (length c.loop-accepted.jobs.items) (g.D.Door.pool c.args.door.now) (g.D.Door.pool c.loop-accepted.door) inv.pool inv.as_many;
      name = inv.name;
      count = inv.count;
      end = omega (arith, inv.as_many, inv.within, c.loop-accepted-test.false);
    }
