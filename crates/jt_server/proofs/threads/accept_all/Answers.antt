use Rattle.std.proofs.Common.{◌≡◌, ◌≤◌, ◌-◌, length, arith, refl, sym, ap, ◌∙◌, subst}
use Rattle.std.specs.Prelude.{option_map, IsSomeAnd, MatchResult}
use Rattle.jt_outside.specs.Link.{wire_of}
use Rattle.jt_platform.specs.Hub.{opening_of}
use Rattle.jt_server.specs.Jobs.{AreNew, IsGiven, IsWorked}
use Rattle.jt_server.proofs.Joins.{not_there}
use Rattle.jt_server.proofs.Accepting.{counts_none, lent_as, lent_none}
use Rattle.jt_server.proofs.threads.accept_all.Goals as goal

pub accept_each-end-requires-clause-new : goal.accept_each-end-requires-clause-new
accept_each-end-requires-clause-new g c κs within = subst (λ o. AreNew o c.args.turn.now c.args.sessions c.in-Ok.passes.items) (sym c.split_all.ensures.root.over) c.in-Ok.ensures.ok

pub accept_each-end-requires-clause-reserved : goal.accept_each-end-requires-clause-reserved
accept_each-end-requires-clause-reserved g c κs within = subst (λ x. IsSomeAnd x (λ o. c.args.sessions ≤ o.reserved)) (sym c.split_all.ensures.root.over) c.requires.reserved

pub join_unused-requires-clause-root : goal.join_unused-requires-clause-root
join_unused-requires-clause-root g c = record { of_turn = c.split_all.ensures.root.of_turn; number = c.split_all.ensures.root.number; over = refl; base_is = refl; mine = c.split_all.ensures.root.mine }

pub returns-in_default : goal.returns-in_default
returns-in_default g c =
    let none : length c.args.jobs.now.items ≡ 0 = ap length c.requires.room.0 in record {
      root = c.split_all.ensures.root;
      lent = c.in_default.ensures.err ∙ sym none;
      failed = c.split_all.ensures.failed;
      up_to = c.split_all.ensures.up_to;
      jobs = λ m job at. absurd (not_there c.args.jobs.now.items m job c.requires.room.0 at);
      pool = lent_as 0 (length c.args.jobs.now.items) (g.D.Door.pool c.args.door.now) (g.D.Door.pool c.args.door.now) (lent_none (g.D.Door.pool c.args.door.now)) none;
      name = refl;
      count = counts_none (g.D.Door.faults c.args.door.now);
      few = omega (arith, none);
      end = none;
    }

pub returns : goal.returns
returns g c =
    let s = c.split_all.ensures in
    let e = c.accept_each-end.ensures in
    let j = c.join_unused.ensures in
    let over = s.root.over in record {
      root = record { of_turn = j.root.of_turn; number = j.root.number; over = j.root.over ∙ over; base_is = j.root.base_is ∙ s.root.base_is; mine = j.root.mine };
      lent = omega (arith, j.lent, c.in-Ok.ensures.lent, e.all);
      failed = j.failed ∙ s.failed;
      up_to = j.up_to;
      jobs = λ m job at.
          subst (λ x. MatchResult job (λ h. IsGiven x c.args.turn.now (g.D.Door.pool c.args.door.now).coming m h.promise.given.value.pass.value (wire_of g.D.Link.Sink.inbound g.D.Link.Sink.written g.D.Link.Sink.faults h.promise.given.value.link.value))
          (λ w. IsWorked (option_map (λ o. opening_of (g.P.Keeper.tables o.start) (g.P.Keeper.limit o.start) o.fleet o.secret) x) x c.args.turn.now (g.D.Door.pool c.args.door.now).coming m w.pass (wire_of g.D.Link.Sink.inbound g.D.Link.Sink.written g.D.Link.Sink.faults w.link) w.report)) over
          (e.jobs m job at);
      pool = e.pool;
      name = e.name;
      count = e.count;
      few = omega (arith, e.all);
      end = e.end;
    }
