use Rattle.std.proofs.Common.{◌≡◌, ◌≤◌, ◌+◌, ◌-◌, ℕ, [], length, arith, refl, sym, ap, ◌∙◌, subst}
use Rattle.std.specs.Prelude.{option_map, MatchResult}
use lib.ListN.{get_elem?}
use mathlib.Core.Option.{some}
use Rattle.jt_outside.specs.Link.{wire_of}
use Rattle.jt_platform.specs.Hub.{opening_of}
use Rattle.jt_server.specs.Served.{EndsAs}
use Rattle.jt_server.specs.Jobs.{IsGiven, IsJoined, IsWorked}
use Rattle.jt_server.proofs.Accepting.{lent_as}
use Rattle.jt_server.proofs.threads.fn.serve_all.scope.Goals as goal

pub join_all-requires : goal.join_all-requires
join_all-requires g c =
    let a = c.accept_all-end.ensures in
    let items = c.into_vec.ensures ∙ c.into_seq.ensures in
    let few = a.few in
    let many : length c.into_vec.result.items ≡ length c.accept_all-end.new.jobs.items = ap length items in record {
      root = record { of_turn = a.root.of_turn; number = a.root.number; over = refl; base_is = refl; mine = a.root.mine };
      lent = a.lent ∙ sym many;
      failed = a.failed;
      up_to = a.up_to;
      jobs = λ m job at.
          subst (λ d. MatchResult job (λ h. IsGiven c.accept_all-end.new.pass.opening c.captures.turn.now (g.D.Door.pool d).coming m h.promise.given.value.pass.value (wire_of g.D.Link.Sink.inbound g.D.Link.Sink.written g.D.Link.Sink.faults h.promise.given.value.link.value))
          (λ w. IsWorked (option_map (λ o. opening_of (g.P.Keeper.tables o.start) (g.P.Keeper.limit o.start) o.fleet o.secret) c.accept_all-end.new.pass.opening) c.accept_all-end.new.pass.opening c.captures.turn.now (g.D.Door.pool d).coming m w.pass (wire_of g.D.Link.Sink.inbound g.D.Link.Sink.written g.D.Link.Sink.faults w.link) w.report)) (sym c.of-before.ensures)
          (subst (λ x. MatchResult job (λ h. IsGiven x c.captures.turn.now (g.D.Door.pool c.captures.door).coming m h.promise.given.value.pass.value (wire_of g.D.Link.Sink.inbound g.D.Link.Sink.written g.D.Link.Sink.faults h.promise.given.value.link.value))
          (λ w. IsWorked (option_map (λ o. opening_of (g.P.Keeper.tables o.start) (g.P.Keeper.limit o.start) o.fleet o.secret) x) x c.captures.turn.now (g.D.Door.pool c.captures.door).coming m w.pass (wire_of g.D.Link.Sink.inbound g.D.Link.Sink.written g.D.Link.Sink.faults w.link) w.report)) (sym a.root.over)
          (a.jobs m job (subst (λ l. get_elem? l m ≡ some job) items at)));
      room = (c.requires.room.2, omega (arith, few, many, c.requires.room.3));
    }

pub returns : goal.returns
returns g c =
    let a = c.accept_all-end.ensures in
    let j = c.join_all.ensures in
    let few = a.few in
    let many : length c.join_all.new.links.items ≡ length c.accept_all-end.new.jobs.items = j.as_many ∙ ap length (c.into_vec.ensures ∙ c.into_seq.ensures) in record {
      root = record { of_turn = j.root.of_turn; number = j.root.number; over = j.root.over ∙ a.root.over; base_is = j.root.base_is ∙ a.root.base_is; mine = j.root.mine };
      lent = j.lent;
      up_to = j.up_to;
      failed = j.failed;
      links = λ i b at.
          subst (λ d. IsJoined (option_map (λ o. opening_of (g.P.Keeper.tables o.start) (g.P.Keeper.limit o.start) o.fleet o.secret) c.captures.pass.opening) c.captures.pass.opening c.captures.turn.now (g.D.Door.pool d).coming (length c.join_all.new.links.items - 1 - i) c.join_all.new.pass (wire_of g.D.Link.Sink.inbound g.D.Link.Sink.written g.D.Link.Sink.faults b.link) b.report) c.of-before.ensures
          (subst (λ x. IsJoined (option_map (λ o. opening_of (g.P.Keeper.tables o.start) (g.P.Keeper.limit o.start) o.fleet o.secret) x) x c.captures.turn.now (g.D.Door.pool c.of-before.result.value).coming (length c.join_all.new.links.items - 1 - i) c.join_all.new.pass (wire_of g.D.Link.Sink.inbound g.D.Link.Sink.written g.D.Link.Sink.faults b.link) b.report) a.root.over (j.links i b at));
      pool = lent_as (length c.accept_all-end.new.jobs.items) (length c.join_all.new.links.items) (g.D.Door.pool c.captures.door) (g.D.Door.pool c.accept_all-end.new.door) a.pool many;
      name = a.name;
      count = a.count;
      few = omega (arith, few, many);
      end = subst (λ n. EndsAs c.accept_all-end.result n c.captures.sessions (g.D.Door.pool c.accept_all-end.new.door) (g.D.Door.faults c.captures.door) (g.D.Door.faults c.accept_all-end.new.door)) (sym many) a.end;
    }
