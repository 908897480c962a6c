use Rattle.std.proofs.Common.{◌≡◌, ◌≤◌, ◌+◌, ◌-◌, ℕ, length}
use Rattle.std.specs.Prelude.{option_map, MatchResult}
use lib.ListN.{get_elem?}
use mathlib.Core.Option.{some}
use Rattle.jt_value.specs.Counts.{Counts}
use Rattle.jt_outside.specs.Link.{wire_of}
use Rattle.jt_platform.specs.Hub.{opening_of}
use Rattle.jt_server.specs.Jobs.{AreUnused, IsGiven, IsWorked, lent_to}
use Rattle.jt_server.proofs.threads.accept_each.Given as goal

abbrev pub invariant-loop-accepted : goal.invariant-loop-accepted
invariant-loop-accepted g l = record {
  within : l.accepted ≤ l.sessions;
  as_many : length l.jobs.items ≡ l.accepted;
  rest : length l.passes.items + l.accepted ≡ l.sessions;
  unused : AreUnused l.root.opening l.turn l.passes.items;
  numbers : (m : ℕ) (one : _) → get_elem? l.passes.items m ≡ some one → one.number + m ≡ l.sessions;
  room : l.sessions ≤ l.jobs.spare + l.accepted;
  pool : g.D.Door.pool l.door ≡ lent_to l.accepted (g.D.Door.pool l.fn.door);
  name : g.D.Door.name l.door ≡ g.D.Door.name l.fn.door;
  count : Counts (g.D.Door.faults l.fn.door) (g.D.Door.faults l.door);
  jobs :
      (m : ℕ) (job : _) → get_elem? l.jobs.items m ≡ some job → MatchResult job (λ h. IsGiven l.root.opening l.turn (g.D.Door.pool l.fn.door).coming m h.promise.given.value.pass.value (wire_of g.D.Link.Sink.inbound g.D.Link.Sink.written g.D.Link.Sink.faults h.promise.given.value.link.value))
      (λ w. IsWorked (option_map (λ o. opening_of (g.P.Keeper.tables o.start) (g.P.Keeper.limit o.start) o.fleet o.secret) l.root.opening) l.root.opening l.turn (g.D.Door.pool l.fn.door).coming m w.pass (wire_of g.D.Link.Sink.inbound g.D.Link.Sink.written g.D.Link.Sink.faults w.link) w.report);
}

abbrev pub decreases-loop-accepted : goal.decreases-loop-accepted
decreases-loop-accepted g l = l.sessions - l.accepted
