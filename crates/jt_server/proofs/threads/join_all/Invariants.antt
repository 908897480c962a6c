use Rattle.std.proofs.Common.{◌≡◌, ◌≤◌, ◌+◌, ◌-◌, ℕ, length, map}
use Rattle.std.specs.Prelude.{option_map, MatchResult}
use lib.ListN.{get_elem?}
use mathlib.Core.Option.{some}
use Rattle.jt_outside.specs.Link.{wire_of}
use Rattle.jt_platform.specs.Hub.{opening_of}
use Rattle.jt_server.specs.Served.{store_faults}
use Rattle.jt_server.specs.Jobs.{AreUpTo, HasFailed, IsGiven, IsJoined, IsRoot, IsWorked}
use Rattle.jt_server.proofs.threads.join_all.Given as goal

abbrev pub invariant-loop-job : goal.invariant-loop-job
invariant-loop-job g l = record {
  root : IsRoot l.fn.pass.opening l.turn l.fn.pass.base l.pass;
  lent : l.pass.lent ≡ length l.jobs.items;
  count : length l.links.items + length l.jobs.items ≡ length l.fn.jobs.items;
  room : length l.jobs.items ≤ l.links.spare;
  up_to : AreUpTo (length l.fn.jobs.items) l.pass;
  failed : HasFailed (store_faults (map (λ b. b.report) l.links.items)) l.pass;
  jobs :
      (m : ℕ) (job : _) → get_elem? l.jobs.items m ≡ some job → MatchResult job (λ h. IsGiven l.fn.pass.opening l.turn (g.D.Door.pool l.before.value).coming m h.promise.given.value.pass.value (wire_of g.D.Link.Sink.inbound g.D.Link.Sink.written g.D.Link.Sink.faults h.promise.given.value.link.value))
      (λ w. IsWorked (option_map (λ o. opening_of (g.P.Keeper.tables o.start) (g.P.Keeper.limit o.start) o.fleet o.secret) l.fn.pass.opening) l.fn.pass.opening l.turn (g.D.Door.pool l.before.value).coming m w.pass (wire_of g.D.Link.Sink.inbound g.D.Link.Sink.written g.D.Link.Sink.faults w.link) w.report);
  links :
      (i : ℕ) (b : _) → get_elem? l.links.items i ≡ some b → IsJoined (option_map (λ o. opening_of (g.P.Keeper.tables o.start) (g.P.Keeper.limit o.start) o.fleet o.secret) l.fn.pass.opening) l.fn.pass.opening l.turn (g.D.Door.pool l.before.value).coming (length l.fn.jobs.items - 1 - i) l.pass (wire_of g.D.Link.Sink.inbound g.D.Link.Sink.written g.D.Link.Sink.faults b.link) b.report;
}

abbrev pub decreases-loop-job : goal.decreases-loop-job
decreases-loop-job g l = length l.jobs.items
