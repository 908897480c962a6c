use Rattle.std.proofs.Common.{◌≡◌, ◌≤◌, ◌+◌, ◌-◌, [], ℕ, length}
use lib.ListN.{get_elem?}
use mathlib.Core.Option.{some}
use Rattle.jt_server.specs.Jobs.{AreUnused, IsRoot}
use Rattle.jt_server.proofs.passes.split_each.Given as goal

abbrev pub invariant-loop-given : goal.invariant-loop-given
invariant-loop-given g l = record {
  root : IsRoot l.fn.pass.opening l.turn l.fn.pass.base l.pass;
  given : l.pass.given ≤ l.given;
  within : l.given ≤ l.sessions;
  as_many : length l.passes.items ≡ l.given;
  lent : l.pass.lent ≡ l.given;
  failed : l.pass.failed ≡ 0;
  ended : l.pass.ended ≡ [];
  room : l.sessions ≤ l.passes.spare + l.given;
  unused : AreUnused l.fn.pass.opening l.turn l.passes.items;
  numbers : (m : ℕ) (one : _) → get_elem? l.passes.items m ≡ some one → one.number ≡ m + 1;
}

abbrev pub decreases-loop-given : goal.decreases-loop-given
decreases-loop-given g l = l.sessions - l.given
