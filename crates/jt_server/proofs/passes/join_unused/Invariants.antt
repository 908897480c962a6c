use Rattle.std.proofs.Common.{◌≡◌, ◌+◌, length}
use Rattle.jt_server.specs.Jobs.{AreUnused, AreUpTo, IsRoot}
use Rattle.jt_server.proofs.passes.join_unused.Given as goal

abbrev pub invariant-loop-one : goal.invariant-loop-one
invariant-loop-one g l = record {
  root : IsRoot l.fn.pass.opening l.turn l.fn.pass.base l.pass;
  lent : l.fn.pass.lent + length l.passes.items ≡ l.pass.lent + length l.fn.passes.items;
  failed : l.pass.failed ≡ l.fn.pass.failed;
  up_to : AreUpTo 0 l.pass;
  unused : AreUnused l.fn.pass.opening l.turn l.passes.items;
}

abbrev pub decreases-loop-one : goal.decreases-loop-one
decreases-loop-one g l = length l.passes.items
