use Rattle.std.proofs.Common.{arith}
use Rattle.jt_escape.proofs.Runs.{Runs-onward}
use Rattle.jt_escape.proofs.splitter.Splitter.take_all.Goals as goal

pub loop-taken-preserved : goal.loop-taken-preserved
loop-taken-preserved c = (
  omega arith,
  omega arith,
  Runs-onward _ c.loop-taken.self _ c.args.piece.now c.loop-taken.taken c.take_some-count.result.0 _ c.loop-taken.invariant.2 (rw c.in-More.is at c.take_some-count.ensures.runs),
)

pub returns-in-Content-clause-runs : goal.returns-in-Content-clause-runs
returns-in-Content-clause-runs c =
    Runs-onward _ c.loop-taken.self _ c.args.piece.now c.loop-taken.taken c.take_some-count.result.0 _ c.loop-taken.invariant.2 c.take_some-count.ensures.runs

pub returns-in-Content-clause-content : goal.returns-in-Content-clause-content
returns-in-Content-clause-content c = c.take_some-count.ensures.content
