use Rattle.std.proofs.Common.{arith}
use Rattle.jt_escape.proofs.Taking.{place_next, content_some}
use Rattle.jt_escape.proofs.Runs.{Runs-next}
use Rattle.jt_escape.proofs.splitter.Splitter.take_behind.Goals as goal

pub returns-clause-place : goal.returns-clause-place
returns-clause-place c = omega (arith, place_next _ _ _ c.step-split.ensures.next)

pub returns-clause-runs : goal.returns-clause-runs
returns-clause-runs c = λ before runs.
    Runs-next before c.args.self.now _ c.args.octets.now c.args.run _ (omega arith) runs c.step-split.ensures.next c.step-split.ensures.told

pub returns-clause-content : goal.returns-clause-content
returns-clause-content c = content_some _ _ _ _ c.step-split.ensures.told
