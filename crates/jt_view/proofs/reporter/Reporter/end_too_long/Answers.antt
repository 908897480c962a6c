use Rattle.std.proofs.lemmas.Result.{IfOk-weaker}
use Rattle.jt_view.proofs.InputTaken.{ends_too_long}
use Rattle.jt_view.proofs.reporter.Reporter.end_too_long.Goals as goal

pub returns-clause-ends : goal.returns-clause-ends
returns-clause-ends c = IfOk-weaker c.close.result _ _ (λ status closes. ends_too_long _ _ _ status closes) c.close.ensures.closes
