use Rattle.std.proofs.lemmas.Result.{IfOk-weaker}
use Rattle.jt_view.proofs.PiecesTaken.{ended}
use Rattle.jt_view.proofs.reporter.ReporterTeller.end.Goals as goal

pub returns-clause-ends : goal.returns-clause-ends
returns-clause-ends c = IfOk-weaker c.close.result _ _ (λ status closes. ended _ c.args.self.now _ _ _ status c.closing.ensures closes) c.close.ensures.closes
