use Rattle.jt_escape.proofs.Runs.{Runs-none}
use Rattle.jt_escape.proofs.splitter.Splitter.take_some.Goals as goal

pub returns-in-Outside-clause-runs : goal.returns-in-Outside-clause-runs
returns-in-Outside-clause-runs c = c.take_behind.ensures.runs _ (Runs-none _)
