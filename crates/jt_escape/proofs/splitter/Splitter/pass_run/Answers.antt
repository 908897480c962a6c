use Rattle.jt_escape.proofs.Runs.{passed_runs}
use Rattle.jt_escape.proofs.splitter.Splitter.pass_run.Goals as goal

pub returns-clause-runs : goal.returns-clause-runs
returns-clause-runs c = passed_runs _ _ _ c.requires.mode c.flagless_len-run.ensures.none c.pass_all.ensures
