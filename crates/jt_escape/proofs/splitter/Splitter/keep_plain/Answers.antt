use Rattle.jt_escape.proofs.Runs.{Runs-onward}
use Rattle.jt_escape.proofs.splitter.Splitter.keep_plain.Goals as goal

pub returns-clause-runs : goal.returns-clause-runs
returns-clause-runs c = Runs-onward c.args.self.now c.keep_run-run.new.self _ c.args.octets.now c.keep_run-run.result c.keep_near.result _ c.keep_run-run.ensures.runs c.keep_near.ensures.runs
