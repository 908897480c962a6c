use Rattle.std.proofs.Common.{ap, arith, length}
use Rattle.jt_escape.specs.Scan.{State}
use Rattle.jt_escape.proofs.Runs.{kept_runs}
use Rattle.jt_escape.proofs.splitter.Splitter.keep_run.Goals as goal

pub returns-clause-runs : goal.returns-clause-runs
returns-clause-runs c =
    let held = ap (λ (state : State). length state.content) c.self.view_is in
    kept_runs c.args.self.now c.keep_all.new.self c.args.octets.now c.plain_len-run.result _ c.requires.mode c.plain_len-run.ensures.plain c.plain_len-run.ensures.within (omega arith)
    (omega (arith, held)) c.keep_all.ensures
