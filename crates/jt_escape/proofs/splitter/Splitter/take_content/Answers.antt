use Rattle.jt_escape.proofs.splitter.Splitter.take_content.Goals as goal

pub returns-clause-runs : goal.returns-clause-runs
returns-clause-runs c = c.take_behind.ensures.runs _ c.keep_content-run.ensures.runs
