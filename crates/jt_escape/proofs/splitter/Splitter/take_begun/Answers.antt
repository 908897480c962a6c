use Rattle.jt_escape.proofs.Runs.{begins}
use Rattle.jt_escape.proofs.splitter.Splitter.take_begun.Goals as goal

pub returns-clause-runs : goal.returns-clause-runs
returns-clause-runs c =
    c.take_kept.ensures.runs c.args.self.now
    (begins c.args.self.now c.open.new.self c.keep_all.new.self c.args.piece.now c.args.count c.requires.mode c.requires.short c.requires.within c.requires.flag c.requires.plain c.open.ensures c.keep_all.ensures)
