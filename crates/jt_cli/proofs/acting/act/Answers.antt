use Rattle.jt_cli.proofs.ScriptRuns.{makes, plays}
use Rattle.jt_cli.proofs.Telling.{tells}
use Rattle.jt_cli.proofs.acting.act.Goals as goal

pub returns-in-Tell-clause-acts : goal.returns-in-Tell-clause-acts
returns-in-Tell-clause-acts g c =
    tells _ _ _ _ _ _ _ c.in-Tell.is c.report.ensures.runs c.report.ensures.whole c.report.ensures.no_further c.report.ensures.prints_taken
    c.report.ensures.stops_at_write c.report.ensures.to_the_end

pub returns-in-Rehearse-clause-acts : goal.returns-in-Rehearse-clause-acts
returns-in-Rehearse-clause-acts g c =
    plays _ _ _ _ _ _ c.in-Rehearse.is c.play.ensures.runs c.play.ensures.whole c.play.ensures.no_further c.play.ensures.prints_taken
    c.play.ensures.stops_at_write c.play.ensures.to_the_end c.play.ensures.without_links

pub returns-in-Make-clause-acts : goal.returns-in-Make-clause-acts
returns-in-Make-clause-acts g c =
    makes _ _ _ _ _ _ c.in-Make.is c.play_made.ensures.answers c.play_made.ensures.kept c.play_made.ensures.not_read_fault c.play_made.ensures.without_links
