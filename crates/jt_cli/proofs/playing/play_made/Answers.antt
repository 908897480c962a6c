use Rattle.std.proofs.Common.{ap, ◌∙◌}
use Rattle.jt_cli.specs.Script.{status_of}
use Rattle.jt_cli.proofs.ScriptRuns.{is_read_fault, is_write_fault, made_answers, made_kept, not_usage, without_links}
use Rattle.jt_cli.proofs.playing.play_made.Goals as goal

pub returns-clause-answers : goal.returns-clause-answers
returns-clause-answers g c = made_answers _ _ _ _ _ c.status_of.ensures c.make.ensures.makes

pub returns-clause-kept : goal.returns-clause-kept
returns-clause-kept g c = made_kept _ _ _ _ _ c.status_of.ensures c.make.ensures.makes

pub returns-clause-not_read_fault : goal.returns-clause-not_read_fault
returns-clause-not_read_fault g c = λ e. c.make.ensures.no_read_fault (is_read_fault _ _ c.status_of.ensures e)

pub returns-clause-write_fault : goal.returns-clause-write_fault
returns-clause-write_fault g c = λ e. c.make.ensures.write_fault (is_write_fault _ _ c.status_of.ensures e)

pub returns-clause-not_usage : goal.returns-clause-not_usage
returns-clause-not_usage g c = not_usage _ _ c.status_of.ensures

pub returns-clause-without_links : goal.returns-clause-without_links
returns-clause-without_links g c = without_links _ _ c.status_of.ensures

pub returns-clause-write_still : goal.returns-clause-write_still
returns-clause-write_still g c = λ other. c.make.ensures.write_still (λ is. other (c.status_of.ensures ∙ ap status_of is))
