use Rattle.std.proofs.Common.{ap, ◌∙◌}
use Rattle.jt_cli.specs.Script.{status_of}
use Rattle.jt_cli.proofs.ScriptRuns.{is_done, is_read_fault, is_write_fault, not_usage, runs_script, runs_whole, without_links}
use Rattle.jt_cli.proofs.playing.play.Goals as goal

pub returns-clause-runs : goal.returns-clause-runs
returns-clause-runs g c = runs_script _ _ _ _ _ _ c.status_of.ensures c.rehearse.ensures.rehearses

pub returns-clause-whole : goal.returns-clause-whole
returns-clause-whole g c = runs_whole _ _ _ _ _ c.status_of.ensures c.rehearse.ensures.whole

pub returns-clause-prints_taken : goal.returns-clause-prints_taken
returns-clause-prints_taken g c = λ e. c.rehearse.ensures.prints_taken (is_read_fault _ _ c.status_of.ensures e)

pub returns-clause-stops_at_write : goal.returns-clause-stops_at_write
returns-clause-stops_at_write g c = λ e. c.rehearse.ensures.stops_at_write (is_write_fault _ _ c.status_of.ensures e)

pub returns-clause-to_the_end : goal.returns-clause-to_the_end
returns-clause-to_the_end g c = λ e. c.rehearse.ensures.to_the_end (is_done _ _ c.status_of.ensures e)

pub returns-clause-read_fault : goal.returns-clause-read_fault
returns-clause-read_fault g c = λ e. c.rehearse.ensures.read_fault (is_read_fault _ _ c.status_of.ensures e)

pub returns-clause-write_fault : goal.returns-clause-write_fault
returns-clause-write_fault g c = λ e. c.rehearse.ensures.write_fault (is_write_fault _ _ c.status_of.ensures e)

pub returns-clause-not_usage : goal.returns-clause-not_usage
returns-clause-not_usage g c = not_usage _ _ c.status_of.ensures

pub returns-clause-without_links : goal.returns-clause-without_links
returns-clause-without_links g c = without_links _ _ c.status_of.ensures

pub returns-clause-read_still : goal.returns-clause-read_still
returns-clause-read_still g c = λ other. c.rehearse.ensures.read_still (λ is. other (c.status_of.ensures ∙ ap status_of is))

pub returns-clause-write_still : goal.returns-clause-write_still
returns-clause-write_still g c = λ other. c.rehearse.ensures.write_still (λ is. other (c.status_of.ensures ∙ ap status_of is))
