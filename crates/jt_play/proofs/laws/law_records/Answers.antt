use Rattle.jt_play.proofs.Counts.{each_line_opens, each_line_records}
use Rattle.jt_play.proofs.laws.law_records.Goals as goal

pub returns-clause-records : goal.returns-clause-records
returns-clause-records c = each_line_records

pub returns-clause-opens : goal.returns-clause-opens
returns-clause-opens c = each_line_opens
