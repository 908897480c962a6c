use Rattle.jt_world.proofs.Complete.{made_whole}
use Rattle.jt_world.proofs.Lasts.{made_is, made_last, script_lines}
use Rattle.jt_world.proofs.laws.law_make.Goals as goal

pub returns-clause-script : goal.returns-clause-script
returns-clause-script c = script_lines c.law_lines.ensures.front

pub returns-clause-made : goal.returns-clause-made
returns-clause-made c = λ count few. made_is count (script_lines c.law_lines.ensures.front count few)

pub returns-clause-last : goal.returns-clause-last
returns-clause-last c = made_last

pub returns-clause-whole : goal.returns-clause-whole
returns-clause-whole c = λ count few. (made_whole c.law_records.ensures.records c.law_records.ensures.opens count few).0

pub returns-clause-recorded : goal.returns-clause-recorded
returns-clause-recorded c = λ count few. (made_whole c.law_records.ensures.records c.law_records.ensures.opens count few).1
