use Rattle.jt_input.proofs.Lines.{lines_of-front, lines_of-unfinished}
use Rattle.jt_input.proofs.laws.law_lines.Goals as goal

pub returns-clause-front : goal.returns-clause-front
returns-clause-front c = lines_of-front

pub returns-clause-unfinished : goal.returns-clause-unfinished
returns-clause-unfinished c = lines_of-unfinished
