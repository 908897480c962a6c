use Rattle.std.proofs.Common.{◌+◌, sym}
use Rattle.jt_script.proofs.WordsOfLines.{at_space, no_space, rest_is}
use Rattle.jt_script.proofs.cutting.first_word.Goals as goal

pub returns-in-Some : goal.returns-in-Some
returns-in-Some c = rw (rest_is c.args.line.now (c.in-Some.space + 1)) (at_space c.args.line.now c.in-Some.space (sym c.in-Some.ensures))

pub returns-in-None : goal.returns-in-None
returns-in-None c = no_space c.args.line.now (sym c.in-None.ensures)
