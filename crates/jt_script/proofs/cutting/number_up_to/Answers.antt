use Rattle.std.proofs.Common.{arith}
use Rattle.jt_script.proofs.WordsOfLines.{number_is}
use Rattle.jt_script.proofs.cutting.number_up_to.Goals as goal

pub returns : goal.returns
returns c = number_is _ _ _ (omega arith) c.number.ensures
