use Rattle.std.proofs.Common.{arith}
use Rattle.jt_text.proofs.Lines.{pair_at}
use Rattle.jt_text.proofs.line.digits.Goals as goal

pub returns : goal.returns
returns c = pair_at c.args.octet (omega arith)
