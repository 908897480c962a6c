use Rattle.std.proofs.Common.{arith}
use Rattle.jt_text.proofs.Lines.{no_text, utf8_none}
use Rattle.jt_text.proofs.line.Line.clear.Goals as goal

pub invariant_of-self : goal.invariant_of-self
invariant_of-self c = (omega arith, utf8_none c.self.inside.octets c.self.told)

pub returns : goal.returns
returns c = no_text c.self.inside.octets c.self.told
