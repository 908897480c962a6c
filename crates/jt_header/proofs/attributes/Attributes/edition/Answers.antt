use Rattle.std.proofs.Common.{sym}
use Rattle.jt_header.proofs.Bits.{bit_14_clear, bit_14_set}
use Rattle.jt_header.proofs.attributes.Attributes.edition.Goals as goal

pub returns-then-self-ne0 : goal.returns-then-self-ne0
returns-then-self-ne0 c = sym (bit_14_set c.args.self.0 c.if-self-ne0.true)

pub returns-else-self-ne0 : goal.returns-else-self-ne0
returns-else-self-ne0 c = sym (bit_14_clear c.args.self.0 c.if-self-ne0.false)
