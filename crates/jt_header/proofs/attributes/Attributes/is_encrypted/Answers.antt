use Rattle.jt_header.proofs.Bits.{bits_10_to_12}
use Rattle.jt_header.proofs.attributes.Attributes.is_encrypted.Goals as goal

pub returns : goal.returns
returns c = bits_10_to_12 c.args.self.0
