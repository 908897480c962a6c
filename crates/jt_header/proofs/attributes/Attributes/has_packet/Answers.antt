use Rattle.jt_header.proofs.Bits.{bit_13}
use Rattle.jt_header.proofs.attributes.Attributes.has_packet.Goals as goal

pub returns : goal.returns
returns c = bit_13 c.args.self.0
