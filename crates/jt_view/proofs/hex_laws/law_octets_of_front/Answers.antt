use Rattle.jt_view.proofs.HexDigits.{front_octets}
use Rattle.jt_view.proofs.hex_laws.law_octets_of_front.Goals as goal

pub returns : goal.returns
returns c = front_octets
