use Rattle.jt_escape.proofs.Octets.{octets_held}
use Rattle.jt_escape.proofs.laws.law_octets.Goals as goal

pub returns : goal.returns
returns c = octets_held
