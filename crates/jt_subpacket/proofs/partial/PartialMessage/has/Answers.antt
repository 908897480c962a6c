use Rattle.std.proofs.Common.{◌∙◌}
use Rattle.jt_subpacket.proofs.Maps.{has_in}
use Rattle.jt_subpacket.proofs.partial.PartialMessage.has.Goals as goal

pub returns : goal.returns
returns c = c.contains_key.ensures ∙ has_in c.self.inside.key c.self.inside.pieces.entries c.args.self.now c.args.number c.self.view_is
