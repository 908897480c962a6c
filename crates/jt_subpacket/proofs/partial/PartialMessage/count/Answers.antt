use Rattle.std.proofs.Common.{◌∙◌}
use Rattle.jt_subpacket.proofs.Maps.{len_in}
use Rattle.jt_subpacket.proofs.partial.PartialMessage.count.Goals as goal

pub returns : goal.returns
returns c = c.len.ensures.len ∙ len_in c.self.inside.key c.self.inside.pieces.entries c.args.self.now c.len.ensures.ordered c.self.view_is
