use Rattle.std.proofs.Common.{sym, ap, ◌∙◌}
use Rattle.std.specs.Prelude.{option_copied}
use Rattle.jt_subpacket.proofs.Maps.{piece_some, piece_none}
use Rattle.jt_subpacket.proofs.partial.PartialMessage.piece.Goals as goal

pub returns-in-Some : goal.returns-in-Some
returns-in-Some c = c.as_slice.ensures ∙ piece_some c.self.inside.key c.self.inside.pieces.entries c.args.self.now c.args.number c.in-Some.octets.now c.self.view_is (sym (ap option_copied c.in-Some.is) ∙ c.get.ensures.value)

pub returns-in-None : goal.returns-in-None
returns-in-None c = piece_none c.self.inside.key c.self.inside.pieces.entries c.args.self.now c.args.number c.self.view_is (sym (ap option_copied c.in-None.is) ∙ c.get.ensures.value)
