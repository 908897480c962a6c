use Rattle.std.proofs.Common.{drop, arith}
use Rattle.hex.specs.Hex.{encode_lower}
use Rattle.jt_text.proofs.HexPieces.{utf8_digits}
use Rattle.jt_text.proofs.Lines.{utf8_in_front, room_before}
use Rattle.jt_text.proofs.line.Line.put_digits.Goals as goal

pub write_pairs-self-inside-requires : goal.write_pairs-self-inside-requires
write_pairs-self-inside-requires c =
    let room = room_before c.self.inside.start c.self.inside.octets c.args.self.now c.self.told c.self.invariant.0 c.self.view_is in
    (omega (arith, room), omega arith)

pub invariant_of-self : goal.invariant_of-self
invariant_of-self c = (
  omega (arith, c.write_pairs-self-inside.ensures.start),
  utf8_in_front (encode_lower c.args.octets.now) (drop c.self.inside.start c.self.inside.octets) _ c.write_pairs-self-inside.ensures.written (utf8_digits c.args.octets.now) c.self.invariant.1,
)
