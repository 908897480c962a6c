use Rattle.std.proofs.Common.{drop, ap, length, arith, length-append}
use Rattle.std.specs.Fmt.{decimal}
use Rattle.jt_text.proofs.NamedValues.{short_number}
use Rattle.jt_text.proofs.Lines.{utf8_in_front, utf8_decimal, room_before}
use Rattle.jt_text.proofs.line.Line.put_number.Goals as goal

pub write_digits-self-inside-requires : goal.write_digits-self-inside-requires
write_digits-self-inside-requires c =
    let room = room_before c.self.inside.start c.self.inside.octets c.args.self.now c.self.told c.self.invariant.0 c.self.view_is in
    (omega (arith, room, short_number c.args.number (omega arith)), omega arith)

pub invariant_of-self : goal.invariant_of-self
invariant_of-self c = (
  omega (arith, c.write_digits-self-inside.ensures.start),
  utf8_in_front (decimal c.args.number) (drop c.self.inside.start c.self.inside.octets) _ c.write_digits-self-inside.ensures.written (utf8_decimal c.args.number (omega arith)) c.self.invariant.1,
)

pub returns-clause-room : goal.returns-clause-room
returns-clause-room c = omega (arith, ap length c.write_digits-self-inside.ensures.written, length-append (decimal c.args.number) (drop c.self.inside.start c.self.inside.octets), short_number c.args.number (omega arith), ap length c.self.view_is)
