use Rattle.std.proofs.Common.{◌≡◌, drop, arith}
use Rattle.jt_text.proofs.Lines.{put_in_front, utf8_in_front, room_before}
use Rattle.jt_text.proofs.line.Line.put_copy.Goals as goal

pub invariant_of-self : goal.invariant_of-self
invariant_of-self c =
    let at = c.self.inside in
    let room = room_before at.start at.octets c.args.self.now c.self.told c.self.invariant.0 c.self.view_is in
    let same : c.copy_from_slice.new.self ≡ c.args.text.now = rw c.as_bytes.ensures.value at c.copy_from_slice.ensures.after in (
      omega arith,
      utf8_in_front c.args.text.now (drop at.start at.octets) _ (rw same (put_in_front at.octets c.args.text.now _ at.start (omega (arith, room)) (omega arith))) c.utf8.text c.self.invariant.1,
    )
