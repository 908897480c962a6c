use Rattle.std.proofs.Common.{◌≡◌, ◌++◌, drop, arith}
use Rattle.jt_text.proofs.Lines.{utf8_in_front}
use Rattle.jt_text.proofs.line.Line.put_str.Goals as goal

pub invariant_of-self : goal.invariant_of-self
invariant_of-self c =
    let at = c.self.inside in
    let put : drop c.write_octets-self-inside.result c.write_octets-self-inside.new.room ≡ c.args.text.now ++ drop at.start at.octets = rw c.as_bytes.ensures.value at c.write_octets-self-inside.ensures.written in
    (omega arith, utf8_in_front c.args.text.now (drop at.start at.octets) _ put c.utf8.text c.self.invariant.1)
