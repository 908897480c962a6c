use Rattle.std.proofs.Common.{refl}
use Rattle.jt_codec.proofs.resend.judge_numbers.Goals as goal

pub returns : goal.returns
returns c =
    let first = rw c.new-reader.ensures at c.in_ok-word.ensures.value in
    let count = rw (c.in_ok-word.ensures.octets, c.new-reader.ensures) at c.in_ok-count.ensures.value in
    let passed = rw (c.in_ok-count.ensures.octets, c.in_ok-word.ensures.octets, c.new-reader.ensures) at c.in_ok-pass.ensures.value.1 in
    let ended = rw (c.in_ok-pass.ensures.octets, c.in_ok-count.ensures.octets, c.in_ok-word.ensures.octets, c.new-reader.ensures) at c.in_ok-end.ensures in
    rw (first, count, passed, ended) refl
