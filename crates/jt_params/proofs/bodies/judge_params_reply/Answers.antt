use Rattle.std.proofs.Common.{refl}
use Rattle.jt_params.specs.Params.{params_reply}
use Rattle.jt_params.proofs.bodies.judge_params_reply.Goals as goal

pub returns : goal.returns
unfolding params_reply
returns c =
    let reply = rw c.new-reader.ensures at c.in_ok-word.ensures.value in
    let count = rw (c.in_ok-word.ensures.octets, c.new-reader.ensures) at c.in_ok-count.ensures.value in
    let passed = rw (c.in_ok-count.ensures.octets, c.in_ok-word.ensures.octets, c.new-reader.ensures) at c.in_ok-pass.ensures.value.1 in
    let ended = rw (c.in_ok-pass.ensures.octets, c.in_ok-count.ensures.octets, c.in_ok-word.ensures.octets, c.new-reader.ensures) at c.in_ok-end.ensures in
    rw (reply, count, passed, ended) refl
