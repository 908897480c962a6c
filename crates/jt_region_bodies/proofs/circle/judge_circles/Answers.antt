use Rattle.std.proofs.Common.{refl}
use Rattle.jt_region_bodies.specs.Regions.{circles}
use Rattle.jt_region_bodies.proofs.circle.judge_circles.Goals as goal

pub returns : goal.returns
unfolding circles
returns c =
    let setting = rw c.new-reader.ensures at c.in_ok-byte.ensures.value in
    let count = rw (c.in_ok-byte.ensures.octets, c.new-reader.ensures) at c.in_ok-count.ensures.value in
    let passed = rw (c.in_ok-count.ensures.octets, c.in_ok-byte.ensures.octets, c.new-reader.ensures) at c.in_ok-pass.ensures.value.1 in
    let ended = rw (c.in_ok-pass.ensures.octets, c.in_ok-count.ensures.octets, c.in_ok-byte.ensures.octets, c.new-reader.ensures) at c.in_ok-end.ensures in
    rw (setting, count, passed, ended) refl
