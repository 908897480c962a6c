use Rattle.std.proofs.Common.{refl}
use Rattle.jt_region_bodies.specs.Regions.{deletion}
use Rattle.jt_region_bodies.proofs.deletion.judge_deletion.Goals as goal

pub returns : goal.returns
unfolding deletion
returns c =
    let count = rw c.new-reader.ensures at c.in_ok-count.ensures.value in
    let passed = rw (c.in_ok-count.ensures.octets, c.new-reader.ensures) at c.in_ok-pass.ensures.value.1 in
    let ended = rw (c.in_ok-pass.ensures.octets, c.in_ok-count.ensures.octets, c.new-reader.ensures) at c.in_ok-end.ensures in
    rw (count, passed, ended) refl
