use Rattle.std.proofs.Common.{refl}
use Rattle.jt_region_bodies.specs.Regions.{route}
use Rattle.jt_region_bodies.proofs.route.judge_route.Goals as goal

pub returns : goal.returns
unfolding route
returns c =
    let id = rw c.new-reader.ensures at c.in_ok-dword.ensures.value in
    let attribute = rw (c.in_ok-dword.ensures.octets, c.new-reader.ensures) at c.in_ok-attribute.ensures.value in
    let times = rw (c.in_ok-attribute.ensures.octets, c.in_ok-dword.ensures.octets, c.new-reader.ensures) at c.in_ok-read_times.ensures.value in
    let count = rw (c.in_ok-read_times.ensures.octets, c.in_ok-attribute.ensures.octets, c.in_ok-dword.ensures.octets, c.new-reader.ensures) at c.in_ok-count.ensures.value in
    let passed = rw (c.in_ok-count.ensures.octets, c.in_ok-read_times.ensures.octets, c.in_ok-attribute.ensures.octets, c.in_ok-dword.ensures.octets, c.new-reader.ensures) at c.in_ok-pass.ensures.value.1 in
    let ended = rw (c.in_ok-pass.ensures.octets, c.in_ok-count.ensures.octets, c.in_ok-read_times.ensures.octets, c.in_ok-attribute.ensures.octets, c.in_ok-dword.ensures.octets, c.new-reader.ensures) at c.in_ok-end.ensures in
    rw (id, attribute, times, count, passed, ended) refl
