use Rattle.std.proofs.Common.{refl}
use Rattle.jt_region_bodies.specs.Regions.{polygon}
use Rattle.jt_region_bodies.proofs.polygon.judge_polygon.Goals as goal

pub returns : goal.returns
unfolding polygon
returns c =
    let id = rw c.new-reader.ensures at c.in_ok-dword.ensures.value in
    let attribute = rw (c.in_ok-dword.ensures.octets, c.new-reader.ensures) at c.in_ok-attribute.ensures.value in
    let times = rw (c.in_ok-attribute.ensures.octets, c.in_ok-dword.ensures.octets, c.new-reader.ensures) at c.in_ok-read_times.ensures.value in
    let limit = rw (c.in_ok-read_times.ensures.octets, c.in_ok-attribute.ensures.octets, c.in_ok-dword.ensures.octets, c.new-reader.ensures) at c.in_ok-read_limit.ensures.value in
    let count = rw (c.in_ok-read_limit.ensures.octets, c.in_ok-read_times.ensures.octets, c.in_ok-attribute.ensures.octets, c.in_ok-dword.ensures.octets, c.new-reader.ensures) at c.in_ok-count.ensures.value in
    let passed = rw (c.in_ok-count.ensures.octets, c.in_ok-read_limit.ensures.octets, c.in_ok-read_times.ensures.octets, c.in_ok-attribute.ensures.octets, c.in_ok-dword.ensures.octets, c.new-reader.ensures) at c.in_ok-pass.ensures.value.1 in
    let ended = rw (c.in_ok-pass.ensures.octets, c.in_ok-count.ensures.octets, c.in_ok-read_limit.ensures.octets, c.in_ok-read_times.ensures.octets, c.in_ok-attribute.ensures.octets, c.in_ok-dword.ensures.octets, c.new-reader.ensures) at c.in_ok-end.ensures in
    rw (id, attribute, times, limit, count, passed, ended) refl
