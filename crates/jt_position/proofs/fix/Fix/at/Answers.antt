use Rattle.std.proofs.Common.{refl, arith}
use Rattle.jt_position.specs.Positions.{position}
use Rattle.jt_position.specs.Fixes.{position_at}
use Rattle.jt_position.proofs.FixLaws.{at_fits, at_length, at_octets, reads_position}
use Rattle.jt_position.proofs.fix.Fix.at.Goals as goal

pub write_position-requires : goal.write_position-requires
write_position-requires c = rw c.new.ensures (at_fits c.args.lat (omega (arith, c.ranges.lat)))

pub invariant_of-result : goal.invariant_of-result
invariant_of-result c =
    let written = rw c.new.ensures at c.in_ok-write_position.ensures in
    let octets = position.spell (position_at c.args.lat) in
    rw written (omega (arith, at_length c.args.lat), at_octets c.args.lat, reads_position octets (position_at c.args.lat) (record { fits = at_fits c.args.lat (omega (arith, c.ranges.lat)); parts = refl }))
