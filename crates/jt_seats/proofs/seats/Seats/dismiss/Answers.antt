use Rattle.std.proofs.Common.{◌≡◌, ◌≤◌, length, map, arith}
use Rattle.jt_value.specs.Sameness.{key_of}
use Rattle.jt_seats.specs.Seats.{dismissed}
use Rattle.jt_seats.proofs.Counting.{dismissed_all, strangers_dismissed}
use Rattle.jt_seats.proofs.seats.Seats.dismiss.Goals as goal

pub returns-clause-strangers : goal.returns-clause-strangers
returns-clause-strangers c =
    let past : length c.args.self.now ≤ c.loop-place.place = omega (arith, c.len-place-end.ensures, c.loop-place-test.false) in
    let whole : c.loop-place.self ≡ map (dismissed (key_of c.args.phone.now)) c.args.self.now
    = dismissed_all (key_of c.args.phone.now) c.args.self.now c.loop-place.self c.loop-place.place past c.loop-place.invariant in
    rw whole (strangers_dismissed (key_of c.args.phone.now) c.args.self.now)
