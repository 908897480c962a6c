use Rattle.std.proofs.Common.{◌≡◌, ◌++◌, map, take, drop}
use Rattle.jt_value.specs.Sameness.{key_of}
use Rattle.jt_seats.specs.Seats.{dismissed}
use Rattle.jt_seats.proofs.seats.Seats.dismiss.Given as goal

abbrev pub invariant-loop-place : goal.invariant-loop-place
invariant-loop-place l = l.self ≡ map (dismissed (key_of l.phone)) (take l.place l.fn.self) ++ drop l.place l.fn.self
