use Rattle.jt_seats.proofs.Oldest.{OldestSoFar}
use Rattle.jt_seats.proofs.seats.Seats.oldest_stranger.Given as goal

abbrev pub invariant-loop-place : goal.invariant-loop-place
invariant-loop-place l = OldestSoFar l.self l.place l.oldest
