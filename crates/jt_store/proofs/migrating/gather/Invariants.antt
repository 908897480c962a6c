use Rattle.std.proofs.Common.{◌≡◌, take, ℕ, List}
use Rattle.jt_store.specs.Memory.{under}
use Rattle.jt_store.specs.Places.{places_in}
use Rattle.jt_store.proofs.migrating.gather.Given as goal

abbrev pub invariant-loop-place : goal.invariant-loop-place
invariant-loop-place l = (q : List ℕ) → under l.places.entries q ≡ places_in (take l.place l.old) q
