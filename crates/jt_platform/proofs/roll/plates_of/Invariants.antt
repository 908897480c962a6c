use Rattle.std.proofs.Common.{◌≡◌, ◌||◌, drop, ℕ, List}
use Rattle.jt_platform.specs.Allowed.{has_plate}
use Rattle.jt_platform.proofs.roll.plates_of.Given as goal

abbrev pub invariant-loop-one : goal.invariant-loop-one
invariant-loop-one l = (q : List ℕ) → (has_plate l.names q || has_plate (drop l.one-index l.one-items) q) ≡ has_plate l.plates q
