use Rattle.std.proofs.Common.{◌≡◌, length}
use Rattle.std.specs.Prelude.{fold, bit_xor}
use Rattle.jt_escape.specs.Frame.{check_of}
use Rattle.jt_escape.proofs.framing.check.Given as goal

abbrev pub invariant-loop-left : goal.invariant-loop-left
invariant-loop-left l = bit_xor (fold bit_xor 0 l.lanes) (check_of l.left) ≡ check_of l.octets

abbrev pub decreases-loop-left : goal.decreases-loop-left
decreases-loop-left l = length l.left
