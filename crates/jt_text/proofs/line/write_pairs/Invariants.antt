use Rattle.std.proofs.Common.{◌≡◌, ◌+◌, ◌*◌, ◌≤◌, ◌++◌, length, drop}
use Rattle.hex.specs.Hex.{encode_lower}
use Rattle.jt_text.proofs.line.write_pairs.Given as goal

abbrev pub invariant-loop-left : goal.invariant-loop-left
invariant-loop-left l =
    record { within : l.left ≤ length l.octets; start : l.at + 2 * length l.octets ≡ l.end + 2 * l.left; written : drop l.at l.room ≡ encode_lower (drop l.left l.octets) ++ drop l.end l.fn.room }

abbrev pub decreases-loop-left : goal.decreases-loop-left
decreases-loop-left l = l.left
