use Rattle.std.proofs.Common.{◌≡◌, ◌+◌, ◌≤◌, ◌++◌, length, drop}
use Rattle.jt_text.proofs.line.write_octets.Given as goal

abbrev pub invariant-loop-left : goal.invariant-loop-left
invariant-loop-left l =
    record { within : l.left ≤ length l.text; start : l.at + length l.text ≡ l.end + l.left; written : drop l.at l.room ≡ drop l.left l.text ++ drop l.end l.fn.room }

abbrev pub decreases-loop-left : goal.decreases-loop-left
decreases-loop-left l = l.left
