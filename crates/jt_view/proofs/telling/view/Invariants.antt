use Rattle.std.proofs.Common.{◌-◌, length, string_bytes}
use Rattle.jt_view.proofs.EntriesTold.{ViewingOn}
use Rattle.jt_view.proofs.telling.view.Given as goal

abbrev pub invariant-loop-at : goal.invariant-loop-at
invariant-loop-at l = ViewingOn l.initial.tally l.tally l.octets l.at (string_bytes l.initial.text) (string_bytes l.text)

abbrev pub decreases-loop-at : goal.decreases-loop-at
decreases-loop-at l = length l.octets - l.at
