use Rattle.std.proofs.Common.{◌≡◌}
use Rattle.jt_subpacket.specs.Steps.{missing_beside}
use Rattle.jt_subpacket.proofs.partial.PartialMessage.missing_beside.Given as goal

abbrev pub invariant-loop-before : goal.invariant-loop-before
invariant-loop-before l = l.missing ≡ missing_beside l.before l.self.pieces l.number
