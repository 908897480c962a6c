use Rattle.std.proofs.Common.{◌≡◌}
use Rattle.jt_subpacket.specs.Steps.{joined_beside}
use Rattle.jt_subpacket.proofs.partial.PartialMessage.joined_beside.Given as goal

abbrev pub invariant-loop-before : goal.invariant-loop-before
invariant-loop-before l = l.whole.items ≡ joined_beside l.before l.self.pieces l.number l.body
