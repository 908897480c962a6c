use Rattle.std.proofs.Common.{length, string_bytes}
use Rattle.jt_input.proofs.LinesHeard.{TakenSoFar}
use Rattle.jt_input.proofs.line_teller.LineTellerTeller.take.Given as goal

abbrev pub invariant-loop-taken : goal.invariant-loop-taken
invariant-loop-taken g l =
    TakenSoFar g.H.Hearer.outcome l.fn.self.hearer l.self.hearer l.fn.self.cutter l.self.cutter l.fn.self.bad l.self.bad l.piece l.rest (string_bytes l.fn.text) (string_bytes l.text)
    × g.H.Hearer.can_hear l.self.hearer

abbrev pub decreases-loop-taken : goal.decreases-loop-taken
decreases-loop-taken g l = length l.rest
