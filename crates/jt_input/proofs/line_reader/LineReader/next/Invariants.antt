use Rattle.std.proofs.Common.{◌≡◌, ◌+◌, ◌*◌, length, nat_eq, if◌then◌else◌}
use Rattle.jt_input.specs.Cutter.{room_of}
use Rattle.jt_input.specs.Cutting.{ReadsOn}
use Rattle.jt_input.proofs.line_reader.LineReader.next.Given as goal

abbrev pub invariant-loop-self : goal.invariant-loop-self
invariant-loop-self g l = ReadsOn l.fn.self l.self (g.S.Source.left l.fn.source) (g.S.Source.left l.source) × (g.S.Source.faults l.source ≡ g.S.Source.faults l.fn.source)

abbrev pub decreases-loop-self : goal.decreases-loop-self
decreases-loop-self g l = room_of l.self.held * 2 + (if nat_eq (length l.self.ahead) 0 then 1 else 0)
