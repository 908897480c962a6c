use Rattle.std.proofs.Common.{◌≡◌, []}
use Rattle.jt_input.proofs.Runs.{RunsOn}
use Rattle.jt_input.proofs.running.run_teller.Given as goal

abbrev pub invariant-loop-count : goal.invariant-loop-count
invariant-loop-count g l =
    ((asked : g.row.T-Asked.Denot) → g.T.Teller.stands l.fn.teller asked [] []
    → RunsOn g.T.Teller.answer asked (g.T.Teller.stands l.teller) (g.S.Source.left l.fn.source) (g.S.Source.left l.source)
    (g.K.Sink.written l.fn.sink) (g.K.Sink.written l.sink))
    × g.T.Teller.can_take l.teller
    × (g.S.Source.faults l.source ≡ g.S.Source.faults l.fn.source)
    × (g.K.Sink.faults l.sink ≡ g.K.Sink.faults l.fn.sink)

abbrev pub decreases-loop-count : goal.decreases-loop-count
decreases-loop-count g l = g.T.Teller.room l.teller
