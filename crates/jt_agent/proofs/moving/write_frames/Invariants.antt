use Rattle.std.proofs.Common.{◌≡◌, take}
use Rattle.std.specs.Io.KnownBytes.{Appends}
use Rattle.std.specs.List.{flat_map}
use Rattle.jt_agent.proofs.moving.write_frames.Given as goal

abbrev pub invariant-loop-frame : goal.invariant-loop-frame
invariant-loop-frame g l =
    Appends (g.K.Sink.written l.fn.sink) (g.K.Sink.written l.sink) (flat_map (λ frame. frame) (take l.frame-index l.frames))
    × (g.K.Sink.faults l.sink ≡ g.K.Sink.faults l.fn.sink)
    × (g.K.Sink.inbound l.sink ≡ g.K.Sink.inbound l.fn.sink)
