use Rattle.std.proofs.Common.{Some, ap, ◌∙◌}
use Rattle.jt_outside.specs.Link.{wire_of}
use Rattle.jt_agent.proofs.Concluding.{concluded_denied, concluded_late}
use Rattle.jt_agent.proofs.moving.conclude.Goals as goal

pub returns-in-Some-Denied-clause-concludes : goal.returns-in-Some-Denied-clause-concludes
returns-in-Some-Denied-clause-concludes g c =
    concluded_denied _ _ _ _ (wire_of g.K.Sink.inbound g.K.Sink.written g.K.Sink.faults c.args.link.now) (wire_of g.K.Sink.inbound g.K.Sink.written g.K.Sink.faults c.write_frames.new.sink) (c.in-Some-Denied.is ∙ ap Some c.in-Some-Denied.field-0-is) (rw c.as_slice.ensures at c.if-not-write_frames.ensures.octets)

pub returns-in-Some-TimedOut-clause-concludes : goal.returns-in-Some-TimedOut-clause-concludes
returns-in-Some-TimedOut-clause-concludes g c =
    concluded_late _ _ _ _ _ (wire_of g.K.Sink.inbound g.K.Sink.written g.K.Sink.faults c.args.link.now) (wire_of g.K.Sink.inbound g.K.Sink.written g.K.Sink.faults c.write_frames.new.sink) (c.in-Some-TimedOut.is ∙ ap Some c.in-Some-TimedOut.field-0-is) (rw c.as_slice.ensures at c.if-not-write_frames.ensures.octets)
