use Rattle.std.proofs.Common.{◌≡◌, ◌≤◌, ◌<◌, ◌+◌, ◌-◌, ◌*◌}
use Rattle.std.specs.Option.{option_map}
use Rattle.jt_outside.specs.Link.{wire_of}
use Rattle.jt_platform.specs.Hub.{opening_of}
use Rattle.jt_session.specs.Serving.{Course}
use Rattle.jt_session.proofs.serving.converse.Given as goal

abbrev pub invariant-loop-read : goal.invariant-loop-read
invariant-loop-read g l = record {
  within : l.read ≤ l.octets;
  few : l.quiets < 3;
  still : g.K.Sink.faults l.link ≡ g.K.Sink.faults l.fn.link;
  course :
      Course (option_map (λ o. opening_of (g.P.Keeper.tables o.start) (g.P.Keeper.limit o.start) o.fleet o.secret) l.fn.pass.opening) l.fn.session l.session l.fn.pass l.pass (wire_of g.K.Sink.inbound g.K.Sink.written g.K.Sink.faults l.fn.link) (wire_of g.K.Sink.inbound g.K.Sink.written g.K.Sink.faults l.link) l.read l.written l.quiets;
}

abbrev pub decreases-loop-read : goal.decreases-loop-read
decreases-loop-read g l = (l.octets - l.read) * 4 + (3 - l.quiets)
