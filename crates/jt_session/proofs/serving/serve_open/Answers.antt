use Rattle.std.proofs.Common.{[], sym, subst}
use Rattle.std.specs.Option.{option_map}
use Rattle.std.proofs.lemmas.List.Elements.{All-nil}
use Rattle.jt_escape.specs.Span.{IsContent}
use Rattle.jt_outside.specs.Link.{wire_of}
use Rattle.jt_platform.specs.Hub.{opening_of}
use Rattle.jt_session.specs.declared.end.End.TheVariants as ends
use Rattle.jt_session.specs.Serving.{ServesUpTo}
use Rattle.jt_session.proofs.Closing.{none_served, served_up_to}
use Rattle.jt_session.proofs.serving.serve_open.Goals as goal

pub returns-in_default-clause-serves : goal.returns-in_default-clause-serves
returns-in_default-clause-serves g c =
    subst (λ n. ServesUpTo (option_map (λ o. opening_of (g.P.Keeper.tables o.start) (g.P.Keeper.limit o.start) o.fleet o.secret) c.args.pass.now.opening) c.args.octets c.args.pass.now c.args.pass.now (wire_of g.K.Sink.inbound g.K.Sink.written g.K.Sink.faults c.args.link.now) (wire_of g.K.Sink.inbound g.K.Sink.written g.K.Sink.faults c.args.link.now) (record { session = n; read = 0; written = 0; frames = 0; refused = 0; dropped = 0; end = ends.Memory })) (sym c.number-number.ensures)
    (none_served (c.law_frames.ensures.frames [] (All-nil IsContent)) (option_map (λ o. opening_of (g.P.Keeper.tables o.start) (g.P.Keeper.limit o.start) o.fleet o.secret) c.args.pass.now.opening) c.args.octets c.args.pass.now (wire_of g.K.Sink.inbound g.K.Sink.written g.K.Sink.faults c.args.link.now))

pub returns-clause-serves : goal.returns-clause-serves
returns-clause-serves g c =
    served_up_to (option_map (λ o. opening_of (g.P.Keeper.tables o.start) (g.P.Keeper.limit o.start) o.fleet o.secret) c.args.pass.now.opening) c.args.octets c.args.pass.now c.converse-course.new.pass (wire_of g.K.Sink.inbound g.K.Sink.written g.K.Sink.faults c.args.link.now) (wire_of g.K.Sink.inbound g.K.Sink.written g.K.Sink.faults c.converse-course.new.link)
    (record { session = c.number-number.result; read = c.converse-course.result.read; written = c.converse-course.result.written; frames = c.counts-frames.result.frames; refused = c.counts-frames.result.refused; dropped = c.counts-frames.result.dropped; end = c.converse-course.result.end })
    (c.law_frames.ensures.frames [] (All-nil IsContent)) c.in-Ok.session c.converse-course.new.session
    (record { state = c.in-Ok.ensures.state; stream = c.in-Ok.ensures.stream; waiting = c.in-Ok.ensures.waiting; over = c.in-Ok.ensures.over })
    c.converse-course.ensures.waiting c.converse-course.ensures.converses c.number-number.ensures c.counts-frames.ensures
