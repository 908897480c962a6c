use Rattle.std.proofs.Common.{◌∙◌}
use Rattle.jt_outside.proofs.Moved.{front_more}
use Rattle.jt_outside.proofs.sink.write_front.Goals as goal

pub loop-done-preserved : goal.loop-done-preserved
loop-done-preserved g c =
    let so_far = c.loop-done.invariant in
    let took = c.in-Count.ensures.octets in
    let more = front_more (g.K.Sink.written c.args.sink.now) (g.K.Sink.written c.loop-done.sink) (g.K.Sink.written c.write.new.self) c.loop-done.done c.in-Count.count c.args.octets.now so_far.0 took.1 so_far.1 took.2 in
    (more.0, more.1, c.in-Count.ensures.cause.still (λ e. absurd (let f = e in cc)) ∙ so_far.2, c.in-Count.ensures.inbound ∙ so_far.3)
