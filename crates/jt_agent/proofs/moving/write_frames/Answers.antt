use Rattle.jt_agent.proofs.Concluding.{frames_part}
use Rattle.jt_agent.proofs.moving.write_frames.Goals as goal

pub returns-then-not-write_all-clause-octets : goal.returns-then-not-write_all-clause-octets
returns-then-not-write_all-clause-octets g c =
    frames_part c.args.frames.now c.loop-frame.frame-index c.frame-item.result _ _ _ c.loop-frame-test.true c.frame-item.is c.loop-frame.invariant.0
    (rw c.as_slice.ensures at c.if-not-write_all.ensures.octets)
