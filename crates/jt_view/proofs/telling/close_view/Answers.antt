use Rattle.std.proofs.Common.{refl, arith}
use Rattle.jt_view.proofs.Closings.{closed_view}
use Rattle.jt_view.proofs.telling.close_view.Goals as goal

pub returns-clause-closes : goal.returns-clause-closes
returns-clause-closes c =
    rw c.status_of.ensures.value
    (closed_view _ c.finish-end.result _ _ _ c.finish-end.ensures
    (omega (arith, c.refused.ensures.value, c.end_refusals.ensures.value))
    (rw (c.in_ok-push_counts_line.ensures, c.in_ok-push_end.ensures, c.frames.ensures) refl))
