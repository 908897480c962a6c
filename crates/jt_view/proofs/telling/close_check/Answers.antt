use Rattle.std.proofs.Common.{sym, ◌∙◌}
use Rattle.jt_view.proofs.Closings.{closed_check_refused, closed_check_ok}
use Rattle.jt_view.proofs.telling.close_check.Goals as goal

pub returns-in_ok-push_refusal_line-in-Some-clause-closes : goal.returns-in_ok-push_refusal_line-in-Some-clause-closes
returns-in_ok-push_refusal_line-in-Some-clause-closes c =
    closed_check_refused _ c.in-Some.refusal _ _ (λ octets counts. sym c.in-Some.is ∙ c.finish.ensures octets counts) c.in_ok-push_refusal_line-in-Some.ensures.text

pub returns-in_ok-push_ok_line-in-None-clause-closes : goal.returns-in_ok-push_ok_line-in-None-clause-closes
returns-in_ok-push_ok_line-in-None-clause-closes c =
    closed_check_ok _ _ _ (λ octets counts. sym c.in-None.is ∙ c.finish.ensures octets counts) (rw c.frames.ensures at c.in_ok-push_ok_line-in-None.ensures)
