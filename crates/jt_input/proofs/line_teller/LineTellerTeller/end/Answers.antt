use Rattle.std.proofs.Common.{ap, ◌+◌, ℕ}
use Rattle.jt_input.proofs.LinesHeard.{both_ok, ends_whole, ends_line, ends_with}
use Rattle.jt_input.proofs.line_teller.LineTellerTeller.end.Goals as goal

pub returns-in-None-clause-ends : goal.returns-in-None-clause-ends
returns-in-None-clause-ends g c =
    both_ok c.close.result _ _ _
    (λ status closes can. ends_with c.law_lines.ensures.front _ _ _ _ _ _ _ _ _ status can (ends_whole c.law_lines.ensures.front _ _ _ _ _ _ _ status c.in-None.ensures.lines closes))
    c.close.ensures.closes c.close.ensures.can

pub returns-in-Next-clause-ends : goal.returns-in-Next-clause-ends
returns-in-Next-clause-ends g c =
    let hears = rw (c.in-Next.is) at c.in_ok-hear-in-Some.ensures.hears in
    both_ok c.close-in-Next.result _ _ _
    (λ status closes can. ends_with c.law_lines.ensures.front _ _ _ _ _ _ _ _ _ status can
    (ends_line c.law_lines.ensures.front _ _ _ _ _ _ _ _ _ _ _ status c.in-Some.ensures.lines (ap (λ (n : ℕ). n + 1) c.number-number.ensures.number) hears closes))
    c.close-in-Next.ensures.closes c.close-in-Next.ensures.can
