-- Lines of attempts, one more at a time.
use Rattle.std.proofs.Common.{◌≡◌, ℕ, ◌+◌, ◌∙◌, List, [], ◌∷◌, ◌++◌, ap, sym, length, append_assoc, append-nil, arith}
use Rattle.jt_agent.specs.declared.ending.AttemptEnd.{AttemptEnd}
use Rattle.jt_report_command.specs.Report.{try_line, try_lines}

-- the line of one more attempt stands behind the others
pub one_more : (number : ℕ) (ends : List AttemptEnd) (end : AttemptEnd) →
    try_lines number (ends ++ end ∷ []) ≡ try_lines number ends ++ try_line (number + length ends) end
one_more number [] end =
    let same : number ≡ number + 0 = omega arith in
    append-nil (try_line number end) ∙ ap (λ n. try_line n end) same
one_more number (first ∷ ends) end =
    let same : (number + 1) + length ends ≡ number + length (first ∷ ends) = omega arith in
    ap (λ more. try_line number first ++ more) (one_more (number + 1) ends end ∙ ap (λ n. try_lines (number + 1) ends ++ try_line n end) same)
    ∙ sym (append_assoc (try_line number first) (try_lines (number + 1) ends) (try_line (number + length (first ∷ ends)) end))
