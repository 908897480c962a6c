use Rattle.std.proofs.Common.{ℕ, List, ◌∷◌, sym, ap, ◌∙◌}
use Rattle.jt_order_command.specs.Lines.{issue_of}
use Rattle.jt_order_command.proofs.Wording.{three_words}
use Rattle.jt_order_command.proofs.reading.behind_id.Goals as goal

pub returns-in_default-Some : goal.returns-in_default-Some
returns-in_default-Some c =
    let id = c.args.id.now in
    sym (ap (λ (ws : List (List ℕ)). issue_of (id ∷ ws)) (rw c.in_default-Some.is-1 at c.first_word.ensures)
    ∙ three_words c.in_default-Some.field-0-1.now id c.first_word.result.0.now)
