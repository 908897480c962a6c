use Rattle.std.proofs.Common.{ℕ, List, ◌∷◌, sym, ap, ◌∙◌}
use Rattle.jt_script.specs.EventLines.{event_of}
use Rattle.jt_script.proofs.WordsOfLines.{four_words}
use Rattle.jt_script.proofs.reading.behind_two.Goals as goal

pub returns-in_default-Some : goal.returns-in_default-Some
returns-in_default-Some c =
    let word = c.args.word.now in
    let second = c.args.second.now in
    sym (ap (λ (ws : List (List ℕ)). event_of (word ∷ second ∷ ws)) (rw c.in_default-Some.is-1 at c.first_word.ensures)
    ∙ four_words c.in_default-Some.field-0-1.now word second c.first_word.result.0.now)
