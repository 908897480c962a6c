use Rattle.std.proofs.Common.{ℕ, List, [], ◌∷◌, ap, sym, ◌∙◌}
use Rattle.jt_play.specs.Holding.{tally_of}
use Rattle.jt_play.proofs.tally.of_entry.Goals as goal

pub returns-in-Some : goal.returns-in-Some
returns-in-Some c =
    let number = c.in-Some.field-0-0 in
    c.of_unit.ensures number
    ∙ (ap (λ (body : List ℕ). tally_of (record { number = number; id = c.in-Some.id; body = body } ∷ [])) c.as_slice.ensures ∙ sym (ap tally_of c.in-Some.ensures.some))
