use Rattle.std.proofs.Common.{ℕ, List, length, ap, sym, ◌∙◌}
use Rattle.std.proofs.lemmas.List.{length-map}
use Rattle.jt_position.specs.Positions.{position}
use Rattle.jt_play.proofs.tally.batch_count.Goals as goal

pub returns-in-Ok : goal.returns-in-Ok
returns-in-Ok c =
    let view = c.in-Ok.view in
    c.left.ensures
    ∙ (sym (length-map view.fixes position.spell)
    ∙ sym (ap (λ (l : List (List ℕ)). length l) (c.law_fixes.ensures.of_a_batch c.args.body.now (record { kind = view.kind; fixes = view.fixes }) c.in-Ok.ensures.batch)))
