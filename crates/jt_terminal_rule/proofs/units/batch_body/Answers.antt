use Rattle.std.proofs.Common.{◌∙◌, ◌++◌, ap, sym, List, ℕ}
use Rattle.std.specs.Int.{w8, w16, to_be_bytes}
use Rattle.jt_terminal_rule.specs.Forming.{in_batch}
use Rattle.jt_terminal_rule.proofs.Measuring.{batch_more}
use Rattle.jt_terminal_rule.proofs.units.batch_body.Goals as goal

pub loop-place-preserved : goal.loop-place-preserved
loop-place-preserved c =
    let more = batch_more c.args.waiting.now c.loop-place.place c.in-Some.fix.now (sym c.in-Some.ensures.item) in
    let front = to_be_bytes w16 c.args.count ++ to_be_bytes w8 1 in
    c.in_ok-write_in_batch.ensures ∙ (ap (λ (xs : List ℕ). xs ++ in_batch c.in-Some.fix.now) c.loop-place.invariant
    ∙ ap (λ (xs : List ℕ). to_be_bytes w16 c.args.count ++ (to_be_bytes w8 1 ++ xs)) (sym more))
