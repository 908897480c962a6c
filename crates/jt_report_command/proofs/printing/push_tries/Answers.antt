use Rattle.std.proofs.Common.{◌≡◌, ◌<◌, ◌+◌, ◌∙◌, ◌++◌, ◌∷◌, [], ap, sym, length, take, arith, string_bytes, append_assoc}
use Rattle.std.proofs.lemmas.List.{take_more, length-take-le}
use Rattle.jt_agent.specs.declared.ending.AttemptEnd.{AttemptEnd}
use Rattle.jt_report_command.specs.Report.{try_line, try_lines}
use Rattle.jt_report_command.proofs.Tries.{one_more}
use Rattle.jt_report_command.proofs.printing.push_tries.Goals as goal

pub loop-i-preserved : goal.loop-i-preserved
loop-i-preserved c =
    let i = c.loop-i.i in
    let ends = c.args.ends.now in
    let end = c.index-ends-i.result in
    let within : i < length ends = c.loop-i-test.true in
    let more : take (i + 1) ends ≡ take i ends ++ end ∷ [] =
    take_more ends i end within ∙ ap (λ (x : AttemptEnd). take i ends ++ x ∷ []) (sym c.index-ends-i.is) in
    let count : length (take i ends) ≡ i = length-take-le i ends (omega arith) in
    let number : i + 1 ≡ 1 + length (take i ends) = omega (arith, count) in
    c.in_ok-push_try.ensures
    ∙ ap (λ t. t ++ try_line (i + 1) end) c.loop-i.invariant
    ∙ append_assoc (string_bytes c.args.text.now) (try_lines 1 (take i ends)) (try_line (i + 1) end)
    ∙ ap (λ t. string_bytes c.args.text.now ++ t)
    (ap (λ n. try_lines 1 (take i ends) ++ try_line n end) number ∙ sym (one_more 1 (take i ends) end) ∙ ap (try_lines 1) (sym more))
