use Rattle.std.proofs.Common.{string_bytes, sym, ◌∙◌}
use Rattle.jt_words.proofs.Pairs.{first_is, rest_is_one, no_value, one_value}
use Rattle.jt_words.proofs.option_words.option_value.Goals as goal

pub returns-in_err-rest-clause-each : goal.returns-in_err-rest-clause-each
returns-in_err-rest-clause-each c = λ value front back whole option.
    let h = first_is string_bytes c.args.words.now _ _ c.args.name.now value front back c.in_ok-word.ensures.cases.0 whole option in
    absurd (c.in_err-rest.ensures h.0 (c.as_bytes.ensures.value ∙ h.1))

pub returns-in_err-value-2-clause-each : goal.returns-in_err-value-2-clause-each
returns-in_err-value-2-clause-each c = λ value front back whole option.
    let h = first_is string_bytes c.args.words.now _ _ c.args.name.now value front back c.in_ok-word.ensures.cases.0 whole option in
    let rest = rest_is_one c.args.name.now _ _ (sym c.in_ok-rest.ensures ∙ c.as_bytes.ensures.value ∙ h.1) in
    absurd (no_value _ _ value front back _ rest h.2 (cc (c.is_empty.ensures, c.if-is_empty.false)) (λ e. c.in_err-value-2.ensures value e))

pub returns-clause-each : goal.returns-clause-each
returns-clause-each c = λ value front back whole option.
    let h = first_is string_bytes c.args.words.now _ _ c.args.name.now value front back c.in_ok-word.ensures.cases.0 whole option in
    let rest = rest_is_one c.args.name.now _ _ (sym c.in_ok-rest.ensures ∙ c.as_bytes.ensures.value ∙ h.1) in
    one_value _ _ value front back _ _ rest h.2 c.in_ok-value-2.ensures
