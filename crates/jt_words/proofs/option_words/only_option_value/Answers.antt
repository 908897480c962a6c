use Rattle.std.proofs.Common.{[], map, take, string_bytes, sym, subst, arith, append-nil, length}
use Rattle.std.proofs.lemmas.List.{take_all, length-map}
use Rattle.jt_words.specs.OptionWords.{IsOption}
use Rattle.jt_words.proofs.option_words.only_option_value.Goals as goal

pub returns-in_err-value-clause-each : goal.returns-in_err-value-clause-each
returns-in_err-value-clause-each c value option = absurd (c.in_err-value.ensures.each value (map string_bytes c.args.words.now) [] (sym (append-nil _)) option)

pub returns-then-count-words-clause-some : goal.returns-then-count-words-clause-some
returns-then-count-words-clause-some c =
    subst (λ words. IsOption c.args.name.now c.in_ok-value.value.now (map string_bytes words))
    (take_all c.in_ok-value.count c.args.words.now (omega (arith, c.if-count-words.true))) c.in_ok-value.ensures.some.1

pub returns-then-count-words-clause-each : goal.returns-then-count-words-clause-each
returns-then-count-words-clause-each c value option =
    (c.in_ok-value.ensures.each value (map string_bytes c.args.words.now) [] (sym (append-nil _)) option).0

pub returns-else-count-words-clause-each : goal.returns-else-count-words-clause-each
returns-else-count-words-clause-each c value option =
    let found = c.in_ok-value.ensures.each value (map string_bytes c.args.words.now) [] (sym (append-nil _)) option in
    let all = length-map c.args.words.now string_bytes in omega (arith, c.if-count-words.false, found.1, all)
