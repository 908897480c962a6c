use Rattle.std.proofs.Common.{string_bytes, subst}
use Rattle.jt_words.specs.OptionWords.{IsOption}
use Rattle.jt_report_command.proofs.Apart.{one_option}
use Rattle.jt_report_command.proofs.options.named.Goals as goal

pub returns-in_err-value-clause-none : goal.returns-in_err-value-clause-none
returns-in_err-value-clause-none c = λ e option back b same.
    absurd (c.in_err-value.ensures.each option.1 b.front back b.whole (subst (λ n. IsOption n option.1 b.front) same b.written))

pub returns-clause-some : goal.returns-clause-some
returns-clause-some c =
    let h = one_option string_bytes c.args.words.now c.args.name.now _ _ c.requires c.in_ok-value.ensures.some.1 c.in_ok-value.ensures.each in
    (h.0, c.in_ok-value.ensures.some.0, h.1)
