use Rattle.std.proofs.Common.{◌≡◌, map, string_bytes, sym, ap, subst, codes}
use Rattle.jt_words.specs.OptionWords.{IsOption}
use Rattle.jt_relay_command.proofs.relay_words.RelayWords.from_words.Goals as goal

pub returns-in_err-only_option_value-clause-that_one : goal.returns-in_err-only_option_value-clause-that_one
returns-in_err-only_option_value-clause-that_one c phone words =
    let split = c.in_ok-command.ensures.cases in let tail : map string_bytes c.in_ok-command.options.now ≡ words.option = cc (ap (λ ws. map string_bytes ws) split.0, words.command) in
    absurd (c.in_err-only_option_value.ensures.each words.digits (subst (λ ws. IsOption (codes "phone") words.digits ws) (sym tail) words.value))
