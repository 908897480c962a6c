use Rattle.std.proofs.Common.{◌≡◌, map, string_bytes, sym, ap, subst}
use Rattle.std.specs.Fmt.{decimal}
use Rattle.jt_words.specs.Platform.{AreOptions}
use Rattle.jt_words.proofs.platform_words.PlatformWords.from_words.Goals as goal

pub returns-in_err-port-clause-that_one : goal.returns-in_err-port-clause-that_one
returns-in_err-port-clause-that_one c port sessions words =
    let split = c.in_ok-command.ensures.cases in let tail : map string_bytes c.in_ok-command.options.now ≡ words.options = cc (ap (λ ws. map string_bytes ws) split.0, words.command) in
    absurd (c.in_err-port.ensures.each (decimal port) (decimal sessions) (subst (λ ws. AreOptions (decimal port) (decimal sessions) ws) (sym tail) words.values))
