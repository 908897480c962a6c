use Rattle.std.proofs.Common.{◌≡◌, drop}
use Rattle.jt_terminal_rule.specs.Answers.{timing_after}
use Rattle.jt_terminal_answers.proofs.params.timing_after.Given as goal

abbrev pub invariant-loop-param : goal.invariant-loop-param
invariant-loop-param l = timing_after l.params l.fn.timing ≡ timing_after (drop l.param-index l.params) l.now
