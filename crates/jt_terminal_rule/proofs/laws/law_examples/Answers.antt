use Rattle.std.proofs.Common.{refl}
use Rattle.jt_terminal_rule.proofs.laws.law_examples.Goals as goal

pub returns-clause-waits : goal.returns-clause-waits
returns-clause-waits c = λ settings. refl

pub returns-clause-responses : goal.returns-clause-responses
returns-clause-responses c = λ settings body h. record { passed_over = refl; denied = refl; down = refl; accepted = refl }
