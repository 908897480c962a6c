use Rattle.std.proofs.Common.{arith}
use Rattle.jt_terminal_answers.proofs.Fitting.{all_words}
use Rattle.jt_terminal_answers.proofs.answering.look_at_numbers.Goals as goal

pub returns : goal.returns
returns c = all_words c.args.numbers.now (λ i. omega (arith, c.type_inv.numbers i))
