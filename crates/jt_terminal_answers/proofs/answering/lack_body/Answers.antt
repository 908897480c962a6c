use Rattle.std.proofs.Common.{List, ℕ, arith, subst}
use Rattle.std.specs.List.{AllByRecursion}
use Rattle.jt_layout.specs.Layout.{word}
use Rattle.jt_terminal_answers.proofs.Fitting.{lack_fits}
use Rattle.jt_terminal_answers.proofs.answering.lack_body.Goals as goal

pub write_body-requires : goal.write_body-requires
write_body-requires c = lack_fits c.args.first c.args.numbers (omega arith) c.requires (subst (λ (numbers : List ℕ). AllByRecursion word.Fits numbers) c.as_slice.ensures c.look_at_numbers.ensures)
