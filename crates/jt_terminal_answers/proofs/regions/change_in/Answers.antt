use Rattle.std.proofs.Common.{Ok}
use Rattle.jt_regions.proofs.Changing.{change_says}
use Rattle.jt_terminal_answers.proofs.regions.change_in.Goals as goal

pub returns-in-Ok-clause-ok : goal.returns-in-Ok-clause-ok
returns-in-Ok-clause-ok c = change_says c.args.change.now c.args.table.now (Ok tt) c.apply.new.self c.in-Ok.ensures.answer
