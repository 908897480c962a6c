use Rattle.std.proofs.Common.{sym, ◌∙◌}
use Rattle.jt_play.proofs.Wholes.{not_true}
use Rattle.jt_order_play.proofs.Passing.{down_all, down_some}
use Rattle.jt_order_play.proofs.stage.Stage.down.Goals as goal

pub returns-in-Some-clause-whole : goal.returns-in-Some-clause-whole
returns-in-Some-clause-whole c done = c.read_many.ensures.whole c.if-not-read_many.false ∙ down_some c.args.self.now c.args.count c.in-Some.field-0 c.count_or_all-most.result c.in-Some.is c.count_or_all-most.ensures

pub returns-in-None-clause-whole : goal.returns-in-None-clause-whole
returns-in-None-clause-whole c done = down_all c.args.self.now c.read_many.new.self c.args.count c.count_or_all-most.result c.in-None.is (c.read_many.ensures.whole c.if-not-read_many.false) (sym c.reads_more.ensures ∙ not_true c.reads_more.result done)
