use Rattle.std.proofs.Common.{sym, ◌∙◌}
use Rattle.std.proofs.lemmas.Bool.{not-true}
use Rattle.jt_order_play.proofs.Upward.{up_all, up_some}
use Rattle.jt_order_play.proofs.stage.Stage.up.Goals as goal

pub returns-in-Some-clause-whole : goal.returns-in-Some-clause-whole
returns-in-Some-clause-whole c done =
    up_some c.args.self.now c.take_many.new.self c.args.place c.args.count c.in-Some.field-0 c.count_or_all-most.result c.in-Some.is c.count_or_all-most.ensures (c.take_many.ensures.whole c.if-not-take_many.false)

pub returns-in-None-clause-whole : goal.returns-in-None-clause-whole
returns-in-None-clause-whole c done =
    up_all c.args.self.now c.take_many.new.self c.args.place c.args.count c.count_or_all-most.result c.in-None.is (c.take_many.ensures.whole c.if-not-take_many.false) (sym c.takes_more.ensures ∙ not-true c.takes_more.result done)
