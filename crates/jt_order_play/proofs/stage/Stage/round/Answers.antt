use Rattle.std.proofs.Common.{ap, ◌∙◌}
use Rattle.std.specs.Prelude.{None}
use Rattle.jt_order_play.specs.Playing.{OrderPlay, reads_down}
use Rattle.jt_order_play.proofs.Composing.{still_reached}
use Rattle.jt_order_play.proofs.Standing.{leads_both}
use Rattle.jt_order_play.proofs.stage.Stage.round.Goals as goal

pub down-requires : goal.down-requires
down-requires c = record { reached = still_reached c.args.self.now.world c.up_newest.new.self.world c.requires.reached c.up_newest.ensures.leads }

pub returns-clause-leads : goal.returns-clause-leads
returns-clause-leads c = leads_both c.args.self.now.world c.up_newest.new.self.world c.down.new.self.world c.up_newest.ensures.leads c.down.ensures.leads

pub returns-clause-whole : goal.returns-clause-whole
returns-clause-whole c done = c.down.ensures.whole done ∙ ap (λ (q : OrderPlay). reads_down q None) (c.up_newest.ensures.whole c.if-not-up_newest.false)
