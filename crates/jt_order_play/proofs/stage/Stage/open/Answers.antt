use Rattle.jt_order_play.proofs.Standing.{leads_both}
use Rattle.jt_order_play.proofs.stage.Stage.open.Goals as goal

pub returns-clause-leads : goal.returns-clause-leads
returns-clause-leads c = leads_both c.args.self.now.world c.lose.new.self.world c.open_next.new.self.world c.lose.ensures.leads c.open_next.ensures.leads
