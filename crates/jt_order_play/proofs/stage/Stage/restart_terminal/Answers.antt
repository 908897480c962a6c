use Rattle.jt_order_play.proofs.Standing.{leads_both}
use Rattle.jt_order_play.proofs.stage.Stage.restart_terminal.Goals as goal

pub returns-in-Ok-begin-clause-leads : goal.returns-in-Ok-begin-clause-leads
returns-in-Ok-begin-clause-leads c = leads_both c.args.self.now.world c.begin.new.self.world c.tell.new.self.world c.begin.ensures.leads c.tell.ensures.leads
