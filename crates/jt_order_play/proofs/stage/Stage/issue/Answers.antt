use Rattle.std.proofs.Common.{ap, ◌∙◌}
use Rattle.jt_order_play.specs.Playing.{OrderPlay, offers_all, with_world}
use Rattle.jt_play.proofs.Running.{ok_true}
use Rattle.jt_order_play.proofs.Standing.{leads_both}
use Rattle.jt_order_play.proofs.stage.Stage.issue.Goals as goal

pub returns-in-Ok-clause-leads : goal.returns-in-Ok-clause-leads
returns-in-Ok-clause-leads c = leads_both c.args.self.now.world c.put_order.new.self.world c.offer_all.new.self.world c.put_order.ensures.leads c.offer_all.ensures.leads

pub returns-in-Ok-clause-whole : goal.returns-in-Ok-clause-whole
returns-in-Ok-clause-whole c done = c.offer_all.ensures.whole (ok_true c.offer_all.result done) ∙ ap (λ (q : OrderPlay). with_world q (offers_all q.world)) c.in-Ok.ensures.ok
