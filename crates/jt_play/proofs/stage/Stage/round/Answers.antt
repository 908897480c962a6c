use Rattle.std.proofs.Common.{◌≡◌, ap, sym, ◌∙◌}
use Rattle.jt_play.specs.Playing.{Play, comes_down, reads_down}
use Rattle.std.specs.Prelude.{None}
use Rattle.jt_play.proofs.Downward.{leads_both}
use Rattle.jt_play.proofs.Running.{down_comes}
use Rattle.jt_play.proofs.stage.Stage.round.Goals as goal

pub returns-clause-leads : goal.returns-clause-leads
returns-clause-leads c = leads_both c.args.self.now.world c.up_newest.new.self.world c.down.new.self.world c.up_newest.ensures.leads c.down.ensures.leads

pub returns-clause-whole : goal.returns-clause-whole
returns-clause-whole c done = c.down.ensures.whole done ∙ (down_comes c.up_newest.new.self ∙ ap comes_down (c.up_newest.ensures.whole c.if-not-up_newest.false))
