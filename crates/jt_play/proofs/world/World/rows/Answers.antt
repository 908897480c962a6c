use Rattle.std.proofs.Common.{ap, ◌∙◌}
use Rattle.jt_value.specs.declared.phone.Edition.TheVariants.{E2013}
use Rattle.jt_play.specs.Scripts.{Scene}
use Rattle.jt_play.proofs.Scenes.{own_history}
use Rattle.jt_play.proofs.world.World.rows.Goals as goal

pub rows-requires-clause-own : goal.rows-requires-clause-own
rows-requires-clause-own c = own_history c.law_world.ensures.phone c.self.inside.stage c.self.inside.identity c.self.invariant

pub rows-requires-clause-same : goal.rows-requires-clause-same
rows-requires-clause-same c = c.self.invariant.same E2013

pub returns : goal.returns
returns c = c.rows.ensures ∙ ap (λ (v : Scene). v.play.world.keeper.rows) c.self.view_is
