use Rattle.std.proofs.Common.{List, drop, ap, sym, ◌∙◌, subst}
use Rattle.std.specs.List.{AllByRecursion}
use Rattle.jt_store.specs.Units.{fixes_in}
use Rattle.jt_store.specs.declared.row.Row.{Row}
use Rattle.jt_value.specs.declared.phone.Edition.TheVariants.{E2013}
use Rattle.jt_play.specs.Behind.{HasShortFixes}
use Rattle.jt_play.specs.Scripts.{Scene}
use Rattle.jt_play.proofs.KeeperRows.{fixes_short}
use Rattle.jt_play.proofs.Scenes.{copied_is, own_history}
use Rattle.jt_play.proofs.world.World.fixes_behind.Goals as goal

pub rows-requires-clause-own : goal.rows-requires-clause-own
rows-requires-clause-own c = own_history c.law_world.ensures.phone c.self.inside.stage c.self.inside.identity c.self.invariant

pub rows-requires-clause-same : goal.rows-requires-clause-same
rows-requires-clause-same c = c.self.invariant.same E2013

pub fixes_behind-requires : goal.fixes_behind-requires
fixes_behind-requires c = subst (λ (l : List Row). AllByRecursion HasShortFixes l) (sym c.rows.ensures) (fixes_short c.law_world.ensures.kept c.self.inside.stage.world c.self.invariant.reached)

pub returns : goal.returns
returns c =
    let rows = c.rows.ensures ∙ ap (λ (v : Scene). v.play.world.keeper.rows) c.self.view_is in
    copied_is c.fixes_behind.result (drop c.args.mark (fixes_in c.rows.result.now)) (drop c.args.mark (fixes_in c.args.self.now.play.world.keeper.rows)) c.fixes_behind.ensures
    (ap (λ (l : List Row). drop c.args.mark (fixes_in l)) rows)
