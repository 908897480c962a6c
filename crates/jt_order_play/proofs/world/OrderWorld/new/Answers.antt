use Rattle.std.proofs.Common.{ap, ◌∙◌}
use Rattle.jt_value.specs.declared.limits.TheConstants.{ROW_LIMIT}
use Rattle.jt_delivery.specs.World.{Setting}
use Rattle.jt_terminal_rule.specs.declared.settings.Settings.{Settings}
use Rattle.jt_order_play.specs.Scripts.{first_play}
use Rattle.jt_order_play.proofs.Scenes.{first_scene}
use Rattle.jt_order_play.proofs.world.OrderWorld.new.Goals as goal

pub invariant_of-result : goal.invariant_of-result
invariant_of-result c =
    let setting : Setting = record { fleet = c.args.fleet; secret = c.args.secret; limit = ROW_LIMIT } in
    first_scene c.args.identity setting c.in_ok-stage.stage (c.in_ok-stage.ensures.new ∙ ap (λ (s : Settings). first_play s setting) c.in_ok-settings.ensures) c.requires c.in_ok-stage.ensures.reached
