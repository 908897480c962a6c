use Rattle.jt_value.specs.declared.limits.TheConstants.{ROW_LIMIT}
use Rattle.jt_play.proofs.Scenes.{first_scene}
use Rattle.jt_play.proofs.Scripting.{first_scripted}
use Rattle.jt_play.proofs.world.World.new.Goals as goal

pub invariant_of-result : goal.invariant_of-result
invariant_of-result c =
    first_scene c.args.identity (record { fleet = c.args.fleet; secret = c.args.secret; limit = ROW_LIMIT }) c.in_ok-stage.stage c.in_ok-stage.ensures.new c.requires.same c.requires.first c.requires.second
    c.in_ok-stage.ensures.reached

pub returns-clause-scripted : goal.returns-clause-scripted
returns-clause-scripted c = first_scripted c.args.identity (record { fleet = c.args.fleet; secret = c.args.secret; limit = ROW_LIMIT }) c.in_ok-stage.stage c.in_ok-stage.ensures.new
