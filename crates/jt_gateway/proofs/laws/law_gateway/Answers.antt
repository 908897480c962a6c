use Rattle.jt_gateway.proofs.Passing.{both_reached, each_led, each_passes}
use Rattle.jt_gateway.proofs.laws.law_gateway.Goals as goal

pub returns-clause-passes : goal.returns-clause-passes
returns-clause-passes c = each_passes c.law_world.ensures.kept

pub returns-clause-both : goal.returns-clause-both
returns-clause-both c = both_reached c.law_world.ensures.kept

pub returns-clause-led : goal.returns-clause-led
returns-clause-led c = each_led c.law_world.ensures.kept
