use Rattle.std.proofs.Common.{ap, ◌∙◌}
use Rattle.jt_value.specs.declared.phone.Edition.TheVariants.{E2019}
use Rattle.jt_play.specs.Scripts.{Scene}
use Rattle.jt_script.specs.declared.world_event.WorldEvent.TheVariants as line
use Rattle.jt_gateway.specs.Gateway.{scene_after}
use Rattle.jt_gateway.proofs.Acting.{upstream, went_on}
use Rattle.jt_gateway.proofs.gateway.begin_upstream.Goals as goal

pub returns-in-Ok-clause-is : goal.returns-in-Ok-clause-is
returns-in-Ok-clause-is c =
    let led = c.requires.begun.led.scripted in
    (went_on c.args.world.now c.step.new.self (line.RestartAs E2019) c.step.result c.in-Ok.field-0 c.in-Ok.ensures (c.step.ensures.scripted led) (c.step.ensures.ok led) c.step.ensures.identity c.step.ensures.edition).is
    ∙ ap (λ (s : Scene). scene_after s (line.RestartAs E2019)) c.requires.first

pub returns-in-Ok-clause-upstream : goal.returns-in-Ok-clause-upstream
returns-in-Ok-clause-upstream c =
    let led = c.requires.begun.led.scripted in
    let on = went_on c.args.world.now c.step.new.self (line.RestartAs E2019) c.step.result c.in-Ok.field-0 c.in-Ok.ensures (c.step.ensures.scripted led) (c.step.ensures.ok led) c.step.ensures.identity c.step.ensures.edition in
    upstream c.law_rule.ensures.settings c.args.world.now c.step.new.self c.requires.begun c.requires.first on.scripted on.is c.step.ensures.leads
