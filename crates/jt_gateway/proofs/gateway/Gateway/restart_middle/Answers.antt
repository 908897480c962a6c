use Rattle.std.proofs.Common.{refl, subst}
use Rattle.std.proofs.lemmas.Bool.{false≢true}
use Rattle.jt_script.specs.declared.world_event.WorldEvent.TheVariants as line
use Rattle.jt_gateway.specs.Steps.{GatewayLeads}
use Rattle.jt_gateway.specs.Gateway.{GatewayScene, worlds_of}
use Rattle.jt_gateway.specs.Pumping.{RestartsMiddle}
use Rattle.jt_gateway.proofs.Acting.{middle_leads, none_more, not_restarted, restarted}
use Rattle.jt_gateway.proofs.Editions.{stays_2019}
use Rattle.jt_gateway.proofs.Gateways.{a_leads}
use Rattle.jt_gateway.proofs.gateway.Gateway.restart_middle.Goals as goal

pub returns-in-Ok-clause-restarts : goal.returns-in-Ok-clause-restarts
returns-in-Ok-clause-restarts c =
    let old : GatewayScene = record { a = c.self.inside.a; b = c.self.inside.b } in
    let new : GatewayScene = record { a = c.step.new.self; b = c.step-in-Ok.new.self } in
    subst (λ (g : GatewayScene). RestartsMiddle g new c.without_entries-in-Ok.result) c.self.view_is
    (restarted old new c.in-Ok.field-0 c.step.result c.step-in-Ok.result c.without_entries-in-Ok.result c.in-Ok.ensures c.without_entries-in-Ok.ensures
    c.step.ensures.scripted c.step.ensures.ok c.step.ensures.identity c.step.ensures.edition c.step-in-Ok.ensures.scripted c.step-in-Ok.ensures.ok c.step-in-Ok.ensures.identity c.step-in-Ok.ensures.edition
    (λ number is. ((c.step-in-Ok.ensures.no_line number).0 is).0) (λ limit is. absurd (false≢true (c.step-in-Ok.ensures.full limit is).1)))

pub returns-in-Ok-clause-leads : goal.returns-in-Ok-clause-leads
returns-in-Ok-clause-leads c =
    let old : GatewayScene = record { a = c.self.inside.a; b = c.self.inside.b } in
    let b = c.step-in-Ok.new.self in
    subst (λ (g : GatewayScene). GatewayLeads (worlds_of g) (worlds_of (record { a = c.step.new.self; b = b }))) c.self.view_is
    (middle_leads old c.step.new.self b c.step.ensures.leads c.step-in-Ok.ensures.leads
    (none_more line.RestartTerminal old.b.play.world.terminal.recorded b.play.world.terminal.recorded refl c.step-in-Ok.ensures.recorded))

pub returns-in-Err-clause-restarts : goal.returns-in-Err-clause-restarts
returns-in-Err-clause-restarts c =
    let new : GatewayScene = record { a = c.step.new.self; b = c.self.inside.b } in
    not_restarted c.args.self.now new c.step.result c.in-Err.error c.in-Err.ensures
    (λ number is. ((c.step.ensures.no_line number).0 is).0) (λ limit is. absurd (false≢true (c.step.ensures.full limit is).1))

pub returns-in-Err-clause-leads : goal.returns-in-Err-clause-leads
returns-in-Err-clause-leads c =
    let old : GatewayScene = record { a = c.self.inside.a; b = c.self.inside.b } in
    subst (λ (g : GatewayScene). GatewayLeads (worlds_of g) (worlds_of (record old { a = c.step.new.self }))) c.self.view_is (a_leads (worlds_of old) c.step.new.self.play.world c.step.ensures.leads)

pub invariant_of-self : goal.invariant_of-self
invariant_of-self c =
    let e = c.step-in-Ok.ensures in
    stays_2019 c.self.inside.b c.step-in-Ok.new.self line.RestartTerminal refl c.self.invariant e.identity e.present e.phone

pub returns-in-Ok-clause-edition : goal.returns-in-Ok-clause-edition
returns-in-Ok-clause-edition c =
    let e = c.step-in-Ok.ensures in
    (stays_2019 c.self.inside.b c.step-in-Ok.new.self line.RestartTerminal refl c.self.invariant e.identity e.present e.phone).phone
