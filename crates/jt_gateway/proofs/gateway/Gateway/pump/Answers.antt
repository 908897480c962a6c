use Rattle.std.proofs.Common.{List, ℕ, ◌∙◌, subst}
use Rattle.jt_gateway.specs.Steps.{GatewayLeads}
use Rattle.jt_gateway.specs.Gateway.{GatewayScene, worlds_of}
use Rattle.jt_gateway.specs.Pumping.{PumpsMost, RecordsFirst}
use Rattle.jt_gateway.proofs.Gateways.{b_passes}
use Rattle.jt_gateway.proofs.Pumping.{behind_are, pumps}
use Rattle.jt_gateway.proofs.gateway.Gateway.pump.Goals as goal

pub returns-in-Ok-clause-pumps : goal.returns-in-Ok-clause-pumps
returns-in-Ok-clause-pumps c =
    let old : GatewayScene = record { a = c.self.inside.a; b = c.self.inside.b } in
    let b = c.record_all.new.world in
    let behind = behind_are old c.recorded-mark.result c.as_slice.result.now c.recorded-mark.ensures.held c.recorded-mark.ensures.count c.if-mark.false (c.as_slice.ensures ∙ c.in-Ok.ensures) in
    subst (λ (g : GatewayScene). PumpsMost g (record old { b = b }) c.record_all.result) c.self.view_is (pumps old b c.as_slice.result.now c.record_all.result behind c.record_all.ensures.records)

pub returns-in-Ok-clause-leads : goal.returns-in-Ok-clause-leads
returns-in-Ok-clause-leads c =
    let old : GatewayScene = record { a = c.self.inside.a; b = c.self.inside.b } in
    let b = c.record_all.new.world in
    let behind = behind_are old c.recorded-mark.result c.as_slice.result.now c.recorded-mark.ensures.held c.recorded-mark.ensures.count c.if-mark.false (c.as_slice.ensures ∙ c.in-Ok.ensures) in
    subst (λ (g : GatewayScene). GatewayLeads (worlds_of g) (worlds_of (record old { b = b }))) c.self.view_is
    (b_passes (worlds_of old) b.play.world c.record_all.ensures.leads
    (subst (λ (fixes : List (List ℕ)). RecordsFirst old.b.play.world.terminal.recorded b.play.world.terminal.recorded fixes) behind c.record_all.ensures.first))

pub invariant_of-self : goal.invariant_of-self
invariant_of-self c = c.record_all.ensures.edition c.self.invariant

pub returns-in-Ok-clause-edition : goal.returns-in-Ok-clause-edition
returns-in-Ok-clause-edition c = (c.record_all.ensures.edition c.self.invariant).phone
