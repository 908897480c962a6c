use Rattle.std.proofs.Common.{subst, sym}
use Rattle.jt_gateway.specs.Gateway.{GatewayScene, MayAsk}
use Rattle.jt_gateway.specs.Pumping.{Stepped}
use Rattle.jt_gateway.specs.declared.event.GatewayEvent.{GatewayEvent}
use Rattle.jt_gateway.specs.declared.event.GatewayEvent.TheVariants as asked
use Rattle.jt_gateway.proofs.Acting.{a_stepped, b_stepped, middle_stepped, pump_stepped}
use Rattle.jt_gateway.proofs.Editions.{b_sets_none, stays_2019}
use Rattle.jt_gateway.proofs.gateway.Gateway.act.Goals as goal

pub returns-in-A : goal.returns-in-A
returns-in-A c =
    let old : GatewayScene = record { a = c.self.inside.a; b = c.self.inside.b } in
    let new : GatewayScene = record { a = c.step.new.self; b = c.self.inside.b } in
    subst (λ (e : GatewayEvent). Stepped c.args.self.now e new c.step.result) (sym c.in-A.is)
    (subst (λ (g : GatewayScene). Stepped g (asked.A c.in-A.event) new c.step.result) c.self.view_is
    (a_stepped c.law_rule.ensures.settings old c.step.new.self c.in-A.event c.step.result c.self.invariant.phone (record {
      leads = c.step.ensures.leads;
      recorded = c.step.ensures.recorded;
      identity = c.step.ensures.identity;
      edition = c.step.ensures.edition;
      ok = c.step.ensures.ok;
      scripted = c.step.ensures.scripted;
      no_line = c.step.ensures.no_line;
      full = c.step.ensures.full;
      room = c.step.ensures.room;
      same = c.step.ensures.same;
    }) c.step.ensures.entries))

pub returns-in-B : goal.returns-in-B
returns-in-B c =
    let old : GatewayScene = record { a = c.self-in-B.inside.a; b = c.self-in-B.inside.b } in
    let new : GatewayScene = record { a = c.self-in-B.inside.a; b = c.step-in-B.new.self } in
    let of_b = subst MayAsk c.in-B.is c.requires in
    let e = c.step-in-B.ensures in
    let is = stays_2019 old.b new.b c.in-B.event (b_sets_none c.in-B.event old.b.edition of_b) c.self-in-B.invariant e.identity e.present e.phone in
    subst (λ (e : GatewayEvent). Stepped c.args.self.now e new c.step-in-B.result) (sym c.in-B.is)
    (subst (λ (g : GatewayScene). Stepped g (asked.B c.in-B.event) new c.step-in-B.result) c.self-in-B.view_is
    (b_stepped c.law_rule.ensures.settings old c.step-in-B.new.self c.in-B.event c.step-in-B.result of_b is (record {
      leads = c.step-in-B.ensures.leads;
      recorded = c.step-in-B.ensures.recorded;
      identity = c.step-in-B.ensures.identity;
      edition = c.step-in-B.ensures.edition;
      ok = c.step-in-B.ensures.ok;
      scripted = c.step-in-B.ensures.scripted;
      no_line = c.step-in-B.ensures.no_line;
      full = c.step-in-B.ensures.full;
      room = c.step-in-B.ensures.room;
      same = c.step-in-B.ensures.same;
    }) c.step-in-B.ensures.entries))

pub returns-in-Pump : goal.returns-in-Pump
returns-in-Pump c =
    subst (λ (e : GatewayEvent). Stepped c.args.self.now e c.pump.new.self c.with_no_entry.result) (sym c.in-Pump.is)
    (pump_stepped c.args.self.now c.pump.new.self c.pump.result c.with_no_entry.result c.with_no_entry.ensures.alike c.with_no_entry.ensures.none
    c.pump.ensures.pumps c.pump.ensures.leads c.pump.ensures.edition c.pump.ensures.a c.pump.ensures.b)

pub returns-in-RestartMiddle : goal.returns-in-RestartMiddle
returns-in-RestartMiddle c =
    subst (λ (e : GatewayEvent). Stepped c.args.self.now e c.restart_middle.new.self c.with_no_entry-in-RestartMiddle.result) (sym c.in-RestartMiddle.is)
    (middle_stepped c.law_rule.ensures.settings c.args.self.now c.restart_middle.new.self.a c.restart_middle.new.self.b c.restart_middle.result c.with_no_entry-in-RestartMiddle.result
    c.with_no_entry-in-RestartMiddle.ensures.alike c.with_no_entry-in-RestartMiddle.ensures.none c.restart_middle.ensures.restarts c.restart_middle.ensures.leads c.restart_middle.ensures.edition c.restart_middle.ensures.a c.restart_middle.ensures.b)

pub invariant_of-self-in-B : goal.invariant_of-self-in-B
invariant_of-self-in-B c =
    let of_b = subst MayAsk c.in-B.is c.requires in
    let e = c.step-in-B.ensures in
    stays_2019 c.self-in-B.inside.b c.step-in-B.new.self c.in-B.event (b_sets_none c.in-B.event c.self-in-B.inside.b.edition of_b) c.self-in-B.invariant e.identity e.present e.phone
