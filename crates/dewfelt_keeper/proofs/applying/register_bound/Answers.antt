use Rattle.std.proofs.Common.{None, Option, Some, subst}
use Rattle.std.specs.Option.{option_copied, option_map}
use Rattle.jt_value.specs.declared.phone.Phone.{Phone}
use Rattle.jt_value.specs.Sameness.{key_of}
use Rattle.dewfelt_keeper.specs.Rules.{Becomes}
use Rattle.dewfelt_keeper.specs.Sweeps.{BindsNext}
use Rattle.dewfelt_keeper.proofs.Calls.{becomes_until, bind_end, bind_stays, bind_step, none_same}
use Rattle.dewfelt_keeper.proofs.applying.register_bound.Goals as goal

pub loop-preserved : goal.loop-preserved
loop-preserved g c =
    let before = g.K.Keeper.tables c.loop.keeper in
    let now = g.K.Keeper.tables c.register_next.new.keeper in
    let step = subst (λ (o : Option Phone). Becomes before now (BindsNext c.args.fleet.now (option_map key_of o) (Some c.in-Some.phone))) c.as_ref.ensures.value
    (subst (λ (o : Option Phone). Becomes before now (BindsNext c.args.fleet.now (option_map key_of (option_copied c.as_ref.result)) o)) c.in-Some.is c.in_ok-phone.ensures.ok) in
    bind_step c.args.fleet.now (option_map key_of c.loop.after) c.in-Some.phone _ before now c.requires c.loop.invariant step

pub returns-in-None-clause-ok : goal.returns-in-None-clause-ok
returns-in-None-clause-ok g c =
    let before = g.K.Keeper.tables c.loop.keeper in
    let now = g.K.Keeper.tables c.register_next.new.keeper in
    let last = subst (λ (o : Option Phone). Becomes before now (BindsNext c.args.fleet.now (option_map key_of o) None)) c.as_ref.ensures.value
    (subst (λ (o : Option Phone). Becomes before now (BindsNext c.args.fleet.now (option_map key_of (option_copied c.as_ref.result)) o)) c.in-None.is c.in_ok-phone.ensures.ok) in
    bind_end c.args.fleet.now (option_map key_of c.loop.after) _ before now c.loop.invariant last

pub returns-in-None-clause-stays : goal.returns-in-None-clause-stays
returns-in-None-clause-stays g c =
    let before = g.K.Keeper.tables c.loop.keeper in
    let now = g.K.Keeper.tables c.register_next.new.keeper in
    let last = subst (λ (o : Option Phone). Becomes before now (BindsNext c.args.fleet.now (option_map key_of (option_copied c.as_ref.result)) o)) c.in-None.is c.in_ok-phone.ensures.ok in
    becomes_until _ before now _ (bind_stays c.args.fleet.now (option_map key_of c.loop.after) _ before c.requires c.loop.invariant) (none_same c.args.fleet.now _ before now last)

pub returns-in_err-phone-clause-stays : goal.returns-in_err-phone-clause-stays
returns-in_err-phone-clause-stays g c =
    let before = g.K.Keeper.tables c.loop.keeper in
    becomes_until _ before _ _ (bind_stays c.args.fleet.now (option_map key_of c.loop.after) _ before c.requires c.loop.invariant) c.in_err-phone.ensures.err

pub returns-clause-stays : goal.returns-clause-stays
returns-clause-stays g c = bind_stays c.args.fleet.now (option_map key_of c.loop.after) _ (g.K.Keeper.tables c.loop.keeper) c.requires c.loop.invariant
