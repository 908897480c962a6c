use Rattle.std.proofs.Common.{None, Option, Some, subst}
use Rattle.std.specs.Option.{option_copied, option_map}
use Rattle.jt_value.specs.declared.phone.Phone.{Phone}
use Rattle.jt_value.specs.Sameness.{key_of}
use Rattle.dewfelt_keeper.specs.Rules.{Becomes}
use Rattle.dewfelt_keeper.specs.Sweeps.{ForgetsNext}
use Rattle.dewfelt_keeper.proofs.Calls.{behind_then, forget_end, forget_step, listed_all, listed_part, listed_part_then}
use Rattle.dewfelt_keeper.proofs.applying.forget_others.Goals as goal

pub loop-preserved : goal.loop-preserved
loop-preserved g c =
    let before = g.K.Keeper.tables c.loop.keeper in
    let now = g.K.Keeper.tables c.forget_next.new.keeper in
    let step = subst (λ (o : Option Phone). Becomes before now (ForgetsNext c.args.fleet.now (option_map key_of o) (Some c.in-Some.phone) c.loop.forgotten c.forget_next.new.forgotten)) c.as_ref.ensures.value
    (subst (λ (o : Option Phone). Becomes before now (ForgetsNext c.args.fleet.now (option_map key_of (option_copied c.as_ref.result)) o c.loop.forgotten c.forget_next.new.forgotten)) c.in-Some.is c.in_ok-phone.ensures.ok) in
    record {
      upto = forget_step c.args.fleet.now (option_map key_of c.loop.after) c.in-Some.phone _ _ _ _ before now c.loop.invariant.upto step;
      behind = behind_then _ _ _ c.loop.invariant.behind c.forget_next.ensures.behind;
    }

pub returns-in_err-phone-clause-listed : goal.returns-in_err-phone-clause-listed
returns-in_err-phone-clause-listed g c =
    listed_part_then c.args.fleet.now (option_map key_of c.loop.after) _ _ _ (g.K.Keeper.tables c.args.keeper.now) (g.K.Keeper.tables c.loop.keeper) (g.K.Keeper.tables c.forget_next.new.keeper)
    c.loop.invariant.upto c.in_err-phone.ensures.err c.forget_next.ensures.behind

pub returns-in-None-clause-listed : goal.returns-in-None-clause-listed
returns-in-None-clause-listed g c =
    let before = g.K.Keeper.tables c.loop.keeper in
    let now = g.K.Keeper.tables c.forget_next.new.keeper in
    let last = subst (λ (o : Option Phone). Becomes before now (ForgetsNext c.args.fleet.now (option_map key_of o) None c.loop.forgotten c.forget_next.new.forgotten)) c.as_ref.ensures.value
    (subst (λ (o : Option Phone). Becomes before now (ForgetsNext c.args.fleet.now (option_map key_of (option_copied c.as_ref.result)) o c.loop.forgotten c.forget_next.new.forgotten)) c.in-None.is c.in_ok-phone.ensures.ok) in
    listed_all c.args.fleet.now _ _ (g.K.Keeper.tables c.args.keeper.now) now
    (forget_end c.args.fleet.now (option_map key_of c.loop.after) _ _ _ (g.K.Keeper.tables c.args.keeper.now) before now c.loop.invariant.upto last)

pub returns-clause-listed : goal.returns-clause-listed
returns-clause-listed g c =
    listed_part c.args.fleet.now (option_map key_of c.loop.after) _ _ (g.K.Keeper.tables c.args.keeper.now) (g.K.Keeper.tables c.loop.keeper) c.loop.invariant.upto
