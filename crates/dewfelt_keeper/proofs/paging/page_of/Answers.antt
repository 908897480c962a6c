use Rattle.std.proofs.Common.{◌≡◌, arith, Option, Some, subst}
use Rattle.std.specs.Option.{option_copied, option_map}
use Rattle.jt_value.specs.declared.phone.Phone.{Phone}
use Rattle.jt_value.specs.Sameness.{key_of}
use Rattle.jt_store.specs.Tables.{WhereKnown}
use Rattle.dewfelt_keeper.specs.Registries.{AddsNext}
use Rattle.dewfelt_keeper.proofs.Pages.{page_step}
use Rattle.dewfelt_keeper.proofs.paging.page_of.Goals as goal

pub loop-alloc-preserved : goal.loop-alloc-preserved
loop-alloc-preserved g c =
    let before = g.K.Keeper.tables c.loop-alloc.keeper in
    let now = g.K.Keeper.tables c.add_next.new.keeper in
    let answer = rw c.in-Ok-Some.field-0-is at c.in-Ok-Some.ensures.answer in
    let added = subst (λ (o : Option Phone). (now ≡ before) × WhereKnown before (λ t. AddsNext t.registered (option_map key_of o) c.loop-alloc.page c.add_next.new.page (Some c.in-Ok-Some.phone))) c.as_ref.ensures.value answer in
    let more = rw c.in-Ok-Some.field-0-is at c.in-Ok-Some.ensures.more in
    let step = page_step (option_map key_of (option_copied c.args.after)) (option_map key_of c.loop-alloc.last) c.in-Ok-Some.phone _ before now _ _ c.loop-alloc.invariant.same added c.loop-alloc.invariant.pages in
    record {
      same = step.0;
      pages = step.1;
      few = omega (arith, more, c.loop-alloc-test.true, c.len.ensures);
    }
