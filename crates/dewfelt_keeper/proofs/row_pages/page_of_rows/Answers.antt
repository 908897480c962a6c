use Rattle.std.proofs.Common.{◌∙◌, arith, Some, subst}
use Rattle.jt_value.specs.Sameness.{key_of}
use Rattle.jt_store.specs.Tables.{WhereKnown}
use Rattle.dewfelt_keeper.specs.RowPages.{AddsFrom}
use Rattle.dewfelt_keeper.proofs.RowPaging.{grown_more}
use Rattle.dewfelt_keeper.proofs.row_pages.page_of_rows.Goals as goal

pub loop-alloc-preserved : goal.loop-alloc-preserved
loop-alloc-preserved g c =
    let t = g.K.Keeper.tables c.args.keeper.now in
    let key = key_of c.args.phone.now in
    let answer = rw c.in-Ok-Some.field-0-is at c.in-Ok-Some.ensures.answer in
    let more = rw c.in-Ok-Some.field-0-is at c.in-Ok-Some.ensures.more in
    let adds = subst (λ o. WhereKnown o (λ x. AddsFrom (x.rows key) c.loop-alloc.number c.loop-alloc.page.items c.add_from.new.page.items (Some c.in-Ok-Some.next))) c.loop-alloc.invariant.same answer.1 in
    record {
      same = answer.0 ∙ c.loop-alloc.invariant.same;
      grown = grown_more key c.args.from c.loop-alloc.number c.in-Ok-Some.next c.loop-alloc.page.items c.add_from.new.page.items t c.loop-alloc.invariant.grown adds;
      few = omega (arith, more.1, c.loop-alloc-test.true, c.len.ensures);
    }
