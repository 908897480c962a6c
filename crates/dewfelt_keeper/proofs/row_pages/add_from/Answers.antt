use Rattle.std.proofs.Common.{◌+◌, Some, List, sym, subst}
use Rattle.jt_value.specs.Sameness.{key_of}
use Rattle.jt_store.specs.declared.row.Row.{Row}
use Rattle.jt_store.specs.Tables.{WhereKnown}
use Rattle.dewfelt_keeper.specs.RowPages.{AddsFrom}
use Rattle.dewfelt_keeper.proofs.RowPaging.{added, ended}
use Rattle.dewfelt_keeper.proofs.row_pages.add_from.Goals as goal

pub returns-in_ok-push-in-Ok-Some-clause-answer : goal.returns-in_ok-push-in-Ok-Some-clause-answer
returns-in_ok-push-in-Ok-Some-clause-answer g c =
    let t = g.K.Keeper.tables c.args.keeper.now in
    let key = key_of c.args.phone.now in
    let answer = rw c.in-Ok-Some.field-0-is at c.in-Ok-Some.ensures.answer in
    let more = added t key (g.K.Keeper.limit c.args.keeper.now) c.args.number c.in-Ok-Some.row c.args.page.now.items answer.1 c.in-Ok-Some.ensures.rows in
    (answer.0, subst (λ (items : List Row). WhereKnown t (λ x. AddsFrom (x.rows key) c.args.number c.args.page.now.items items (Some (c.in-Ok-Some.row.number + 1)))) (sym {A = List Row} c.in_ok-push-in-Ok-Some.ensures.items) more)

pub returns-in-Ok-None-clause-answer : goal.returns-in-Ok-None-clause-answer
returns-in-Ok-None-clause-answer g c =
    let answer = rw c.in-Ok-None.field-0-is at c.in-Ok-None.ensures.answer in
    (answer.0, ended (g.K.Keeper.tables c.args.keeper.now) (key_of c.args.phone.now) c.args.number c.args.page.now.items answer.1)
