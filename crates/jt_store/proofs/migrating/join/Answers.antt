use Rattle.std.proofs.Common.{◌∙◌, ◌≤◌, ◌<◌, refl, sym, subst, length, arith}
use Rattle.std.specs.Prelude.{Err}
use Rattle.std.proofs.lemmas.Result.{err_from_is_err_and}
use Rattle.jt_store.specs.Places.{TakesAllIn}
use Rattle.jt_store.specs.Tables.{AreRows}
use Rattle.jt_store.proofs.Joining.{appended_rows, join_full, join_err}
use Rattle.jt_store.proofs.migrating.join.Goals as goal

pub returns-then-len-limit : goal.returns-then-len-limit
returns-then-len-limit c =
    let over = c.if-len-limit.true in
    let length_is = c.len.ensures in
    let more : c.args.limit < length c.args.earlier.now.rows = grind arith in
    let full = join_full c.args.limit c.args.digits c.args.earlier.now c.args.later.now more in
    (refl, full.0, full.1, full.2, full.3)

pub take_all_in-requires-clause-rows : goal.take_all_in-requires-clause-rows
take_all_in-requires-clause-rows c =
    let within = c.if-len-limit.false in
    let length_is = c.len.ensures in
    let few : length c.args.earlier.now.rows ≤ c.args.limit = grind arith in
    subst (AreRows c.args.limit) (sym (c.in_ok-rows.ensures ∙ c.as_slice.ensures)) (appended_rows c.args.limit c.args.earlier.now.rows c.requires.rows few)

pub returns-in_err-take_all_in : goal.returns-in_err-take_all_in
returns-in_err-take_all_in c =
    let p = err_from_is_err_and c.from_residual-in_err-take_all_in.result c.from_residual-in_err-take_all_in.ensures.1 in
    let failed = join_err c.args.limit c.args.digits c.args.earlier.now c.args.later.now c.in_ok-rows.rows c.take_all_in.new.rows c.in_err-take_all_in.field-0.0 (c.in_ok-rows.ensures ∙ c.as_slice.ensures) (subst (λ xs. TakesAllIn c.args.limit c.in_ok-rows.rows c.take_all_in.new.rows xs (Err c.in_err-take_all_in.field-0.0)) c.as_slice-2.ensures c.in_err-take_all_in.ensures) in
    rw (p.1, p.2) failed
