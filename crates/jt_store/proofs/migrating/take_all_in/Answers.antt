use Rattle.std.proofs.Common.{◌≡◌, ◌+◌, ◌∙◌, ◌++◌, ◌∷◌, [], ap, sym, subst, take, drop}
use Rattle.std.specs.Prelude.{Err}
use Rattle.std.proofs.lemmas.List.{take_more, take-append-drop}
use Rattle.std.proofs.lemmas.Result.{err_from_is_err_and}
use Rattle.jt_store.specs.declared.row.Row.{Row}
use Rattle.jt_store.specs.Migrating.{Joins}
use Rattle.jt_store.specs.Places.{TakesAllIn}
use Rattle.jt_store.proofs.Joining.{all_err, joins_push}
use Rattle.jt_store.proofs.migrating.take_all_in.Goals as goal

pub returns-in_err-take_in : goal.returns-in_err-take_in
returns-in_err-take_in c =
    let i = c.loop-row.row-index in
    let rows = c.args.more.now in
    let r = c.row-item.result in
    let front : take (i + 1) rows ≡ take i rows ++ r ∷ [] = take_more rows i r c.loop-row-test.true ∙ ap (λ (x : Row). take i rows ++ x ∷ []) (sym c.row-item.is) in
    let whole : (take i rows ++ r ∷ []) ++ drop (i + 1) rows ≡ rows = ap (λ xs. xs ++ drop (i + 1) rows) (sym front) ∙ take-append-drop (i + 1) rows in
    let p = err_from_is_err_and c.from_residual.result c.from_residual.ensures.1 in
    let failed = subst (λ xs. TakesAllIn c.args.limit c.args.rows.now c.take_in.new.rows xs (Err c.in_err-take_in.field-0.0)) whole
    (all_err c.args.limit c.args.rows.now (take i rows) c.loop-row.rows c.take_in.new.rows (drop (i + 1) rows) r c.in_err-take_in.field-0.0 c.loop-row.invariant.0 c.in_err-take_in.ensures) in
    rw (p.1, p.2) failed

pub loop-row-preserved : goal.loop-row-preserved
loop-row-preserved c =
    let i = c.loop-row.row-index in
    let rows = c.args.more.now in
    let r = c.row-item.result in
    let front : take (i + 1) rows ≡ take i rows ++ r ∷ [] = take_more rows i r c.loop-row-test.true ∙ ap (λ (x : Row). take i rows ++ x ∷ []) (sym c.row-item.is) in
    let took = c.in_ok-take_in.ensures in
    let joined = joins_push c.args.rows.now (take i rows) c.loop-row.rows r took.0 c.loop-row.invariant.0 took.1 in
    (subst (λ xs. Joins c.args.rows.now xs c.take_in.new.rows) (sym front) (subst (Joins c.args.rows.now (take i rows ++ r ∷ [])) (sym took.2) joined), took.3)
