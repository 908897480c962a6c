use Rattle.std.proofs.Common.{◌∙◌, ◌≤◌, refl, sym, subst, length, arith}
use Rattle.jt_store.specs.Tables.{AreRows}
use Rattle.jt_store.proofs.Joining.{appended_rows}
use Rattle.jt_store.proofs.migrating.move_one.Goals as goal

pub returns-then-len-limit-clause-earlier : goal.returns-then-len-limit-clause-earlier
returns-then-len-limit-clause-earlier c =
    let over = c.if-len-limit.true in
    let length_is = c.len.ensures in
    (refl, record { digits = c.args.digits; registered = c.args.one.now.registered; rows = c.args.one.now.rows }, refl, (refl, refl), grind arith)

pub returns-then-len-limit-clause-later : goal.returns-then-len-limit-clause-later
returns-then-len-limit-clause-later c = returns-then-len-limit-clause-earlier c

pub returns-clause-earlier : goal.returns-clause-earlier
returns-clause-earlier c =
    let within = c.if-len-limit.false in
    let length_is = c.len.ensures in
    let few : length c.args.one.now.rows ≤ c.args.limit = grind arith in
    let same = c.in_ok-rows.ensures ∙ c.as_slice.ensures in
    (refl, (c.in_ok-registered.ensures, same), subst (AreRows c.args.limit) (sym same) (appended_rows c.args.limit c.args.one.now.rows c.requires few))

pub returns-clause-later : goal.returns-clause-later
returns-clause-later c = returns-clause-earlier c
