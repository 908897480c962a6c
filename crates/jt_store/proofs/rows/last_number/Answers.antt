use Rattle.std.proofs.Common.{sym, length, ◌-◌, ◌<◌, arith}
use Rattle.std.proofs.lemmas.Option.{slice_get_within}
use Rattle.jt_store.proofs.Rising.{last_is}
use Rattle.jt_store.proofs.rows.last_number.Goals as goal

pub returns-in-Some : goal.returns-in-Some
returns-in-Some c =
    let at = sym c.in-Some.ensures.value in
    let within : length c.args.rows.now - 1 < length c.args.rows.now = slice_get_within c.args.rows.now (length c.args.rows.now - 1) c.in-Some.row.now at in
    sym (last_is c.args.rows.now c.in-Some.row.now (length c.args.rows.now - 1) (omega arith) at)
