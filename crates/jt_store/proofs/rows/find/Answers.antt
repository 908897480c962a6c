use Rattle.jt_store.proofs.Rising.{found_one}
use Rattle.jt_store.proofs.rows.find.Goals as goal

pub returns-then-row-number : goal.returns-then-row-number
returns-then-row-number c = found_one c.args.rows.now c.in-Some.row.now c.args.number c.requires c.in-Some.ensures c.if-row-number.true
