use Rattle.jt_store.proofs.Joining.{repeat_there}
use Rattle.jt_store.proofs.migrating.number_for.Goals as goal

pub returns-then-is_stored : goal.returns-then-is_stored
returns-then-is_stored c = repeat_there _ c.args.rows.now c.args.row.now c.in-Back.candidate c.in-Back.anew c.last_number.ensures c.in-Back.ensures.place (c.is_stored.ensures.0 c.if-is_stored.true)
