use Rattle.jt_play.proofs.Going.{by_row_more}
use Rattle.jt_play.proofs.behind.Behind.add_rows.Goals as goal

pub loop-row-preserved : goal.loop-row-preserved
loop-row-preserved c =
    by_row_more c.args.self.now c.loop-row.self c.add_row.new.self c.args.rows.now c.loop-row.row-index c.row-item.result c.loop-row-test.true c.row-item.is c.loop-row.invariant c.in_ok-add_row.ensures
