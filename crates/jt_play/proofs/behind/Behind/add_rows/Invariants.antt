use Rattle.std.specs.Prelude.{◌≡◌, take}
use Rattle.jt_store.specs.Units.{fixes_in}
use Rattle.jt_play.specs.Behind.{went_by}
use Rattle.jt_play.proofs.behind.Behind.add_rows.Given as goal

abbrev pub invariant-loop-row : goal.invariant-loop-row
invariant-loop-row l = l.self ≡ went_by l.fn.self (fixes_in (take l.row-index l.rows))
