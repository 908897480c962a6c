use Rattle.std.proofs.Common.{take}
use Rattle.jt_store.specs.Migrating.{Joins}
use Rattle.jt_store.specs.Tables.{AreRows}
use Rattle.jt_store.proofs.migrating.take_all_in.Given as goal

abbrev pub invariant-loop-row : goal.invariant-loop-row
invariant-loop-row l = Joins l.initial.rows (take l.row-index l.more) l.rows × AreRows l.limit l.rows
