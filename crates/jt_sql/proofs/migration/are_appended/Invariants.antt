use Rattle.std.proofs.Common.{drop, None}
use Rattle.jt_store.specs.Migrating.{AreAppended}
use Rattle.jt_sql.proofs.migration.are_appended.Given as goal

abbrev pub invariant-loop-row : goal.invariant-loop-row
invariant-loop-row l = AreAppended l.last (drop l.row-index l.rows) → AreAppended None l.rows
