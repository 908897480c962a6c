use Rattle.std.proofs.Common.{length}
use Rattle.store_tests.proofs.migrate_calls.+follow.Given as goal

abbrev pub decreases-follow : goal.decreases-follow
decreases-follow l = length l.rows.now
