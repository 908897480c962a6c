use Rattle.std.proofs.Common.{ℕ, List}
use Rattle.jt_store.specs.declared.migrating.Places.{Places}
use Rattle.jt_store.proofs.Migrations.{AreGathered, IsMoving}
use Rattle.jt_store.proofs.migrating.migrate.Given as goal

abbrev pub invariant-loop-digits : goal.invariant-loop-digits
invariant-loop-digits l =
    (goal.iterator-loop-digits).can_next l.digits-iterator ×
    (goal.iterator-loop-digits).is_finite l.digits-iterator ×
    ((entries : List (List ℕ × Places)) × AreGathered l.old entries × IsMoving l.limit l.old entries l.new l.digits-iterator)
