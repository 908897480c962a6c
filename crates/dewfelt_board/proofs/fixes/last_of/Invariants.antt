use Rattle.std.proofs.Common.{◌≡◌}
use Rattle.std.specs.Prelude.{IfSome}
use Rattle.dewfelt_board.proofs.fixes.last_of.Given as goal

abbrev pub invariant-loop-view : goal.invariant-loop-view
invariant-loop-view l = IfSome l.last (λ found. found.fix.number ≡ l.fn.number)
