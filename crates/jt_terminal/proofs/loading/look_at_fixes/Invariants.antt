use Rattle.std.proofs.Common.{All, take}
use Rattle.jt_position.specs.Fixes.{IsFix}
use Rattle.jt_terminal.proofs.loading.look_at_fixes.Given as goal

abbrev pub invariant-loop-fix : goal.invariant-loop-fix
invariant-loop-fix l = All IsFix (take l.fix-index l.fixes)
