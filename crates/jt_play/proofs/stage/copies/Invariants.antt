use Rattle.std.specs.Prelude.{◌≡◌, take}
use Rattle.jt_play.proofs.stage.copies.Given as goal

abbrev pub invariant-loop-entry : goal.invariant-loop-entry
invariant-loop-entry l = l.all ≡ take l.entry-index l.entries
