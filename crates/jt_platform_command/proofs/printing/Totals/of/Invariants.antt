use Rattle.std.proofs.Common.{◌≡◌, take}
use Rattle.jt_platform_command.specs.Platform.{count_of, is_stored, is_repeat, is_renumbered}
use Rattle.jt_platform_command.proofs.printing.Totals.of.Given as goal

abbrev pub invariant-loop-entry : goal.invariant-loop-entry
invariant-loop-entry l = (l.totals.stored ≡ count_of is_stored (take l.entry-index l.history))
    × (l.totals.repeat ≡ count_of is_repeat (take l.entry-index l.history))
    × (l.totals.renumbered ≡ count_of is_renumbered (take l.entry-index l.history))
