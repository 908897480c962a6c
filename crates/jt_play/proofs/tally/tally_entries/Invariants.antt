use Rattle.std.specs.Prelude.{◌≡◌, take}
use Rattle.jt_value.specs.Sameness.{key_of}
use Rattle.jt_play.specs.Holding.{rows_in, tally_of}
use Rattle.jt_play.proofs.tally.tally_entries.Given as goal

abbrev pub invariant-loop-entry : goal.invariant-loop-entry
invariant-loop-entry l = l.tally ≡ tally_of (rows_in (key_of l.phone) (take l.entry-index l.entries))
