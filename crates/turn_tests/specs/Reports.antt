-- What the reports of many threads say of the history. To be believed.
use Rattle.std.specs.Prelude.{◌≡◌, ℕ, List, Option}
use Rattle.jt_turn.specs.declared.entry.Ended.{Ended}
use Rattle.jt_turn.specs.Histories.{entries_of}
use Rattle.jt_turn.specs.declared.entry.Entry.{Entry}
use Rattle.turn_tests.specs.declared.many_threads.Told.{Told}
use mathlib.Core.Option.{some}
use lib.ListN.{get_elem?}

-- the pass of a thread, as it was joined
abbrev pub ended_of : Told → Ended ℕ (Option ℕ)
ended_of report = record { number = report.number; mine = report.entries }

-- the history's entries of each report's number are what its thread was told, in order
abbrev pub AllTold : List (Entry ℕ (Option ℕ)) → List Told → Type 0
AllTold history reports = (m : ℕ) (report : Told) → get_elem? reports m ≡ some report → entries_of report.number history ≡ report.entries
