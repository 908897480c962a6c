-- What is so of words that were read. A step function for the proofs.
use Rattle.std.specs.Prelude.{List, ℕ}
use Rattle.jt_report_command.specs.Telling.{values_in_words}
use Rattle.jt_cli.specs.Ask.{Ask, Act, ReportFixes, ServeLinks, PassRowsOn, Asks, AskOnly, AskNothing, TakesMemory}
use Rattle.jt_cli.specs.declared.asked.Asked.{Asked}
use Rattle.jt_cli.specs.declared.asked.Asked.TheVariants as asked

-- they ask what was found and nothing else, they ask nothing, or memory was wanted before that was
-- known
abbrev pub AreRead : Asked → List (List ℕ) → Type 0
AreRead (asked.Act task) words = AskOnly (Act task) words
AreRead (asked.Report told) words = AskOnly (ReportFixes (values_in_words told)) words
AreRead (asked.Platform told) words = AskOnly (ServeLinks told.port told.sessions) words
AreRead (asked.Relay told) words = AskOnly (PassRowsOn told.phone) words
AreRead asked.Nothing words = AskNothing words
AreRead asked.Unread words = (ask : Ask) → Asks ask words → TakesMemory ask
