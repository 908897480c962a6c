-- What words ask of the program. To be believed.
use Rattle.std.specs.Prelude.{◌≡◌, ℕ, List, Some}
use Rattle.jt_relay_command.specs.RelayWords.{AreWords as AreRelayWords}
use Rattle.jt_report_command.specs.ReportWords.{ReportValues, AreWords as AreReportWords}
use Rattle.jt_value.specs.declared.phone.Phone.{Phone}
use Rattle.jt_words.specs.Platform.{PlatformWords}
use Rattle.jt_cli.specs.Words.{task_of}
use Rattle.jt_cli.specs.declared.task.Task.{Task}

-- a task over the source and the sink; fixes to report, with what `report` is told; links to serve,
-- at a port and so many; or rows of a phone to pass on
pub data Ask : Type 0 where
  Act : Task → Ask
  ReportFixes : ReportValues → Ask
  ServeLinks : ℕ → ℕ → Ask
  PassRowsOn : Phone → Ask

-- the words after the program's name that ask this
abbrev pub Asks : Ask → List (List ℕ) → Type 0
Asks (Act task) words = task_of words ≡ Some task
Asks (ReportFixes told) words = AreReportWords told words
Asks (ServeLinks port sessions) words = PlatformWords port sessions words
Asks (PassRowsOn phone) words = AreRelayWords phone words

-- these words ask this and nothing else
pub record AskOnly (ask : Ask) (words : List (List ℕ)) : Type 0 where
  pub asks : Asks ask words
  pub only : (other : Ask) → Asks other words → other ≡ ask

-- these words ask nothing
abbrev pub AskNothing : List (List ℕ) → Type 0
AskNothing words = (ask : Ask) → Asks ask words → ⊥

-- these words ask that links are served
abbrev pub AskLinks : List (List ℕ) → Type 0
AskLinks words = (port : ℕ) × (sessions : ℕ) × Asks (ServeLinks port sessions) words

-- memory is taken to read words that ask this
abbrev pub TakesMemory : Ask → Type 0
TakesMemory (Act task) = ⊥
TakesMemory (ReportFixes told) = Unit {0}
TakesMemory (ServeLinks port sessions) = ⊥
TakesMemory (PassRowsOn phone) = ⊥
