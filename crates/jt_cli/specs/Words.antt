-- The words of each command, which stand after the program's name. To be believed.
use Rattle.std.specs.Prelude.{◌≡◌, ℕ, ◌==◌, List, [], ◌∷◌, codes, Option, Some, None, if◌then◌else◌}
use Rattle.std.specs.Option.{option_map, option_and_then}
use Rattle.std.specs.Str.{bytes_eq}
use Rattle.jt_view.specs.declared.command.Encoding.{Encoding}
use Rattle.jt_view.specs.declared.command.Encoding.TheVariants.{Octets, Hex}
use Rattle.jt_view.specs.declared.command.Report.TheVariants.{View, Check}
use Rattle.jt_script.specs.EventLines.{number_in}
use Rattle.jt_cli.specs.declared.task.TheConstants.{MAKE_MOST}
use Rattle.jt_cli.specs.declared.task.Task.{Task}
use Rattle.jt_cli.specs.declared.task.Task.TheVariants as tasks
use Rattle.jt_value.specs.declared.phone.Phone.{Phone}
use Rattle.jt_words.specs.Platform.{PlatformWords}
use Rattle.jt_relay_command.specs.RelayWords.{AreWords as AreRelayWords}
use Rattle.jt_report_command.specs.ReportWords.{ReportValues, AreWords as AreReportWords}

-- ---- the words of tasks, a line each

-- what is told of octets or of digits
unfoldable pub telling : Encoding → List ℕ → Option Task
telling encoding word =
    if bytes_eq word (codes "view") then Some (tasks.Tell (record { report = View; encoding = encoding }))
    else if bytes_eq word (codes "check") then Some (tasks.Tell (record { report = Check; encoding = encoding }))
    else None

-- one word
unfoldable pub task_named : List ℕ → Option Task
task_named word =
    if bytes_eq word (codes "rehearse") then Some tasks.Rehearse
    else if bytes_eq word (codes "fence") then Some tasks.Fence
    else if bytes_eq word (codes "gateway") then Some tasks.Gateway
    else if bytes_eq word (codes "orders") then Some tasks.Orders
    else telling Octets word

-- the number from 1 to 20,000 that a word writes in decimal digits
unfoldable pub count_in : List ℕ → Option ℕ
count_in word = option_and_then (λ count. if count == 0 then None else Some count) (number_in MAKE_MOST word)

-- a word and its value
unfoldable pub task_valued : List ℕ → List ℕ → Option Task
task_valued word value =
    if bytes_eq word (codes "make") then option_map tasks.Make (count_in value)
    else if bytes_eq value (codes "--hex") then telling Hex word
    else None

-- the task that words ask
abbrev pub task_of : List (List ℕ) → Option Task
task_of [] = None
task_of (word ∷ []) = task_named word
task_of (word ∷ value ∷ []) = task_valued word value
task_of (word ∷ value ∷ other ∷ words) = None

-- ---- words that are those of none

-- they ask no task
abbrev pub AreNoTask : List (List ℕ) → Type 0
AreNoTask words = task_of words ≡ None

-- they are no words of `platform`
abbrev pub AreNoPlatform : List (List ℕ) → Type 0
AreNoPlatform words = (port sessions : ℕ) → PlatformWords port sessions words → ⊥

-- they are no words of `report`
abbrev pub AreNoReport : List (List ℕ) → Type 0
AreNoReport words = (told : ReportValues) → AreReportWords told words → ⊥

-- they are no words of `relay`
abbrev pub AreNoRelay : List (List ℕ) → Type 0
AreNoRelay words = (phone : Phone) → AreRelayWords phone words → ⊥
