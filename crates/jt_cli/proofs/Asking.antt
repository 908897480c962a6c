-- Words that ask one thing ask nothing else.
use Rattle.std.proofs.Common.{◌≡◌, ℕ, List, Option, Some, None, IfSome, MatchOption, ◌⊎◌, inl, inr, refl, ap, sym, subst}
use Rattle.jt_relay_command.specs.RelayWords.{AreWords as AreRelayWords}
use Rattle.jt_value.specs.declared.phone.Phone.{Phone}
use Rattle.jt_report_command.specs.ReportWords.{ReportValues, AreWords as AreReportWords}
use Rattle.jt_report_command.specs.Telling.{values_in_words}
use Rattle.jt_report_command.specs.declared.report_words.ReportWords.{ReportWords}
use Rattle.jt_words.specs.Platform.{PlatformWords as AreWords}
use Rattle.jt_cli.specs.Ask.{Ask, Act, ReportFixes, ServeLinks, PassRowsOn, Asks, AskLinks, AskOnly, AskNothing, TakesMemory}
use Rattle.jt_cli.specs.Words.{task_of, AreNoTask, AreNoPlatform, AreNoRelay, AreNoReport}
use Rattle.jt_cli.specs.declared.task.Task.{Task}
use Rattle.jt_cli.proofs.TaskWords.{platform_alone, platform_or_relay, platform_or_report, relay_alone, relay_or_report, report_alone}
use Rattle.jt_cli.proofs.ToldWords.{is_told, same_told, no_told}

-- ---- a task

no_task_is : (words : List (List ℕ)) (task : Task) → task_of words ≡ None → task_of words ≡ Some task → ⊥
no_task_is words task none some = absurd cc

task_only : (task : Task) (words : List (List ℕ)) → Some task ≡ task_of words → (other : Ask) → Asks other words → other ≡ Act task
task_only task words is (Act other) asks = let e : other ≡ task = cc (is, asks) in ap Act e
task_only task words is (ReportFixes told) asks = absurd (no_task_is words task (report_alone told words asks) (sym is))
task_only task words is (ServeLinks port sessions) asks = absurd (no_task_is words task (platform_alone port sessions words asks) (sym is))
task_only task words is (PassRowsOn phone) asks = absurd (no_task_is words task (relay_alone phone words asks) (sym is))

pub of_task : (task : Task) (words : List (List ℕ)) → Some task ≡ task_of words → AskOnly (Act task) words
of_task task words is = record { asks = sym is; only = task_only task words is }

-- ---- links to serve

platform_only : (port sessions : ℕ) (words : List (List ℕ)) → AreWords port sessions words
    → ((p s : ℕ) → AreWords p s words → (port ≡ p) × (sessions ≡ s)) → (other : Ask) → Asks other words → other ≡ ServeLinks port sessions
platform_only port sessions words are that (Act task) asks = absurd (no_task_is words task (platform_alone port sessions words are) asks)
platform_only port sessions words are that (ReportFixes told) asks = absurd (platform_or_report port sessions told words are asks)
platform_only port sessions words are that (ServeLinks p s) asks = let same = that p s asks in cc (same.0, same.1)
platform_only port sessions words are that (PassRowsOn phone) asks = absurd (platform_or_relay port sessions phone words are asks)

pub of_platform : (port sessions : ℕ) (words : List (List ℕ)) → AreWords port sessions words
    → ((p s : ℕ) → AreWords p s words → (port ≡ p) × (sessions ≡ s)) → AskOnly (ServeLinks port sessions) words
of_platform port sessions words are that = record { asks = are; only = platform_only port sessions words are that }

-- ---- rows to pass on

relay_only : (phone : Phone) (words : List (List ℕ)) → AreRelayWords phone words
    → ((p : Phone) → AreRelayWords p words → phone ≡ p) → AreNoTask words → AreNoPlatform words
    → (other : Ask) → Asks other words → other ≡ PassRowsOn phone
relay_only phone words are that task platform (Act other) asks = absurd (no_task_is words other task asks)
relay_only phone words are that task platform (ReportFixes told) asks = absurd (relay_or_report phone told words are asks)
relay_only phone words are that task platform (ServeLinks port sessions) asks = absurd (platform port sessions asks)
relay_only phone words are that task platform (PassRowsOn p) asks = ap PassRowsOn (sym (that p asks))

pub of_relay : (phone : Phone) (words : List (List ℕ)) → AreRelayWords phone words
    → ((p : Phone) → AreRelayWords p words → phone ≡ p) → AreNoTask words → AreNoPlatform words → AskOnly (PassRowsOn phone) words
of_relay phone words are that task platform = record { asks = are; only = relay_only phone words are that task platform }

-- ---- fixes to report

report_only : (found : Option ReportWords) (told : ReportWords) (words : List (List ℕ)) → found ≡ Some told
    → ((other : ReportValues) → AreReportWords other words → MatchOption found ⊥ (λ t. values_in_words t ≡ other)) → AreNoTask words → AreNoPlatform words → AreNoRelay words
    → (other : Ask) → Asks other words → other ≡ ReportFixes (values_in_words told)
report_only found told words is that task platform relay (Act other) asks = absurd (no_task_is words other task asks)
report_only found told words is that task platform relay (ReportFixes other) asks = ap ReportFixes (sym (same_told found told other is (that other asks)))
report_only found told words is that task platform relay (ServeLinks port sessions) asks = absurd (platform port sessions asks)
report_only found told words is that task platform relay (PassRowsOn phone) asks = absurd (relay phone asks)

pub of_report : (found : Option ReportWords) (told : ReportWords) (words : List (List ℕ)) → found ≡ Some told
    → IfSome found (λ t. AreReportWords (values_in_words t) words)
    → ((other : ReportValues) → AreReportWords other words → MatchOption found ⊥ (λ t. values_in_words t ≡ other)) → AreNoTask words → AreNoPlatform words → AreNoRelay words
    → AskOnly (ReportFixes (values_in_words told)) words
of_report found told words is are that task platform relay =
    record { asks = is_told words found told is are; only = report_only found told words is that task platform relay }

-- ---- nothing, or what memory was wanted for

pub of_nothing : (found : Option ReportWords) (words : List (List ℕ)) → found ≡ None
    → ((other : ReportValues) → AreReportWords other words → MatchOption found ⊥ (λ t. values_in_words t ≡ other)) → AreNoTask words → AreNoPlatform words → AreNoRelay words
    → AskNothing words
of_nothing found words is that task platform relay (Act other) asks = no_task_is words other task asks
of_nothing found words is that task platform relay (ReportFixes told) asks = no_told found told is (that told asks)
of_nothing found words is that task platform relay (ServeLinks port sessions) asks = platform port sessions asks
of_nothing found words is that task platform relay (PassRowsOn phone) asks = relay phone asks

pub of_want : (words : List (List ℕ)) → AreNoTask words → AreNoPlatform words → AreNoRelay words → (ask : Ask) → Asks ask words → TakesMemory ask
of_want words task platform relay (Act other) asks = no_task_is words other task asks
of_want words task platform relay (ReportFixes told) asks = tt
of_want words task platform relay (ServeLinks port sessions) asks = platform port sessions asks
of_want words task platform relay (PassRowsOn phone) asks = relay phone asks

-- ---- which words are answered the usage line

pub nothing_along : (read words : List (List ℕ)) → read ≡ words → AskNothing read → AskNothing words
nothing_along read words is nothing = subst AskNothing is nothing

none_of : (found : Option Task) → ((task : Task) → found ≡ Some task → ⊥) → found ≡ None
none_of None none = refl
none_of (Some task) none = absurd (none task refl)

abbrev pub AreNoneAlone : List (List ℕ) → Type 0
AreNoneAlone words = AreNoTask words × AreNoReport words × AreNoRelay words

pub nothing_alone : (read words : List (List ℕ)) → read ≡ words → AskNothing read → AreNoneAlone words
nothing_alone read words is nothing =
    subst AreNoneAlone is (none_of (task_of read) (λ task. nothing (Act task)), λ told. nothing (ReportFixes told), λ phone. nothing (PassRowsOn phone))

serve_no_report : (port sessions : ℕ) (told : ReportValues) → ReportFixes told ≡ ServeLinks port sessions → ⊥
serve_no_report port sessions told e = cc e

serve_no_relay : (port sessions : ℕ) (phone : Phone) → PassRowsOn phone ≡ ServeLinks port sessions → ⊥
serve_no_relay port sessions phone e = cc e

pub serve_alone : (port sessions : ℕ) (read words : List (List ℕ)) → read ≡ words → AskOnly (ServeLinks port sessions) read → AreNoneAlone words
serve_alone port sessions read words is only = subst AreNoneAlone is (
  platform_alone port sessions read only.asks,
  λ told asks. serve_no_report port sessions told (only.only (ReportFixes told) asks),
  λ phone asks. serve_no_relay port sessions phone (only.only (PassRowsOn phone) asks),
)

-- ---- words that ask for links

pub links_asked : {A M : Type 0} (port sessions : ℕ) (read words : List (List ℕ)) → read ≡ words → AskOnly (ServeLinks port sessions) read → A ⊎ M → A ⊎ (M × AskLinks words)
links_asked port sessions read words is only (inl still) = inl still
links_asked port sessions read words is only (inr memory) = inr (memory, (port, sessions, subst (λ (w : List (List ℕ)). Asks (ServeLinks port sessions) w) is only.asks))
