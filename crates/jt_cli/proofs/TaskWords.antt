-- The words of tasks, of `platform`, of `relay` and of `report`.
use Rattle.std.proofs.Common.{◌≡◌, ℕ, eqb, Bool, true, false, if◌then◌else◌, List, [], ◌∷◌, map, codes, length, Option, None, refl, sym, ap, subst, ◌∙◌, arith}
use Rattle.std.proofs.lemmas.Bool.{ne_eqb}
use Rattle.std.specs.Str.{bytes_eq}
use Rattle.jt_words.specs.Platform.{PlatformWords as AreWords}
use Rattle.jt_relay_command.specs.RelayWords.{AreWords as AreRelayWords}
use Rattle.jt_report_command.specs.ReportWords.{ReportValues, AreWords as AreReportWords}
use Rattle.jt_value.specs.declared.phone.Phone.{Phone}
use Rattle.jt_cli.specs.Words.{task_named, task_of, task_valued, telling}
use Rattle.jt_cli.specs.declared.task.Task.{Task}

-- ---- what the code finds

pub of_one : {X : Type 0} (f : X → List ℕ) (word : List ℕ) (others : List X) (found : Option Task) → length others ≡ 0
    → found ≡ task_named word → found ≡ task_of (word ∷ map f others)
of_one f word [] found none told = told
of_one f word (value ∷ more) found none told = absurd (omega (arith, none))

pub of_two : {X : Type 0} (f : X → List ℕ) (word value : List ℕ) (others : List X) (first : X) (more : List X) (found : Option Task)
    → others ≡ first ∷ more → eqb (length more) 0 ≡ true → value ≡ f first → found ≡ task_valued word value → found ≡ task_of (word ∷ map f others)
of_two f word value others first [] found is none same told = rw is (subst (λ (v : List ℕ). found ≡ task_valued word v) same told)
of_two f word value others first (second ∷ more) found is none same told =
    let some : eqb (length (second ∷ more)) 0 ≡ false = ne_eqb (length (second ∷ more)) 0 (λ e. omega (arith, e)) in absurd cc

pub of_more : {X : Type 0} (f : X → List ℕ) (word : List ℕ) (others : List X) (first : X) (more : List X)
    → others ≡ first ∷ more → eqb (length more) 0 ≡ false → None ≡ task_of (word ∷ map f others)
of_more f word others first [] is some = absurd cc
of_more f word others first (second ∷ more) is some = rw is refl

pub of_first : {X : Type 0} (f : X → List ℕ) (words : List X) (first : X) (others : List X) (word : List ℕ) (found : Option Task)
    → words ≡ first ∷ others → word ≡ f first → found ≡ task_of (word ∷ map f others) → found ≡ task_of (map f words)
of_first f words first others word found is same told = rw is (subst (λ (w : List ℕ). found ≡ task_of (w ∷ map f others)) same told)

pub of_none : {X : Type 0} (f : X → List ℕ) (words : List X) → length words ≡ 0 → None ≡ task_of (map f words)
of_none f [] h = refl
of_none f (word ∷ words) h = absurd (omega (arith, h))

-- ---- words with options

chosen : (b : Bool) (found : Option Task) → found ≡ None → (if b then found else None) ≡ None
chosen true found is = is
chosen false found is = refl

no_task : (word : List ℕ) (options : List (List ℕ)) → task_named word ≡ None → ((value : List ℕ) → task_valued word value ≡ None)
    → task_of (word ∷ options) ≡ None
no_task word [] alone valued = alone
no_task word (value ∷ []) alone valued = valued value
no_task word (value ∷ more ∷ words) alone valued = refl

by_first : (words options : List (List ℕ)) (word : List ℕ) → words ≡ word ∷ options → task_named word ≡ None
    → ((value : List ℕ) → task_valued word value ≡ None) → task_of words ≡ None
by_first words options word is alone valued = rw is (no_task word options alone valued)

-- the words of `platform` are those of no task
pub platform_alone : (port sessions : ℕ) (words : List (List ℕ)) → AreWords port sessions words → task_of words ≡ None
unfolding task_named task_valued telling
platform_alone port sessions words are = by_first words are.options (codes "platform") are.command refl (λ value. chosen (bytes_eq value (codes "--hex")) None refl)

-- the words of `report` are those of no task
pub report_alone : (told : ReportValues) (words : List (List ℕ)) → AreReportWords told words → task_of words ≡ None
unfolding task_named task_valued telling
report_alone told words are =
    by_first words are.words_are.options (codes "report") are.words_are.command refl (λ value. chosen (bytes_eq value (codes "--hex")) None refl)

-- the words of `relay` are those of no task
pub relay_alone : (phone : Phone) (words : List (List ℕ)) → AreRelayWords phone words → task_of words ≡ None
unfolding task_named task_valued telling
relay_alone phone words are = by_first words are.option (codes "relay") are.command refl (λ value. chosen (bytes_eq value (codes "--hex")) None refl)

-- ---- the first words of the others differ in their lengths

abbrev first_length : List (List ℕ) → ℕ
first_length [] = 0
first_length (word ∷ words) = length word

two_commands : (words first second : List (List ℕ)) (one other : List ℕ) → words ≡ one ∷ first → words ≡ other ∷ second → length one ≡ length other
two_commands words first second one other is that = ap first_length (sym is ∙ that)

-- and not those of `platform`
pub platform_or_report : (port sessions : ℕ) (told : ReportValues) (words : List (List ℕ)) → AreWords port sessions words → AreReportWords told words → ⊥
platform_or_report port sessions told words are report =
    let same = two_commands words are.options report.words_are.options (codes "platform") (codes "report") are.command report.words_are.command in omega (arith, same)

pub platform_or_relay : (port sessions : ℕ) (phone : Phone) (words : List (List ℕ)) → AreWords port sessions words → AreRelayWords phone words → ⊥
platform_or_relay port sessions phone words are relay =
    let same = two_commands words are.options relay.option (codes "platform") (codes "relay") are.command relay.command in omega (arith, same)

pub relay_or_report : (phone : Phone) (told : ReportValues) (words : List (List ℕ)) → AreRelayWords phone words → AreReportWords told words → ⊥
relay_or_report phone told words are report =
    let same = two_commands words are.option report.words_are.options (codes "relay") (codes "report") are.command report.words_are.command in omega (arith, same)
