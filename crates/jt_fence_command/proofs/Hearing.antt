-- How a tally hears a line of a track.
use Rattle.std.proofs.Common.{◌≡◌, ◌+◌, ℕ, IsTrue, List, [], ◌++◌, Result, Ok, Err, refl, sym, ap, ◌∙◌, append-nil}
use Rattle.std.specs.Prelude.{IfOk}
use Rattle.jt_value.specs.declared.memory.Memory.{Memory}
use Rattle.jt_position.specs.declared.fixed.Fixed.{Fixed}
use Rattle.jt_regions.specs.declared.change.RegionChange.{RegionChange}
use Rattle.jt_regions.specs.Tables.{Applies}
use Rattle.jt_regions.proofs.Changing.{change_says}
use Rattle.jt_fence.specs.Settling.{settled_on}
use Rattle.jt_fence.specs.Watching.{Seen}
use Rattle.jt_input.specs.Text.{is_within}
use Rattle.jt_input.specs.Lines.{Outcome, HearsOn, HearsBad, Hears}
use Rattle.jt_input.specs.declared.hearer.Heard.{Heard}
use Rattle.jt_input.specs.declared.hearer.Heard.TheVariants as heard
use Rattle.jt_fence_command.specs.declared.alarm_tally.AlarmTally.{AlarmTally}
use Rattle.jt_fence_command.specs.declared.line.FenceLine.{FenceLine}
use Rattle.jt_fence_command.specs.declared.line.FenceLine.TheVariants.{Passed, Fix, Change, Bad}
use Rattle.jt_fence_command.specs.AlarmText.{alarm_lines}
use Rattle.jt_fence_command.specs.FenceLines.{meaning, says}
use Rattle.jt_fence_command.specs.Tally.{ChangesTally, after_change, after_line, alarms_behind, fix_behind, outcome_of}

-- ---- a change of the table

pub taken : (tally now : AlarmTally) (c : RegionChange) (watch : Seen) → Applies c tally.watch.table (Ok tt) watch.table → watch ≡ settled_on tally.watch watch.table
    → now ≡ record { watch = watch; fixes = tally.fixes; events = tally.events } → ChangesTally heard.Next tally c now
taken tally now c watch applies settled is = (
  watch.table,
  change_says c tally.watch.table (Ok tt) watch.table applies,
  is ∙ ap (λ (seen : Seen). record { watch = seen; fixes = tally.fixes; events = tally.events }) settled,
)

-- ---- a line

-- what comes of a line that says this, and of more lines
abbrev pub line_then : AlarmTally → ℕ → List (List ℕ) → FenceLine → Outcome AlarmTally
line_then tally number more line = after_line tally number (λ next. outcome_of next (number + 1) more) line

meaning_is : (number : ℕ) (line : List ℕ) (said : FenceLine) → IsTrue (is_within number line) → said ≡ says line → meaning number line ≡ said
unfolding meaning
meaning_is number line said within is = rw (within) (sym is)

pub hears_passed : (tally : AlarmTally) (number : ℕ) (line text : List ℕ) → IsTrue (is_within number line) → Passed ≡ says line → HearsOn outcome_of tally tally number line text text
hears_passed tally number line text within is = record {
  added = [];
  text_is = sym (append-nil text);
  next = λ more. ap (line_then tally number more) (meaning_is number line Passed within is);
}

pub hears_fix : (old new : AlarmTally) (number : ℕ) (line text text_now : List ℕ) (fixed : Fixed) → IsTrue (is_within number line) → Fix fixed ≡ says line
    → new ≡ fix_behind old fixed → text_now ≡ text ++ alarm_lines new.fixes (alarms_behind old fixed) → HearsOn outcome_of old new number line text text_now
hears_fix old new number line text text_now fixed within is after text_is = record {
  added = alarm_lines (fix_behind old fixed).fixes (alarms_behind old fixed);
  text_is = text_is ∙ ap (λ (tally : AlarmTally). text ++ alarm_lines tally.fixes (alarms_behind old fixed)) after;
  next = λ more.
      ap (line_then old number more) (meaning_is number line (Fix fixed) within is)
      ∙ ap (λ (tally : AlarmTally). printed old fixed (outcome_of tally (number + 1) more)) (sym after);
}
  where
    printed : AlarmTally → Fixed → Outcome AlarmTally → Outcome AlarmTally
    printed tally fixed outcome = record outcome { text = alarm_lines (fix_behind tally fixed).fixes (alarms_behind tally fixed) ++ outcome.text }

changed : (heard : Heard) (old new : AlarmTally) (number : ℕ) (line text : List ℕ) (c : RegionChange) → meaning number line ≡ Change c → ChangesTally heard old c new
    → Hears heard outcome_of old new number line text text
changed heard.Next old new number line text c is did = record {
  added = [];
  text_is = sym (append-nil text);
  next = λ more.
      ap (line_then old number more) is
      ∙ ap (after_change old number (λ next. outcome_of next (number + 1) more)) did.1
      ∙ ap (λ (tally : AlarmTally). outcome_of tally (number + 1) more) (sym did.2);
}
changed heard.Bad old new number line text c is did = record {
  text_is = refl;
  same = did.1;
  whole = λ more. ap (line_then old number more) is ∙ ap (after_change old number (λ next. outcome_of next (number + 1) more)) did.0;
}
changed (heard.Settled status) old new number line text c is did = absurd did

pub hears_change : (result : Result Heard Memory) (old new : AlarmTally) (number : ℕ) (line text : List ℕ) (c : RegionChange) → IsTrue (is_within number line) → Change c ≡ says line
    → IfOk result (λ heard. ChangesTally heard old c new) → IfOk result (λ heard. Hears heard outcome_of old new number line text text)
hears_change (Ok heard) old new number line text c within is did = changed heard old new number line text c (meaning_is number line (Change c) within is) did
hears_change (Err memory) old new number line text c within is did = tt

pub hears_bad : (tally : AlarmTally) (number : ℕ) (line text : List ℕ) → IsTrue (is_within number line) → Bad ≡ says line → HearsBad outcome_of tally tally number line text text
hears_bad tally number line text within is = record { text_is = refl; same = refl; whole = λ more. ap (line_then tally number more) (meaning_is number line Bad within is) }
