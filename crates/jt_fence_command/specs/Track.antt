-- What is printed of the lines of a track, by the alarms that each fix raises behind all that came before it. To be believed.
use Rattle.std.specs.Prelude.{◌≡◌, ◌⊎◌, ℕ, ◌+◌, List, [], ◌∷◌, ◌++◌, length, Option, Some, None}
use Rattle.jt_value.specs.Counts.{counted}
use Rattle.jt_position.specs.declared.fixed.Fixed.{Fixed}
use Rattle.jt_regions.specs.declared.change.RegionChange.{RegionChange}
use Rattle.jt_regions.specs.Tables.{Regions}
use Rattle.jt_regions.specs.Changes.{regions_after}
use Rattle.jt_fence.specs.declared.alarm.Alarm.{Alarm}
use Rattle.jt_fence.specs.declared.step.Step.{Step}
use Rattle.jt_fence.specs.declared.step.Step.TheVariants as step
use Rattle.jt_fence.specs.Alarms.{AreAlarms}
use Rattle.jt_fence.specs.Track.{IsTableOf}
use Rattle.jt_input.specs.Lines.{bad_line}
use Rattle.jt_input.specs.Reply.{Reply}
use Rattle.jt_input.specs.Text.{lines_of}
use Rattle.jt_input.specs.declared.status.Status.TheVariants as status
use Rattle.jt_fence_command.specs.declared.line.FenceLine.{FenceLine}
use Rattle.jt_fence_command.specs.declared.line.FenceLine.TheVariants.{Passed, Fix, Change, Bad}
use Rattle.jt_fence_command.specs.AlarmText.{alarm_lines, totals_line}
use Rattle.jt_fence_command.specs.FenceLines.{meaning}
use Rattle.jt_fence_command.specs.Tally.{counted_by}

-- what came before a line: the changes and fixes, newest first, and how many fixes and alarms there were, counts that stand still
-- at 2^64 - 1
pub record Before : Type 0 where
  pub track : List Step
  pub fixes : ℕ
  pub events : ℕ

abbrev pub nothing : Before
nothing = record { track = []; fixes = 0; events = 0 }

-- what the table of the track makes of a change: another table, or none
abbrev pub Makes : List Step → RegionChange → Option Regions → Type 0
Makes track change made = (table : Regions) × IsTableOf track table × (regions_after change table ≡ made)

abbrev pub bad_reply : ℕ → Reply
bad_reply number = record { text = bad_line number; status = status.Refused }

-- the next fix raises these alarms, which are printed, and then comes the rest
pub record TellsFix (before : Before) (fixed : Fixed) (Rest : Before → Reply → Type 0) (reply : Reply) : Type 0 where
  pub alarms : List Alarm
  pub are : AreAlarms before.track fixed alarms
  pub rest : Reply
  pub reply_is : reply ≡ record { text = alarm_lines (counted before.fixes) alarms ++ rest.text; status = rest.status }
  pub rest_is : Rest (record {
    track = step.Passed fixed ∷ before.track;
    fixes = counted before.fixes;
    events = counted_by (length alarms) before.events;
  }) rest

-- a line of this number, and what comes behind it
abbrev pub TellsLine : Before → ℕ → (Before → Reply → Type 0) → FenceLine → Reply → Type 0
TellsLine before number Rest Passed reply = Rest before reply
TellsLine before number Rest (Fix fixed) reply = TellsFix before fixed Rest reply
TellsLine before number Rest (Change change) reply =
    ((table : Regions) × Makes before.track change (Some table) × Rest (record before { track = step.Changed change ∷ before.track }) reply)
    ⊎ (Makes before.track change None × (reply ≡ bad_reply number))
TellsLine before number Rest Bad reply = reply ≡ bad_reply number

-- the reply to these lines, of which the first has this number
abbrev pub Tells : Before → ℕ → List (List ℕ) → Reply → Type 0
Tells before number [] reply = reply ≡ record { text = totals_line before.fixes before.events; status = status.Done }
Tells before number (line ∷ more) reply = TellsLine before number (λ next rest. Tells next (number + 1) more rest) (meaning number line) reply

-- the reply to a track is what the alarms of its fixes are printed as
abbrev pub TellsAlarms : List ℕ → Reply → Type 0
TellsAlarms input reply = Tells nothing 1 (lines_of input) reply
