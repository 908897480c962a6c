-- What comes of the lines of a track, as a function of what is kept of it: the law of the command ties it to what the fixes of the
-- track raise. Step definitions for the proofs.
use Rattle.std.specs.Prelude.{◌≡◌, ℕ, ◌+◌, ◌-◌, ◌^◌, min, List, [], ◌∷◌, length, map, Option, Some, None}
use Rattle.std.specs.List.{flat_map}
use Rattle.jt_value.specs.Counts.{counted}
use Rattle.jt_position.specs.declared.fixed.Fixed.{Fixed}
use Rattle.jt_regions.specs.declared.change.RegionChange.{RegionChange}
use Rattle.jt_regions.specs.Tables.{Regions}
use Rattle.jt_regions.specs.Changes.{regions_after}
use Rattle.jt_fence.specs.declared.alarm.Alarm.{Alarm}
use Rattle.jt_fence.specs.Watching.{alarms_of_fix, watched_behind}
use Rattle.jt_fence.specs.Settling.{settled_on, unwatched}
use Rattle.jt_input.specs.Lines.{Outcome, answer_of, bad_outcome, printing}
use Rattle.jt_input.specs.Reply.{Reply}
use Rattle.jt_input.specs.declared.hearer.Heard.{Heard}
use Rattle.jt_input.specs.declared.hearer.Heard.TheVariants as heard
use Rattle.jt_input.specs.declared.status.Status.TheVariants as status
use Rattle.jt_fence_command.specs.declared.alarm_tally.AlarmTally.{AlarmTally}
use Rattle.jt_fence_command.specs.declared.line.FenceLine.{FenceLine}
use Rattle.jt_fence_command.specs.declared.line.FenceLine.TheVariants.{Passed, Fix, Change, Bad}
use Rattle.jt_fence_command.specs.AlarmText.{alarm_lines, totals_line}
use Rattle.jt_fence_command.specs.FenceLines.{meaning}

-- before the first line
abbrev pub first_tally : AlarmTally
first_tally = record { watch = unwatched; fixes = 0; events = 0 }

-- so many more, up to where counts stand still
abbrev pub counted_by : ℕ → ℕ → ℕ
counted_by more count = min (count + more) (2 ^ 64 - 1)

-- the alarms that the next fix raises
abbrev pub alarms_behind : AlarmTally → Fixed → List Alarm
alarms_behind tally fixed = flat_map (alarms_of_fix fixed) tally.watch.watched

-- the next fix was taken
abbrev pub fix_behind : AlarmTally → Fixed → AlarmTally
fix_behind tally fixed = record {
  watch = record { table = tally.watch.table; watched = map (watched_behind fixed) tally.watch.watched };
  fixes = counted tally.fixes;
  events = counted_by (length (alarms_behind tally fixed)) tally.events;
}

-- a change made this of the table
abbrev pub change_behind : AlarmTally → Regions → AlarmTally
change_behind tally table = record { watch = settled_on tally.watch table; fixes = tally.fixes; events = tally.events }

-- what was done with a change: it was taken, or refused, and then all is as before
abbrev pub ChangesTally : Heard → AlarmTally → RegionChange → AlarmTally → Type 0
ChangesTally heard.Next old change new = (table : Regions) × (regions_after change old.watch.table ≡ Some table) × (new ≡ change_behind old table)
ChangesTally heard.Bad old change new = (regions_after change old.watch.table ≡ None) × (new ≡ old)
ChangesTally (heard.Settled status) old change new = ⊥

-- a change is taken, or its line is bad
abbrev pub after_change : AlarmTally → ℕ → (AlarmTally → Outcome AlarmTally) → Option Regions → Outcome AlarmTally
after_change tally number next (Some table) = next (change_behind tally table)
after_change tally number next None = bad_outcome tally number

-- a line is passed over, taken, or ends the track as the bad line of this number
abbrev pub after_line : AlarmTally → ℕ → (AlarmTally → Outcome AlarmTally) → FenceLine → Outcome AlarmTally
after_line tally number next Passed = next tally
after_line tally number next (Fix fixed) =
    printing (alarm_lines (counted tally.fixes) (alarms_behind tally fixed)) (next (fix_behind tally fixed))
after_line tally number next (Change change) = after_change tally number next (regions_after change tally.watch.table)
after_line tally number next Bad = bad_outcome tally number

-- what comes of these lines, the first of which has this number
abbrev pub outcome_of : AlarmTally → ℕ → List (List ℕ) → Outcome AlarmTally
outcome_of tally number [] = record { left = tally; text = totals_line tally.fixes tally.events; bad = None; status = status.Done }
outcome_of tally number (line ∷ more) =
    after_line tally number (λ next. outcome_of next (number + 1) more) (meaning number line)

-- the text of a track and the status, as a function of its octets
unfoldable pub fence_reply : List ℕ → Reply
fence_reply input = answer_of outcome_of first_tally input
