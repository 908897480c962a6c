-- The text of a track is that of the alarms which its fixes raise.
use Rattle.std.proofs.Common.{◌≡◌, ◌+◌, ℕ, List, [], ◌∷◌, ◌++◌, length, map, Option, Some, None, refl, ap, inl, inr}
use Rattle.std.specs.FinMap.{get-empty}
use Rattle.std.specs.Ordering.{nat_cmp}
use Rattle.jt_value.specs.Counts.{counted}
use Rattle.jt_position.specs.declared.fixed.Fixed.{Fixed}
use Rattle.jt_regions.specs.declared.change.RegionChange.{RegionChange}
use Rattle.jt_regions.specs.Tables.{Regions}
use Rattle.jt_regions.specs.Changes.{regions_after}
use Rattle.jt_fence.specs.declared.step.Step.TheVariants as step
use Rattle.jt_fence.specs.Settling.{settled_in}
use Rattle.jt_fence.specs.Track.{IsTableOf}
use Rattle.jt_fence.specs.Watching.{StandsFor, fences_of, watched_behind}
use Rattle.jt_fence.proofs.KeptLaws.{are_settled}
use Rattle.jt_fence.proofs.SettleLaws.{change_stands}
use Rattle.jt_fence.proofs.TakeLaws.{alarms_are, take_stands, watched_none}
use Rattle.jt_input.specs.Lines.{reply_of}
use Rattle.jt_input.specs.Text.{lines_of}
use Rattle.jt_fence_command.specs.declared.alarm_tally.AlarmTally.{AlarmTally}
use Rattle.jt_fence_command.specs.declared.line.FenceLine.{FenceLine}
use Rattle.jt_fence_command.specs.declared.line.FenceLine.TheVariants.{Passed, Fix, Change, Bad}
use Rattle.jt_fence_command.specs.AlarmText.{alarm_lines}
use Rattle.jt_fence_command.specs.FenceLines.{meaning}
use Rattle.jt_fence_command.specs.Tally.{after_change, after_line, alarms_behind, change_behind, counted_by, fence_reply, first_tally, fix_behind, outcome_of}
use Rattle.jt_fence_command.specs.Track.{Before, Tells, TellsAlarms, TellsLine, nothing}
use Rattle.jt_regions.proofs.Changing.{takes}

-- a tally is what is kept of all that came before
record Keeps (tally : AlarmTally) (before : Before) : Type 0 where
  watch : StandsFor tally.watch before.track
  fixes : tally.fixes ≡ before.fixes
  events : tally.events ≡ before.events

abbrev behind_fix : Before → Fixed → ℕ → Before
behind_fix before fixed more = record { track = step.Passed fixed ∷ before.track; fixes = counted before.fixes; events = counted_by more before.events }

abbrev behind_change : Before → RegionChange → Before
behind_change before c = record before { track = step.Changed c ∷ before.track }

keeps_fix : (tally : AlarmTally) (before : Before) (fixed : Fixed) → Keeps tally before → Keeps (fix_behind tally fixed) (behind_fix before fixed (length (alarms_behind tally fixed)))
keeps_fix tally before fixed k = record {
  watch = take_stands tally.watch (fix_behind tally fixed).watch tally.watch.table tally.watch.watched (map (watched_behind fixed) tally.watch.watched) fixed refl refl refl before.track k.watch;
  fixes = ap counted k.fixes;
  events = ap (counted_by (length (alarms_behind tally fixed))) k.events;
}

keeps_change : (tally : AlarmTally) (before : Before) (c : RegionChange) (table : Regions) → regions_after c tally.watch.table ≡ Some table → Keeps tally before
    → Keeps (change_behind tally table) (behind_change before c)
keeps_change tally before c table made k = record {
  watch = change_stands tally.watch tally.watch.table tally.watch.table table tally.watch.watched (map (settled_in tally.watch.watched) (fences_of table)) c tt refl refl
      (takes c tally.watch.table table made) (are_settled (fences_of table) tally.watch.watched) before.track k.watch;
  fixes = k.fixes;
  events = k.events;
}

table_of : (tally : AlarmTally) (before : Before) → Keeps tally before → IsTableOf before.track tally.watch.table
table_of tally before k = record { rectangles = k.watch.rectangles; polygons = k.watch.polygons }

-- what comes behind a line is told
abbrev TellsMore : ℕ → List (List ℕ) → Type 0
TellsMore number more = (tally : AlarmTally) (before : Before) → Keeps tally before → Tells before number more (reply_of (outcome_of tally number more))

tells_change : (made : Option Regions) (c : RegionChange) (tally : AlarmTally) (before : Before) (number : ℕ) (more : List (List ℕ)) → regions_after c tally.watch.table ≡ made
    → TellsMore (number + 1) more → Keeps tally before
    → TellsLine before number (λ next rest. Tells next (number + 1) more rest) (Change c) (reply_of (after_change tally number (λ next. outcome_of next (number + 1) more) made))
tells_change (Some table) c tally before number more is later k =
    inl (table, (tally.watch.table, table_of tally before k, is), later (change_behind tally table) (behind_change before c) (keeps_change tally before c table is k))
tells_change None c tally before number more is later k = inr ((tally.watch.table, table_of tally before k, is), refl)

tells_line : (said : FenceLine) (tally : AlarmTally) (before : Before) (number : ℕ) (more : List (List ℕ)) → TellsMore (number + 1) more → Keeps tally before
    → TellsLine before number (λ next rest. Tells next (number + 1) more rest) said (reply_of (after_line tally number (λ next. outcome_of next (number + 1) more) said))
tells_line Passed tally before number more later k = later tally before k
tells_line (Fix fixed) tally before number more later k = record {
  alarms = alarms_behind tally fixed;
  are = alarms_are before.track fixed tally.watch.watched (alarms_behind tally fixed) k.watch.watched refl;
  rest = reply_of (outcome_of (fix_behind tally fixed) (number + 1) more);
  reply_is = ap (λ (fixes : ℕ). record {
    text = alarm_lines (counted fixes) (alarms_behind tally fixed) ++ (outcome_of (fix_behind tally fixed) (number + 1) more).text;
    status = (outcome_of (fix_behind tally fixed) (number + 1) more).status;
  }) k.fixes;
  rest_is = later (fix_behind tally fixed) (behind_fix before fixed (length (alarms_behind tally fixed))) (keeps_fix tally before fixed k);
}
tells_line (Change c) tally before number more later k = tells_change (regions_after c tally.watch.table) c tally before number more refl later k
tells_line Bad tally before number more later k = refl

tells : (lines : List (List ℕ)) (number : ℕ) → TellsMore number lines
tells [] number tally before k = rw (k.fixes, k.events) refl
tells (line ∷ more) number tally before k = tells_line (meaning number line) tally before number more (tells more (number + 1)) k

keeps_nothing : Keeps first_tally nothing
keeps_nothing = record {
  watch = record { rectangles = λ id. get-empty nat_cmp id; polygons = λ id. get-empty nat_cmp id; watched = watched_none [] refl };
  fixes = refl;
  events = refl;
}

pub tells_alarms : (track : List ℕ) → TellsAlarms track (fence_reply track)
unfolding fence_reply
tells_alarms track = tells (lines_of track) 1 first_tally nothing keeps_nothing
