-- A run over a source and a sink, from the run of its lines.
use Rattle.std.proofs.Common.{◌≡◌, ◌⊎◌, ◌+◌, ◌^◌, ℕ, List, [], ◌∷◌, Option, Some, None, IfSome, refl, subst, ◌∙◌, inl, inr}
use Rattle.std.specs.Io.KnownBytes.{Appends, IsAtEnd}
use Rattle.jt_regions.specs.Tables.{Regions}
use Rattle.jt_regions.specs.Changes.{regions_after}
use Rattle.jt_input.specs.Cutter.{Held, begun_of}
use Rattle.jt_input.specs.Answer.{IsFault, AnswersReply, AnswersWhole, RunsTelling, ReadsNoFurther, PrintsTaken, StopsAtWrite}
use Rattle.jt_input.specs.Lines.{HasHeard, answer_of}
use Rattle.jt_input.specs.Text.{lines_of}
use Rattle.jt_input.specs.declared.status.Status.{Status}
use Rattle.jt_input.specs.declared.status.Status.TheVariants as status
use Rattle.jt_fence_command.specs.declared.alarm_tally.AlarmTally.{AlarmTally}
use Rattle.jt_fence_command.specs.declared.line.FenceLine.{FenceLine}
use Rattle.jt_fence_command.specs.declared.line.FenceLine.TheVariants.{Passed, Fix, Change, Bad}
use Rattle.jt_fence_command.specs.FenceLines.{meaning}
use Rattle.jt_fence_command.specs.Tally.{after_change, after_line, fence_reply, first_tally, outcome_of}
use Rattle.jt_fence_command.specs.Running.{IsTaken, Watches}
use Rattle.jt_fence_command.proofs.Telling.{tells_alarms}

-- nothing was taken yet
pub begins : (tally hearer : AlarmTally) (held : Held) (bad : Option ℕ) → HasHeard outcome_of tally hearer held bad [] [] → tally ≡ first_tally
    → HasHeard outcome_of first_tally hearer held bad [] []
begins tally hearer held bad heard same = subst (λ (t : AlarmTally). HasHeard outcome_of t hearer held bad [] []) same heard

pub is_taken : (hearer : AlarmTally) (held : Held) (bad : Option ℕ) (front text : List ℕ) → HasHeard outcome_of first_tally hearer held bad front text → IsTaken front text
is_taken hearer held bad front text heard = record {
  lines = heard.lines;
  begun = begun_of held;
  cuts = heard.cuts;
  within = rw (← heard.number) heard.begun;
  now = hearer;
  goes = λ more. rw (← heard.number) (heard.goes more);
}

-- ---- how it ends

-- Done, or Refused
abbrev IsPlain : Status → Type 0
IsPlain s = (s ≡ status.Done) ⊎ (s ≡ status.Refused)

abbrev EndsPlainly : ℕ → List (List ℕ) → Type 0
EndsPlainly number more = (tally : AlarmTally) → IsPlain (outcome_of tally number more).status

plain_change : (made : Option Regions) (tally : AlarmTally) (number : ℕ) (more : List (List ℕ)) → EndsPlainly (number + 1) more
    → IsPlain (after_change tally number (λ next. outcome_of next (number + 1) more) made).status
plain_change (Some table) tally number more later = later _
plain_change None tally number more later = inr refl

plain_line : (said : FenceLine) (tally : AlarmTally) (number : ℕ) (more : List (List ℕ)) → EndsPlainly (number + 1) more
    → IsPlain (after_line tally number (λ next. outcome_of next (number + 1) more) said).status
plain_line Passed tally number more later = later tally
plain_line (Fix fixed) tally number more later = later _
plain_line (Change c) tally number more later = plain_change (regions_after c tally.watch.table) tally number more later
plain_line Bad tally number more later = inr refl

plain : (lines : List (List ℕ)) (number : ℕ) → EndsPlainly number lines
plain [] number tally = inl refl
plain (line ∷ more) number tally = plain_line (meaning number line) tally number more (plain more (number + 1))

ends_so : (s : Status) (track : List ℕ) (old now : Option (List ℕ)) → AnswersReply s (answer_of outcome_of first_tally track) old now
    → (s ≡ status.Done) ⊎ (s ≡ status.Refused) ⊎ IsFault s
ends_so s track old now (inr part) = inr (inr part.0)
ends_so s track old now (inl told) = elim (plain (lines_of track) 1 first_tally) [
  | inl done ↦ inl (told.0 ∙ done)
  | inr refused ↦ inr (inl (told.0 ∙ refused))
]

-- ---- the run

whole_alone : (Holds : List ℕ → Type 0) (left old now : Option (List ℕ)) (s : Status) → IfSome left (AnswersWhole (answer_of outcome_of first_tally) Holds s old now)
    → IfSome left (λ track. IsFault s ⊎ ((s ≡ (fence_reply track).status) × Appends old now (fence_reply track).text))
unfolding fence_reply
whole_alone Holds None old now s whole = tt
whole_alone Holds (Some track) old now s (inl fault) = inl fault
whole_alone Holds (Some track) old now s (inr all) = inr (all.0, all.1)

pub watches : (Holds : List ℕ → Type 0) (left left_now old now : Option (List ℕ)) (s : Status)
    → RunsTelling (answer_of outcome_of first_tally) Holds left left_now old now s
    → IfSome left (AnswersWhole (answer_of outcome_of first_tally) Holds s old now)
    → ReadsNoFurther IsTaken (2 ^ 14) left left_now
    → (s ≡ status.ReadFault → PrintsTaken IsTaken left left_now old now)
    → (s ≡ status.WriteFault → StopsAtWrite (answer_of outcome_of first_tally) IsTaken (2 ^ 14) left left_now old now)
    → (s ≡ status.Done → IsAtEnd left_now) → Watches left left_now old now s
unfolding fence_reply
watches Holds left left_now old now s runs whole no_further prints stops end = record {
  runs = runs.runs;
  alarms = tells_alarms;
  whole = whole_alone Holds left old now s whole;
  no_further = no_further;
  prints_taken = prints;
  stops_at_write = stops;
  to_the_end = end;
  ends = ends_so s runs.runs.taken old now runs.runs.answers;
}
