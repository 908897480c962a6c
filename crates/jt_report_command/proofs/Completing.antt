-- A run that has all that it needs, and in which nothing fails, comes to Done or Memory.
use Rattle.std.proofs.Common.{◌≡◌, ◌≤◌, ◌<◌, ◌+◌, ◌-◌, ◌++◌, ◌⊎◌, inl, inr, ℕ, List, [], ◌∷◌, Option, Some, length, length-append, refl, sym, ap, subst, ◌∙◌, arith, append_assoc, append-nil}
use Rattle.std.specs.Io.KnownBytes.{Consumes}
use Rattle.jt_value.specs.Counts.{Rose}
use Rattle.jt_input.specs.Answer.{AnswersReply, HoldsOf, IsFault}
use Rattle.jt_input.specs.Text.{lines_of}
use Rattle.jt_input.specs.declared.status.Status.{Status}
use Rattle.jt_input.specs.declared.status.Status.TheVariants as status
use Rattle.jt_store.specs.Tables.{WhereKnown}
use Rattle.jt_store.specs.Vaults.{Held, Notes, held_by, accepted_count, pending_count}
use Rattle.jt_terminal_rule.specs.declared.state.State.{State}
use Rattle.jt_agent.specs.Tries.{Reports, between}
use Rattle.jt_agent.specs.declared.reporting.Outcome.{Outcome}
use Rattle.jt_agent.specs.declared.reporting.Outcome.TheVariants as outcome
use Rattle.jt_report_command.specs.Answered.{HasAll, WereFine}
use Rattle.jt_report_command.specs.Came.{Came, BadLine, BeyondLimits, VaultFull, VaultFailed, Undialled, Reported, report_text}
use Rattle.jt_report_command.specs.FixesText.{EndsAt, HaveFixes, IsBeyond, SaysAt}
use Rattle.jt_report_command.specs.Noting.{held_with, noted_all}
use Rattle.jt_report_command.specs.Report.{outcome_reply}
use Rattle.jt_report_command.specs.Running.{Does, EndsSo, RunsReport, Scene}
use Rattle.jt_report_command.specs.declared.line.FixLine.TheVariants.{Fix}
use Rattle.jt_report_command.proofs.Answered.{all_answered, front, whole}
use Rattle.jt_report_command.proofs.Causes.{goes_with, with_is}
use Rattle.jt_report_command.proofs.GoodLines.{none_bad, none_beyond, one_fix_more, same_fixes}

-- what holds of the octets that were taken, whatever follows, holds of the text
of_text : (Holds : List ℕ → Type 0) (text taken : List ℕ) (left left_now : Option (List ℕ)) → left ≡ Some text → Consumes left left_now taken → HoldsOf Holds left_now taken → Holds text
of_text Holds text taken left left_now told took holds = elim holds.1 as (λ h. Holds text) [
  | inl end ↦ subst Holds (sym (whole text taken left left_now told took end)) holds.0
  | inr stays ↦ let f = front text taken left left_now told took in subst Holds (sym f.1) (stays f.0)
]

-- ---- the vault has room

held_more : (held : Held) (fixes : List (List ℕ)) → held_with (Some held) fixes ≡ Some (record held { recorded = held.recorded ++ fixes })
held_more held [] = ap (λ (l : List (List ℕ)). Some (record held { recorded = l })) (sym (append-nil held.recorded))
held_more held (fix ∷ fixes) =
    held_more (held_by (Notes fix) held) fixes ∙ ap (λ (l : List (List ℕ)). Some (record held { recorded = l })) (append_assoc held.recorded (fix ∷ []) fixes)

count_more : (recorded front accepted most more : ℕ) → (recorded + front) - accepted ≡ most → (recorded - accepted) + more ≤ most → ¬ (front < more)
count_more recorded front accepted most more full room less = absurd (omega (arith, full, room, less))

not_full : (held : Held) (old now : Option Held) (front : List (List ℕ)) (most more : ℕ) → old ≡ Some held → now ≡ held_with old front → WhereKnown now (λ h. pending_count h ≡ most)
    → pending_count held + more ≤ most → ¬ (length front < more)
not_full held old now front most more told with full room less =
    let is : now ≡ Some (record held { recorded = held.recorded ++ front }) = with ∙ ap (λ (h : Option Held). held_with h front) told ∙ held_more held front in
    let at : length (held.recorded ++ front) - accepted_count held ≡ most = subst (λ (h : Option Held). WhereKnown h (λ h. pending_count h ≡ most)) is full in
    count_more (length held.recorded) (length front) (accepted_count held) most more (ap (λ (n : ℕ). n - accepted_count held) (sym (length-append held.recorded front)) ∙ at) room less

-- ---- the status

at_fault : (s : Status) → IsFault s → ¬ (s ≡ status.ReadFault) → ¬ (s ≡ status.WriteFault) → s ≡ status.Memory
at_fault status.ReadFault fault read write = absurd (read refl)
at_fault status.WriteFault fault read write = absurd (write refl)
at_fault status.Memory fault read write = refl
at_fault status.Done fault read write = absurd fault
at_fault status.Refused fault read write = absurd fault
at_fault status.Usage fault read write = absurd fault
at_fault status.StoreFault fault read write = absurd fault
at_fault status.NetFault fault read write = absurd fault
at_fault status.Unsent fault read write = absurd fault

ends_well : (o : Outcome) → (o ≡ outcome.Done []) ⊎ (o ≡ outcome.Memory) → (goes_with o ≡ status.Done) ⊎ (goes_with o ≡ status.Memory)
ends_well o (inl is) = inl (ap goes_with is)
ends_well o (inr is) = inr (ap goes_with is)

as_reply : (s : Status) (o : Outcome) (accepted recorded : ℕ) (written written_now : Option (List ℕ)) → AnswersReply s (outcome_reply o accepted recorded) written written_now
    → ¬ (s ≡ status.ReadFault) → ¬ (s ≡ status.WriteFault) → (o ≡ outcome.Done []) ⊎ (o ≡ outcome.Memory) → (s ≡ status.Done) ⊎ (s ≡ status.Memory)
as_reply s o accepted recorded written written_now (inr cut) read write came = inr (at_fault s cut.0 read write)
as_reply s o accepted recorded written written_now (inl all) read write came =
    let is : s ≡ goes_with o = all.0 ∙ with_is o accepted recorded in
    elim (ends_well o came) as (λ e. (s ≡ status.Done) ⊎ (s ≡ status.Memory)) [
      | inl done ↦ inl (is ∙ done)
      | inr memory ↦ inr (is ∙ memory)
    ]

-- ---- the run

module _ (Starts : State → Type 0) (tries : ℕ) (left left_now : Option (List ℕ)) (old now : Scene) (written written_now : Option (List ℕ)) (s : Status) (least : 1 ≤ tries) (has : HasAll Starts left old)
    (fine : WereFine old.pool now.pool) (dial : ¬ Rose old.dial now.dial) (vault : ¬ Rose old.faults now.faults) (read : ¬ (s ≡ status.ReadFault)) (write : ¬ (s ≡ status.WriteFault)) where
  reported : (o : Outcome) (accepted recorded : ℕ) (taken : List ℕ) → Consumes left left_now taken → Does (Reported o accepted recorded) Starts tries taken left_now old now
      → (o ≡ outcome.Done []) ⊎ (o ≡ outcome.Memory)
  reported o accepted recorded taken took does =
      let r = does.3 in
      let text : has.text ≡ taken = whole has.text taken left left_now has.told took does.2 in
      let same : does.0 ≡ has.fixes = same_fixes 1 (lines_of has.text) has.fixes does.0 has.good (subst (λ (t : List ℕ). HaveFixes 1 (lines_of t) does.0) (sym text) does.1) in
      let after = between r.after now.held now.faults now.time now.pool now.dial in
      all_answered (between (noted_all r.started has.fixes) (held_with old.held has.fixes) r.faults old.time old.pool old.dial) after (has.answers r.started r.starts) fine dial
      (λ rose. vault (omega (arith, rose, r.later))) tries o least
      (subst (λ (fixes : List (List ℕ)). Reports tries o (between (noted_all r.started fixes) (held_with old.held fixes) r.faults old.time old.pool old.dial) after) same r.reports)

  came_to : (came : Came) (taken : List ℕ) → Consumes left left_now taken → Does came Starts tries taken left_now old now → AnswersReply s (report_text came) written written_now → EndsSo came s
      → (s ≡ status.Done) ⊎ (s ≡ status.Memory)
  unfolding report_text
  came_to (BadLine number said) taken took does answers ends =
      absurd (none_bad number said does.0 has.fixes has.text has.good does.2 (of_text (EndsAt number (SaysAt number said) does.0) has.text taken left left_now has.told took does.3))
  came_to (BeyondLimits number) taken took does answers ends =
      absurd (none_beyond number does.0 has.fixes has.text has.good (of_text (EndsAt number (IsBeyond number) does.0) has.text taken left left_now has.told took does.2))
  came_to (VaultFull most) taken took does answers ends =
      let e = does.4 in
      absurd (not_full has.held old.held now.held does.0 old.limit (length has.fixes) has.holds does.1.held does.3 has.room
      (one_fix_more e.0 e.1 does.0 has.fixes has.text has.good (of_text (EndsAt e.0 (SaysAt e.0 (Fix e.1)) does.0) has.text taken left left_now has.told took e.2)))
  came_to VaultFailed taken took does answers ends = absurd (vault does.3)
  came_to Undialled taken took does answers ends = elim ends as (λ e. (s ≡ status.Done) ⊎ (s ≡ status.Memory)) [
    | inl memory ↦ inr memory
    | inr fault ↦ absurd (read fault)
  ]
  came_to (Reported o accepted recorded) taken took does answers ends =
      as_reply s o accepted recorded written written_now answers read write (reported o accepted recorded taken took does)

  pub runs_well : RunsReport Starts tries left left_now old now written written_now s → (s ≡ status.Done) ⊎ (s ≡ status.Memory)
  runs_well r = came_to r.came r.taken r.consumed r.does r.answers r.ends
