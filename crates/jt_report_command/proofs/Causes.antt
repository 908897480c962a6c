-- Why a run ends with a status.
use Rattle.std.proofs.Common.{◌≡◌, ◌≢◌, ◌⊎◌, inl, inr, ℕ, Bool, true, false, List, [], ◌∷◌, Option, Some, None, length, IsTrue, refl, sym, ap, ◌∙◌}
use Rattle.std.specs.Prelude.{◌↔◌, ◌&&◌}
use Rattle.jt_store.specs.Tables.{WhereKnown}
use Rattle.jt_store.specs.Vaults.{Held, accepted_count}
use Rattle.jt_store.specs.declared.unit.Unit.{Unit as OneUnit}
use Rattle.jt_terminal_rule.specs.declared.state.GiveUp.{GiveUp}
use Rattle.jt_terminal_rule.specs.declared.state.State.{State}
use Rattle.jt_terminal_steps.specs.Running.{IsDone}
use Rattle.jt_agent.specs.Course.{Move, Ticks, Opens, Reads, Waits, Finished, course, has_none, is_done, stop_of}
use Rattle.jt_agent.specs.Tries.{Between, Breaks, IsStoreFault, Reports}
use Rattle.jt_agent.specs.declared.ending.AttemptEnd.{AttemptEnd}
use Rattle.jt_agent.specs.declared.ending.Attempted.TheVariants as attempted
use Rattle.jt_agent.specs.declared.reporting.Outcome.{Outcome}
use Rattle.jt_agent.specs.declared.reporting.Outcome.TheVariants as outcome
use Rattle.jt_input.specs.declared.status.Status.{Status}
use Rattle.jt_input.specs.declared.status.Status.TheVariants as status
use Rattle.jt_report_command.specs.Report.{outcome_reply}
use Rattle.jt_input.specs.Answer.{CutsShort}

-- ---- a status of attempts

-- the status that goes with what attempts came to
abbrev pub goes_with : Outcome → Status
goes_with (outcome.Done ends) = status.Done
goes_with (outcome.Unsent ends) = status.Unsent
goes_with (outcome.StoreFault ends) = status.StoreFault
goes_with outcome.Memory = status.Memory

pub with_is : (o : Outcome) (accepted recorded : ℕ) → (outcome_reply o accepted recorded).status ≡ goes_with o
unfolding outcome_reply
with_is (outcome.Done ends) accepted recorded = refl
with_is (outcome.Unsent ends) accepted recorded = refl
with_is (outcome.StoreFault ends) accepted recorded = refl
with_is outcome.Memory accepted recorded = refl

-- a status that is neither want of memory nor a failed write is that of the outcome
cut_or : (s t : Status) → (s ≡ t) ⊎ CutsShort s → s ≢ status.Memory → s ≢ status.WriteFault → s ≡ t
cut_or s t (inl is) no_memory no_write = is
cut_or s t (inr (inl memory)) no_memory no_write = absurd (no_memory memory)
cut_or s t (inr (inr write)) no_memory no_write = absurd (no_write write)

pub is_of : (o : Outcome) (accepted recorded : ℕ) (s t : Status) → (s ≡ (outcome_reply o accepted recorded).status) ⊎ CutsShort s → s ≡ t → t ≢ status.Memory → t ≢ status.WriteFault
    → goes_with o ≡ t
is_of o accepted recorded s t said is no_memory no_write =
    sym (with_is o accepted recorded) ∙ sym (cut_or s (outcome_reply o accepted recorded).status said (λ e. no_memory (sym is ∙ e)) (λ e. no_write (sym is ∙ e))) ∙ is

pub never : (o : Outcome) (accepted recorded : ℕ) (s t : Status) → (s ≡ (outcome_reply o accepted recorded).status) ⊎ CutsShort s → ((o : Outcome) → goes_with o ≢ t) → t ≢ status.Memory
    → t ≢ status.WriteFault → s ≢ t
never o accepted recorded s t said not_so no_memory no_write is = not_so o (is_of o accepted recorded s t said is no_memory no_write)

pub no_read : (o : Outcome) → goes_with o ≢ status.ReadFault
no_read (outcome.Done ends) e = absurd (cc e)
no_read (outcome.Unsent ends) e = absurd (cc e)
no_read (outcome.StoreFault ends) e = absurd (cc e)
no_read outcome.Memory e = absurd (cc e)

pub no_net : (o : Outcome) → goes_with o ≢ status.NetFault
no_net (outcome.Done ends) e = absurd (cc e)
no_net (outcome.Unsent ends) e = absurd (cc e)
no_net (outcome.StoreFault ends) e = absurd (cc e)
no_net outcome.Memory e = absurd (cc e)

pub no_usage : (o : Outcome) → goes_with o ≢ status.Usage
no_usage (outcome.Done ends) e = absurd (cc e)
no_usage (outcome.Unsent ends) e = absurd (cc e)
no_usage (outcome.StoreFault ends) e = absurd (cc e)
no_usage outcome.Memory e = absurd (cc e)

no_write : (o : Outcome) → goes_with o ≢ status.WriteFault
no_write (outcome.Done ends) e = absurd (cc e)
no_write (outcome.Unsent ends) e = absurd (cc e)
no_write (outcome.StoreFault ends) e = absurd (cc e)
no_write outcome.Memory e = absurd (cc e)

-- no such status is a failed write's
pub no_write_fault : (o : Outcome) (accepted recorded : ℕ) (s : Status) → s ≡ (outcome_reply o accepted recorded).status → s ≢ status.WriteFault
no_write_fault o accepted recorded s is e = no_write o (sym (with_is o accepted recorded) ∙ sym is ∙ e)

-- nor is a text that is cut short a failed read's
not_cut : (s : Status) → CutsShort s → s ≢ status.ReadFault
not_cut s (inl memory) e = absurd (cc (sym memory ∙ e))
not_cut s (inr write) e = absurd (cc (sym write ∙ e))

pub not_read : (s t : Status) → (s ≡ t) ⊎ CutsShort s → t ≢ status.ReadFault → s ≢ status.ReadFault
not_read s t (inl is) not_so e = not_so (sym is ∙ e)
not_read s t (inr cut) not_so e = not_cut s cut e

pub is_fault : (o : Outcome) → goes_with o ≡ status.StoreFault → IsStoreFault o
is_fault (outcome.Done ends) e = absurd (cc e)
is_fault (outcome.Unsent ends) e = absurd (cc e)
is_fault (outcome.StoreFault ends) e = tt
is_fault outcome.Memory e = absurd (cc e)

-- ---- what is left to report

-- an attempt that finished leaves nothing
done_by : (end : Option GiveUp) (done : Bool) → stop_of end done ≡ Some Finished → done ≡ true
done_by (Some cause) done e = absurd (cc e)
done_by None true e = refl
done_by None false e = absurd (cc e)

finished : (t : State) (moves : List Move) → (course t moves).stop ≡ Some Finished → is_done (course t moves).state ≡ true
finished t [] e = absurd (cc e)
finished t (Ticks moment ∷ older) e = done_by _ _ e
finished t (Opens ∷ older) e = done_by _ _ e
finished t (Reads octets ∷ older) e = done_by _ _ e
finished t (Waits ∷ older) e = finished t older e

finished_last : (ends : List AttemptEnd) (old now : Between) → Breaks ends old now attempted.Done → is_done now.state ≡ true
finished_last ends old now b =
    ap is_done b.last.attempt.does.1 ∙ finished b.mid.state b.last.attempt.moves b.last.attempt.cause

nothing_left : (tries : ℕ) (o : Outcome) (old now : Between) → goes_with o ≡ status.Done → Reports tries o old now → is_done now.state ≡ true
nothing_left tries (outcome.Done ends) old now e (inl reports) = reports.2
nothing_left tries (outcome.Done ends) old now e (inr reports) = finished_last ends old now reports.1
nothing_left tries (outcome.Unsent ends) old now e reports = absurd (cc e)
nothing_left tries (outcome.StoreFault ends) old now e reports = absurd (cc e)
nothing_left tries outcome.Memory old now e reports = absurd (cc e)

something_left : (tries : ℕ) (o : Outcome) (old now : Between) → goes_with o ≡ status.Unsent → Reports tries o old now → is_done now.state ≡ false
something_left tries (outcome.Unsent ends) old now e reports = reports.2
something_left tries (outcome.Done ends) old now e reports = absurd (cc e)
something_left tries (outcome.StoreFault ends) old now e reports = absurd (cc e)
something_left tries outcome.Memory old now e reports = absurd (cc e)

none_left : (units : List OneUnit) (waiting : List (List ℕ)) → (has_none units && has_none waiting) ≡ true → (units ≡ []) × (waiting ≡ [])
none_left [] [] e = (refl, refl)
none_left [] (fix ∷ waiting) e = absurd (cc e)
none_left (unit ∷ units) waiting e = absurd (cc e)

some_left : (units : List OneUnit) (waiting : List (List ℕ)) → (has_none units && has_none waiting) ≡ false → (units ≡ []) × (waiting ≡ []) → ⊥
some_left [] [] e none = absurd (cc e)
some_left [] (fix ∷ waiting) e none = let left = none.1 in absurd (cc left)
some_left (unit ∷ units) waiting e none = let left = none.0 in absurd (cc left)

-- what the vault then says
told_by : (held : Option Held) (P Q : Held → Type 0) → ((h : Held) → P h → Q h) → WhereKnown held P → WhereKnown held Q
told_by None P Q go told = tt
told_by (Some h) P Q go told = go h told

pub all_accepted : (tries : ℕ) (o : Outcome) (old now : Between) (done : Bool) → goes_with o ≡ status.Done → Reports tries o old now → (IsTrue done ↔ IsDone now.state)
    → WhereKnown now.held (λ held. IsTrue done ↔ (accepted_count held ≡ length held.recorded)) → WhereKnown now.held (λ held. accepted_count held ≡ length held.recorded)
all_accepted tries o old now done e reports iff told =
    let all = iff.1 (none_left now.state.units now.state.waiting (nothing_left tries o old now e reports)) in
    told_by now.held _ _ (λ held same. same.0 all) told

pub some_unsent : (tries : ℕ) (o : Outcome) (old now : Between) (done : Bool) → goes_with o ≡ status.Unsent → Reports tries o old now → (IsTrue done ↔ IsDone now.state)
    → WhereKnown now.held (λ held. IsTrue done ↔ (accepted_count held ≡ length held.recorded)) → WhereKnown now.held (λ held. accepted_count held ≢ length held.recorded)
some_unsent tries o old now done e reports iff told =
    let some = some_left now.state.units now.state.waiting (something_left tries o old now e reports) in
    told_by now.held _ _ (λ held same all. some (iff.0 (same.1 all))) told
