-- Why a run of `platform` ends with a status.
use Rattle.std.proofs.Common.{◌≡◌, ◌≢◌, ◌≤◌, ◌+◌, ◌⊎◌, inl, inr, ℕ, Bool, true, false, if◌then◌else◌, List, [], ◌∷◌, length, Option, Some, None, refl, sym, subst, ◌∙◌, arith}
use Rattle.std.proofs.lemmas.List.{nil_from_length}
use Rattle.jt_value.specs.Counts.{Rose, RoseBy}
use Rattle.jt_outside.specs.Pool.{Pool}
use Rattle.jt_platform.specs.declared.request.Entry.{Entry}
use Rattle.jt_input.specs.Answer.{CutsShort, IsFault}
use Rattle.jt_input.specs.declared.status.Status.{Status}
use Rattle.jt_input.specs.declared.status.Status.TheVariants as status
use Rattle.jt_server.specs.Served.{EndsAs, store_faults, one_fault}
use Rattle.jt_server.specs.declared.served.ServeEnd.{ServeEnd}
use Rattle.jt_server.specs.declared.served.ServeEnd.TheVariants as served
use Rattle.jt_session.specs.declared.end.End.{End}
use Rattle.jt_session.specs.declared.end.End.TheVariants as ends
use Rattle.jt_session.specs.declared.report.Report.{Report}
use Rattle.jt_platform_command.specs.Platform.{EndsForMemory, Served, first_limit, is_memory, is_store_fault, last_reply, platform_text, some_end, store_reply}

-- a text that is cut short has a status of a fault
pub cut_fault : (s t : Status) → (s ≡ t) ⊎ CutsShort s → (s ≡ t) ⊎ IsFault s
cut_fault s t (inl e) = inl e
cut_fault s t (inr (inl e)) = inr (subst IsFault (sym e) tt)
cut_fault s t (inr (inr e)) = inr (subst IsFault (sym e) tt)

-- the status of a run with sessions
abbrev pub status_of : Bool → Status → Status
status_of memory other = if memory then status.Memory else other

no_net : (memory store : Bool) (limit : Option ℕ) → status_of memory (store_reply store limit).status ≡ status.NetFault → ⊥
no_net true store limit e = absurd (cc e)
no_net false true limit e = absurd (cc e)
no_net false false None e = absurd (cc e)
no_net false false (Some limit) e = absurd (cc e)

-- a listener's fault only where its count rose
pub net_cause : (end : ServeEnd) (reports : List Report) (sessions : ℕ) (pool : Pool) (before now : ℕ) (memory : Bool)
    → status_of memory (last_reply end reports).status ≡ status.NetFault → EndsAs end (length reports) sessions pool before now → Rose before now
net_cause served.ListenFault reports sessions pool before now memory e ends = ends.1
net_cause served.All reports sessions pool before now memory e ends = absurd (no_net memory (some_end is_store_fault reports) (first_limit reports) e)
net_cause served.Over reports sessions pool before now memory e ends = absurd (no_net memory (some_end is_store_fault reports) (first_limit reports) e)
net_cause served.Memory reports sessions pool before now true e ends = absurd (cc e)
net_cause served.Memory reports sessions pool before now false e ends = absurd (cc e)

some_fault : (end : End) (rest : Bool) (n : ℕ) → (rest ≡ true → 1 ≤ n) → (if is_store_fault end then true else rest) ≡ true → 1 ≤ one_fault end + n
some_fault ends.StoreFault rest n h e = omega arith
some_fault ends.Ended rest n h e = let few = h e in omega (arith, few)
some_fault ends.LinkFault rest n h e = let few = h e in omega (arith, few)
some_fault ends.Idle rest n h e = let few = h e in omega (arith, few)
some_fault ends.Spent rest n h e = let few = h e in omega (arith, few)
some_fault (ends.Fenced other) rest n h e = let few = h e in omega (arith, few)
some_fault (ends.ListFull limit) rest n h e = let few = h e in omega (arith, few)
some_fault ends.Memory rest n h e = let few = h e in omega (arith, few)

-- a session that ended by a fault of the store is counted
faults_are : (reports : List Report) → some_end is_store_fault reports ≡ true → 1 ≤ store_faults reports
faults_are [] e = absurd (cc e)
faults_are (report ∷ reports) e = some_fault report.end (some_end is_store_fault reports) (store_faults reports) (faults_are reports) e

rose_by_some : (n before now : ℕ) → 1 ≤ n → RoseBy n before now → Rose before now
rose_by_some n before now some rose = grind (arith, some, rose)

store_or_full : (memory store : Bool) (limit : Option ℕ) → status_of memory (store_reply store limit).status ≡ status.StoreFault → (store ≡ true) ⊎ (limit ≢ None)
store_or_full true store limit e = absurd (cc e)
store_or_full false true limit e = inl refl
store_or_full false false None e = absurd (cc e)
store_or_full false false (Some limit) e = inr (λ f. cc f)

either : (reports : List Report) (before now : ℕ) → RoseBy (store_faults reports) before now → (some_end is_store_fault reports ≡ true) ⊎ (first_limit reports ≢ None)
    → Rose before now ⊎ (first_limit reports ≢ None)
either reports before now rose (inl store) = inl (rose_by_some (store_faults reports) before now (faults_are reports store) rose)
either reports before now rose (inr full) = inr full

-- a store's fault only where the keeper's count rose, or a list is full
pub store_cause : (end : ServeEnd) (reports : List Report) (before now : ℕ) (memory : Bool) → status_of memory (last_reply end reports).status ≡ status.StoreFault
    → RoseBy (store_faults reports) before now → Rose before now ⊎ (first_limit reports ≢ None)
store_cause served.ListenFault reports before now true e rose = absurd (cc e)
store_cause served.ListenFault reports before now false e rose = absurd (cc e)
store_cause served.All reports before now memory e rose = either reports before now rose (store_or_full memory (some_end is_store_fault reports) (first_limit reports) e)
store_cause served.Over reports before now memory e rose = either reports before now rose (store_or_full memory (some_end is_store_fault reports) (first_limit reports) e)
store_cause served.Memory reports before now true e rose = absurd (cc e)
store_cause served.Memory reports before now false e rose = absurd (cc e)

-- the same of a status that may be a fault of the run
pub store_when : (end : ServeEnd) (reports : List Report) (before now : ℕ) (memory : Bool) (s : Status) → (s ≡ status_of memory (last_reply end reports).status) ⊎ IsFault s
    → s ≡ status.StoreFault → RoseBy (store_faults reports) before now → Rose before now ⊎ (first_limit reports ≢ None)
store_when end reports before now memory s (inl is) e rose = store_cause end reports before now memory (sym is ∙ e) rose
store_when end reports before now memory s (inr fault) e rose = absurd (subst IsFault e fault)

-- ---- want of memory

not_memory : (store : Bool) (limit : Option ℕ) → (store_reply store limit).status ≡ status.Memory → ⊥
not_memory true limit e = absurd (cc e)
not_memory false None e = absurd (cc e)
not_memory false (Some limit) e = absurd (cc e)

-- it is the status only where a session ended for it, or there was none
memory_cause : (end : ServeEnd) (reports : List Report) (sessions : ℕ) (pool : Pool) (before now : ℕ) (memory : Bool)
    → status_of memory (last_reply end reports).status ≡ status.Memory → EndsAs end (length reports) sessions pool before now → (memory ≡ true) ⊎ (reports ≡ [])
memory_cause end reports sessions pool before now true e ends = inl refl
memory_cause served.ListenFault reports sessions pool before now false e ends = absurd (cc e)
memory_cause served.All reports sessions pool before now false e ends = absurd (not_memory (some_end is_store_fault reports) (first_limit reports) e)
memory_cause served.Over reports sessions pool before now false e ends = absurd (not_memory (some_end is_store_fault reports) (first_limit reports) e)
memory_cause served.Memory reports sessions pool before now false e ends = inr (nil_from_length reports ends)

-- a write failed behind a text of this status only where that tells want of memory
pub still_or_memory : {A : Type 0} (s result text : Status) → ((s ≡ status.Memory → ⊥) → A) → (s ≡ status.Memory → result ≡ status.Memory) → s ≡ text → A ⊎ ((result ≡ status.Memory) × (text ≡ status.Memory))
still_or_memory status.Memory result text still memory is = inr (memory refl, sym is)
still_or_memory status.Done result text still memory is = inl (still (λ e. absurd (cc e)))
still_or_memory status.Refused result text still memory is = inl (still (λ e. absurd (cc e)))
still_or_memory status.Usage result text still memory is = inl (still (λ e. absurd (cc e)))
still_or_memory status.ReadFault result text still memory is = inl (still (λ e. absurd (cc e)))
still_or_memory status.WriteFault result text still memory is = inl (still (λ e. absurd (cc e)))
still_or_memory status.StoreFault result text still memory is = inl (still (λ e. absurd (cc e)))
still_or_memory status.NetFault result text still memory is = inl (still (λ e. absurd (cc e)))
still_or_memory status.Unsent result text still memory is = inl (still (λ e. absurd (cc e)))

-- the same of a run that served these sessions
pub still_or_ended : {A : Type 0} (s : Status) (end : ServeEnd) (reports told : List Report) (entries : List Entry) (sessions : ℕ) (pool : Pool) (before now : ℕ) → told ≡ reports
    → A ⊎ ((s ≡ status.Memory) × ((platform_text (Served end told entries)).status ≡ status.Memory)) → EndsAs end (length reports) sessions pool before now → A ⊎ EndsForMemory s reports
unfolding platform_text
still_or_ended s end reports told entries sessions pool before now same (inl still) ends = inl still
still_or_ended s end reports told entries sessions pool before now same (inr both) ends =
    inr (both.0, memory_cause end reports sessions pool before now (some_end is_memory reports) (subst (λ (l : List Report). status_of (some_end is_memory l) (last_reply end l).status ≡ status.Memory) same both.1) ends)
