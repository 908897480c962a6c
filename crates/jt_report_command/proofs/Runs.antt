-- How the parts of a run make one.
use Rattle.std.proofs.Common.{◌≡◌, ◌≢◌, ◌≤◌, ◌⊎◌, inl, inr, ℕ, List, [], Option, Ok, Err, IsErrOf, refl, sym, ap, subst, ◌∙◌, arith}
use Rattle.std.proofs.KnownBytes.{Appends-nil, Consumes-nil}
use Rattle.jt_value.specs.Counts.{Rose}
use Rattle.jt_outside.specs.Pool.{Pool}
use Rattle.jt_outside.specs.Time.{Time}
use Rattle.jt_input.specs.Text.{lines_of}
use Rattle.jt_store.specs.Tables.{WhereKnown}
use Rattle.jt_store.specs.Vaults.{Held, pending_count}
use Rattle.jt_store.specs.declared.error.StoreError.{StoreError}
use Rattle.jt_store.specs.declared.error.StoreError.TheVariants as store
use Rattle.jt_terminal_rule.specs.declared.settings.Settings.{Settings}
use Rattle.jt_terminal_rule.specs.declared.state.State.{State}
use Rattle.jt_terminal_steps.specs.Running.{IsStarted}
use Rattle.jt_agent.specs.Tries.{Reports, between}
use Rattle.jt_report_command.specs.FixesText.{AreFirst}
use Rattle.jt_report_command.specs.Noting.{Noting, held_with, noting}
use Rattle.jt_report_command.specs.Reading.{NotesFixes}
use Rattle.jt_report_command.specs.declared.noting.FixesError.{FixesError}
use Rattle.jt_report_command.specs.declared.noting.FixesError.TheVariants as error
use Rattle.jt_input.specs.Answer.{AnswersReply, CutsShort, HoldsOf}
use Rattle.jt_input.specs.declared.status.Status.{Status}
use Rattle.jt_input.specs.declared.status.Status.TheVariants as status
use Rattle.jt_report_command.specs.Came.{Came, BadLine, BeyondLimits, VaultFull, VaultFailed, Undialled, Reported, report_text}
use Rattle.jt_report_command.specs.Running.{Scene, scene_of, NotesAlone, Does, EndsSo, RunsReport}
use Rattle.jt_report_command.specs.Steps.{TellsAttempts, came_at, came_of, status_of_refusal}

-- ---- fixes that were not all recorded

-- no fix is said by no first lines, whatever octets follow
pub none_taken : (left : Option (List ℕ)) → HoldsOf (AreFirst []) left []
none_taken left = (
  record { before = []; behind = []; lines = refl; good = refl },
  inr (λ rest. record { before = []; behind = lines_of rest; lines = refl; good = refl }),
)

-- nothing was dialled
alone : (fixes : List (List ℕ)) (held held_now : Option Held) (limit limit_now faults faults_now : ℕ) (time : Time) (pool : Pool) (dial : ℕ) → held_now ≡ held_with held fixes
    → NotesAlone fixes (scene_of held limit faults time pool dial) (scene_of held_now limit_now faults_now time pool dial)
alone fixes held held_now limit limit_now faults faults_now time pool dial is = record { held = is; time = refl; pool = refl; dial = refl }

pub does_error : {T : Type 0} (e : FixesError) (Starts : State → Type 0) (tries : ℕ) (left left_now : Option (List ℕ)) (state state_now : State) (held held_now : Option Held)
    (limit limit_now faults faults_now : ℕ) (time : Time) (pool : Pool) (dial : ℕ)
    → (n : NotesFixes {T = T} (Err e) limit left left_now (noting state held) (noting state_now held_now))
    → (IsErrOf {T = T} {E = FixesError} (Err e) error.VaultFailed → Rose faults faults_now)
    → Does (came_of e) Starts tries n.taken left_now (scene_of held limit faults time pool dial) (scene_of held_now limit_now faults_now time pool dial)
does_error (error.BadLine number said) Starts tries left left_now state state_now held held_now limit limit_now faults faults_now time pool dial n failed =
    (n.fixes, alone n.fixes held held_now limit limit_now faults faults_now time pool dial (ap (λ (x : Noting). x.held) n.recorded), n.answers.0, n.answers.1)
does_error (error.BeyondLimits number) Starts tries left left_now state state_now held held_now limit limit_now faults faults_now time pool dial n failed =
    (n.fixes, alone n.fixes held held_now limit limit_now faults faults_now time pool dial (ap (λ (x : Noting). x.held) n.recorded), n.answers)
does_error (error.VaultFull most) Starts tries left left_now state state_now held held_now limit limit_now faults faults_now time pool dial n failed =
    (n.fixes, alone n.fixes held held_now limit limit_now faults faults_now time pool dial (ap (λ (x : Noting). x.held) n.recorded), n.answers.0, n.answers.1, n.answers.2)
does_error error.VaultFailed Starts tries left left_now state state_now held held_now limit limit_now faults faults_now time pool dial n failed =
    (n.fixes, alone n.fixes held held_now limit limit_now faults faults_now time pool dial (ap (λ (x : Noting). x.held) n.recorded), inr n.answers, failed refl)
does_error error.ReadFailed Starts tries left left_now state state_now held held_now limit limit_now faults faults_now time pool dial n failed =
    (n.fixes, alone n.fixes held held_now limit limit_now faults faults_now time pool dial (ap (λ (x : Noting). x.held) n.recorded), n.answers)
does_error error.Memory Starts tries left left_now state state_now held held_now limit limit_now faults faults_now time pool dial n failed =
    (n.fixes, alone n.fixes held held_now limit limit_now faults faults_now time pool dial (ap (λ (x : Noting). x.held) n.recorded), n.answers)

-- ---- a terminal that started

rose_then : (before mid now : ℕ) → before ≤ mid → Rose mid now → Rose before now
rose_then before mid now later rose = omega (arith, later, rose)

earlier_alone : (fixes : List (List ℕ)) (held : Option Held) (limit faults before : ℕ) (time : Time) (pool : Pool) (dial : ℕ) (now : Scene)
    → NotesAlone fixes (scene_of held limit faults time pool dial) now → NotesAlone fixes (scene_of held limit before time pool dial) now
earlier_alone fixes held limit faults before time pool dial now a = record { held = a.held; time = a.time; pool = a.pool; dial = a.dial }

-- what was done since a terminal started was done since before it did
earlier : (came : Came) (settings : Settings) (t : State) (tries : ℕ) (taken : List ℕ) (left_now : Option (List ℕ)) (held : Option Held) (limit faults before : ℕ)
    (time : Time) (pool : Pool) (dial : ℕ) (now : Scene) → IsStarted settings held t → before ≤ faults
    → Does came (λ s. s ≡ t) tries taken left_now (scene_of held limit faults time pool dial) now
    → Does came (IsStarted settings held) tries taken left_now (scene_of held limit before time pool dial) now
earlier (BadLine number said) settings t tries taken left_now held limit faults before time pool dial now started later does =
    (does.0, earlier_alone does.0 held limit faults before time pool dial now does.1, does.2, does.3)
earlier (BeyondLimits number) settings t tries taken left_now held limit faults before time pool dial now started later does =
    (does.0, earlier_alone does.0 held limit faults before time pool dial now does.1, does.2)
earlier (VaultFull most) settings t tries taken left_now held limit faults before time pool dial now started later does =
    (does.0, earlier_alone does.0 held limit faults before time pool dial now does.1, does.2, does.3, does.4)
earlier VaultFailed settings t tries taken left_now held limit faults before time pool dial now started later does =
    (does.0, earlier_alone does.0 held limit faults before time pool dial now does.1, does.2, rose_then before faults now.faults later does.3)
earlier Undialled settings t tries taken left_now held limit faults before time pool dial now started later does =
    (does.0, earlier_alone does.0 held limit faults before time pool dial now does.1, does.2)
earlier (Reported outcome accepted recorded) settings t tries taken left_now held limit faults before time pool dial now started later does =
    let r = does.3 in (
      does.0,
      does.1,
      does.2,
      record {
        started = r.started;
        starts = subst (IsStarted settings held) (sym r.starts) started;
        faults = r.faults;
        later = omega (arith, later, r.later);
        after = r.after;
        reports = r.reports;
        dials = r.dials;
        totals = r.totals;
        counts = r.counts;
      },
    )

-- so it is of a run
pub from_start : (settings : Settings) (t : State) (tries : ℕ) (left left_now : Option (List ℕ)) (held held_t : Option Held) (limit limit_t faults faults_t : ℕ)
    (time : Time) (pool : Pool) (dial : ℕ) (now : Scene) (written written_now : Option (List ℕ)) (status : Status) → IsStarted settings held t → held_t ≡ held → limit_t ≡ limit → faults ≤ faults_t
    → RunsReport (λ s. s ≡ t) tries left left_now (scene_of held_t limit_t faults_t time pool dial) now written written_now status
    → RunsReport (IsStarted settings held) tries left left_now (scene_of held limit faults time pool dial) now written written_now status
from_start settings t tries left left_now held held_t limit limit_t faults faults_t time pool dial now written written_now status started same_held same_limit later r =
    let same : ◌≡◌ {A = Scene} (scene_of held_t limit_t faults_t time pool dial) (scene_of held limit faults_t time pool dial) = λ i. scene_of (same_held i) (same_limit i) faults_t time pool dial in
    record {
      came = r.came;
      taken = r.taken;
      consumed = r.consumed;
      does = earlier r.came settings t tries r.taken left_now held limit faults_t faults time pool dial now started later
          (subst (λ (s : Scene). Does r.came (λ s. s ≡ t) tries r.taken left_now s now) same r.does);
      answers = r.answers;
      ends = r.ends;
    }

-- ---- a terminal that read its fixes

-- all were recorded, and attempts followed
pub runs_noted : {T : Type 0} (done : T) (t mid after : State) (tries : ℕ) (left left_now : Option (List ℕ)) (held held_mid held_now : Option Held)
    (limit limit_now faults faults_mid faults_now : ℕ) (time time_now : Time) (pool pool_now : Pool) (dial dial_now : ℕ) (written written_now : Option (List ℕ)) (ended : Status)
    → faults ≤ faults_mid → NotesFixes (Ok done) limit left left_now (noting t held) (noting mid held_mid)
    → TellsAttempts tries (between mid held_mid faults_mid time pool dial) (between after held_now faults_now time_now pool_now dial_now) written written_now ended
    → ended ≢ status.ReadFault
    → RunsReport (λ s. s ≡ t) tries left left_now (scene_of held limit faults time pool dial) (scene_of held_now limit_now faults_now time_now pool_now dial_now) written written_now ended
runs_noted done t mid after tries left left_now held held_mid held_now limit limit_now faults faults_mid faults_now time time_now pool pool_now dial dial_now written written_now ended
    later n tells not_read =
    let now = between after held_now faults_now time_now pool_now dial_now in
    let reports = subst (λ (x : Noting). Reports tries tells.outcome (between x.state x.held faults_mid time pool dial) now) n.recorded tells.reports in
    record {
      came = Reported tells.outcome after.accepted after.recorded;
      taken = n.taken;
      consumed = n.consumed;
      does = (
        n.fixes,
        n.answers.0,
        n.answers.1,
        record {
          started = t;
          starts = refl;
          faults = faults_mid;
          later = later;
          after = after;
          reports = reports;
          dials = tells.dials;
          totals = (refl, refl);
          counts = tells.counts;
        },
      );
      answers = tells.answers;
      ends = not_read;
    }

-- not all were, and nothing was dialled
pub runs_error : {T : Type 0} (e : FixesError) (Starts : State → Type 0) (tries : ℕ) (left left_now : Option (List ℕ)) (state state_now : State) (held held_now : Option Held)
    (limit limit_now faults faults_now : ℕ) (time : Time) (pool : Pool) (dial : ℕ) (written written_now : Option (List ℕ)) (status : Status)
    → NotesFixes {T = T} (Err e) limit left left_now (noting state held) (noting state_now held_now)
    → (IsErrOf {T = T} {E = FixesError} (Err e) error.VaultFailed → Rose faults faults_now)
    → AnswersReply status (report_text (came_of e)) written written_now → EndsSo (came_of e) status
    → RunsReport Starts tries left left_now (scene_of held limit faults time pool dial) (scene_of held_now limit_now faults_now time pool dial) written written_now status
runs_error e Starts tries left left_now state state_now held held_now limit limit_now faults faults_now time pool dial written written_now status n failed answers ends = record {
  came = came_of e;
  taken = n.taken;
  consumed = n.consumed;
  does = does_error e Starts tries left left_now state state_now held held_now limit limit_now faults faults_now time pool dial n failed;
  answers = answers;
  ends = ends;
}

-- ---- a terminal that did not start

does_refused : (e : StoreError) (Starts : State → Type 0) (tries : ℕ) (left : Option (List ℕ)) (held held_now : Option Held) (limit limit_now faults faults_now : ℕ) (time : Time) (pool : Pool) (dial : ℕ)
    → held_now ≡ held → (e ≡ store.Failed → Rose faults faults_now)
    → Does (came_at e) Starts tries [] left (scene_of held limit faults time pool dial) (scene_of held_now limit_now faults_now time pool dial)
does_refused store.Failed Starts tries left held held_now limit limit_now faults faults_now time pool dial same failed =
    ([], alone [] held held_now limit limit_now faults faults_now time pool dial same, inl (refl, refl), failed refl)
does_refused store.Memory Starts tries left held held_now limit limit_now faults faults_now time pool dial same failed =
    ([], alone [] held held_now limit limit_now faults faults_now time pool dial same, none_taken left)
does_refused (store.Full most) Starts tries left held held_now limit limit_now faults faults_now time pool dial same failed =
    ([], alone [] held held_now limit limit_now faults faults_now time pool dial same, none_taken left)

pub runs_refused : (e : StoreError) (Starts : State → Type 0) (tries : ℕ) (left : Option (List ℕ)) (held held_now : Option Held) (limit limit_now faults faults_now : ℕ) (time : Time) (pool : Pool) (dial : ℕ)
    (written written_now : Option (List ℕ)) (status : Status) → held_now ≡ held → (e ≡ store.Failed → Rose faults faults_now)
    → AnswersReply status (report_text (came_at e)) written written_now → EndsSo (came_at e) status
    → RunsReport Starts tries left left (scene_of held limit faults time pool dial) (scene_of held_now limit_now faults_now time pool dial) written written_now status
runs_refused e Starts tries left held held_now limit limit_now faults faults_now time pool dial written written_now status same failed answers ends = record {
  came = came_at e;
  taken = [];
  consumed = Consumes-nil left;
  does = does_refused e Starts tries left held held_now limit limit_now faults faults_now time pool dial same failed;
  answers = answers;
  ends = ends;
}

-- memory was wanted before the vault was asked
text_none : (written : Option (List ℕ)) → AnswersReply status.Memory (report_text Undialled) written written
unfolding report_text
text_none written = inl (refl, Appends-nil written)

pub runs_none : (Starts : State → Type 0) (tries : ℕ) (left : Option (List ℕ)) (scene : Scene) (written : Option (List ℕ)) → RunsReport Starts tries left left scene scene written written status.Memory
runs_none Starts tries left scene written = record {
  came = Undialled;
  taken = [];
  consumed = Consumes-nil left;
  does = ([], record { held = refl; time = refl; pool = refl; dial = refl }, none_taken left);
  answers = text_none written;
  ends = inl refl;
}

-- ---- a run whose vault did not load

-- the settings are those of the words
pub with_settings : (a b : Settings) (tries : ℕ) (left left_now : Option (List ℕ)) (held : Option Held) (old now : Scene) (written written_now : Option (List ℕ)) (ended : Status) → a ≡ b
    → RunsReport (IsStarted a held) tries left left_now old now written written_now ended → RunsReport (IsStarted b held) tries left left_now old now written written_now ended
with_settings a b tries left left_now held old now written written_now ended same r =
    subst (λ (x : Settings). RunsReport (IsStarted x held) tries left left_now old now written written_now ended) same r

-- a fault of the store since a terminal started, or a full vault, is one since before it did
pub store_since : (before mid now most_mid most : ℕ) (held : Option Held) → before ≤ mid → most_mid ≡ most → Rose mid now ⊎ WhereKnown held (λ h. pending_count h ≡ most_mid)
    → Rose before now ⊎ WhereKnown held (λ h. pending_count h ≡ most)
store_since before mid now most_mid most held later same (inl rose) = inl (rose_then before mid now later rose)
store_since before mid now most_mid most held later same (inr full) = inr (subst (λ (m : ℕ). WhereKnown held (λ h. pending_count h ≡ m)) same full)

refused_is : (e : StoreError) (s : Status) → (s ≡ status_of_refusal e) ⊎ CutsShort s → (s ≡ status.StoreFault) ⊎ CutsShort s
refused_is store.Failed s told = told
refused_is store.Memory s (inl is) = inr (inl is)
refused_is store.Memory s (inr cut) = inr cut
refused_is (store.Full limit) s (inl is) = inr (inl is)
refused_is (store.Full limit) s (inr cut) = inr cut

may_be : (s t : Status) → (s ≡ status.StoreFault) ⊎ CutsShort s → t ≢ status.StoreFault → t ≢ status.Memory → t ≢ status.WriteFault → s ≢ t
may_be s t (inl is) no_store no_memory no_write e = no_store (sym e ∙ is)
may_be s t (inr (inl memory)) no_store no_memory no_write e = no_memory (sym e ∙ memory)
may_be s t (inr (inr write)) no_store no_memory no_write e = no_write (sym e ∙ write)

-- it ends with no other status
pub refused_never : (error : StoreError) (s t : Status) → (s ≡ status_of_refusal error) ⊎ CutsShort s → t ≢ status.StoreFault → t ≢ status.Memory → t ≢ status.WriteFault → s ≢ t
refused_never error s t told = may_be s t (refused_is error s told)

not_store : (s : Status) → CutsShort s → s ≢ status.StoreFault
not_store s (inl memory) e = absurd (cc (sym memory ∙ e))
not_store s (inr write) e = absurd (cc (sym write ∙ e))

-- and with a fault of the store only where the vault failed
pub refused_failed : (e : StoreError) (s : Status) → (s ≡ status_of_refusal e) ⊎ CutsShort s → s ≡ status.StoreFault → e ≡ store.Failed
refused_failed store.Failed s told is = refl
refused_failed store.Memory s (inl memory) is = absurd (cc (sym memory ∙ is))
refused_failed store.Memory s (inr cut) is = absurd (not_store s cut is)
refused_failed (store.Full limit) s (inl memory) is = absurd (cc (sym memory ∙ is))
refused_failed (store.Full limit) s (inr cut) is = absurd (not_store s cut is)
