-- A terminal that is never silent for a whole wait: since the first moment of its line it waits for each answer the first time.
use Rattle.std.proofs.Common.{◌≡◌, ◌≤◌, ◌<◌, ◌+◌, ◌*◌, ◌++◌, ℕ, zero, suc, List, [], ◌∷◌, Bool, true, false, Option, Some, None, slice_get, ◌⊎◌, inl, inr, refl, sym, ap, ◌∙◌, subst, arith}
use Rattle.std.specs.Prelude.{◌==◌, ◌&&◌, nat_le, nat_lt, not, if◌then◌else◌}
use Rattle.std.proofs.lemmas.Bool.{leb-true, lt-ltb}
use Rattle.jt_value.specs.Serials.{gap_of}
use Rattle.jt_value.specs.declared.limits.TheConstants.{SERIAL_WINDOW}
use Rattle.jt_outside.specs.Time.{Time, TellsAll}
use Rattle.jt_store.specs.declared.unit.Unit.{Unit as OneUnit}
use Rattle.jt_terminal_rule.specs.Rule.{after_acceptance, fill, fill_window, first_wait, form_unit, has_passed, introduce, is_silent, is_waiting, one_sent, or_stays, rule, send_unit, store_code, wait_behind, window}
use Rattle.jt_terminal_rule.specs.declared.state.Event.TheVariants.{Opened}
use Rattle.jt_terminal_rule.specs.declared.state.Phase.{Phase}
use Rattle.jt_terminal_rule.specs.declared.state.Phase.TheVariants.{Down, Registering, Authenticating, Live}
use Rattle.jt_terminal_rule.specs.declared.state.State.{State}
use Rattle.jt_terminal_rule.specs.declared.state.Timing.{Timing}
use Rattle.jt_terminal_rule.specs.declared.state.Wait.{Wait}
use Rattle.jt_report_command.specs.Scripted.{is_due}

-- a wait that began at this moment or later, behind one sending
pub record IsFresh (timing : Timing) (first : ℕ) (w : Wait) : Type 0 where
  pub sendings : w.sendings ≡ 1
  pub long : w.first ≡ 1000 * timing.answer
  pub last : first ≤ w.last

pub record Kept (timing : Timing) (first : ℕ) (s : State) : Type 0 where
  pub timing_is : s.timing ≡ timing
  pub time : first ≤ s.time
  pub said : first ≤ s.said
  pub wait : is_waiting s.phase s.sent ≡ true → IsFresh timing first s.wait

module _ (timing : Timing) (first : ℕ) where
  fresh : (s : State) → Kept timing first s → IsFresh timing first (first_wait s)
  fresh s k = record { sendings = refl; long = ap (λ (t : Timing). 1000 * t.answer) k.timing_is; last = k.time }

  -- one more unit is sent
  sent_wait : (s : State) (serial : ℕ) (x : Bool) → x ≡ (s.sent == 0) → s.phase ≡ Live serial → Kept timing first s → IsFresh timing first (if x then first_wait s else s.wait)
  sent_wait s serial true is live k = fresh s k
  sent_wait s serial false is live k = k.wait (subst (λ (p : Phase). is_waiting p s.sent ≡ true) (sym live) (lt-ltb 0 s.sent (some s.sent is)))
    where
      some : (n : ℕ) → false ≡ (n == 0) → 0 < n
      some zero e = absurd (cc e)
      some (suc n) e = omega arith

  fill_kept : (n : ℕ) (s : State) (serial : ℕ) → s.phase ≡ Live serial → Kept timing first s → Kept timing first (fill n s).state
  fill_kept zero s serial live k = k
  fill_kept (suc n) s serial live k =
      by (nat_lt s.sent window) (slice_get s.units s.sent) (λ t l same time said w. fill_kept n t serial l (record { timing_is = same; time = time; said = said; wait = λ _. w }))
    where
      Again : Type 0
      Again = (t : State) → t.phase ≡ Live serial → t.timing ≡ timing → first ≤ t.time → first ≤ t.said → IsFresh timing first t.wait → Kept timing first (fill n t).state

      formed : (x : Bool) (fix : List ℕ) (more : List (List ℕ)) → x ≡ nat_lt (gap_of s.mark s.next) SERIAL_WINDOW → Again → Kept timing first (or_stays s (form_unit s (fix ∷ more)) (fill n)).state
      formed true fix more is again = rw (sym is) (again _ live k.timing_is k.time k.time (sent_wait s serial (s.sent == 0) refl live k))
      formed false fix more is again = rw (sym is) k

      forming : (waiting : List (List ℕ)) → Again → Kept timing first (or_stays s (form_unit s waiting) (fill n)).state
      forming [] again = k
      forming (fix ∷ more) again = formed (nat_lt (gap_of s.mark s.next) SERIAL_WINDOW) fix more refl again

      by : (x : Bool) (o : Option OneUnit) → Again → Kept timing first (or_stays s (if x then send_unit s o else None) (fill n)).state
      by false o again = k
      by true (Some unit) again = again (one_sent s) live k.timing_is k.time k.time (sent_wait s serial (s.sent == 0) refl live k)
      by true None again = forming s.waiting again

  -- ---- acceptances

  pub coded_kept : (s : State) (code : List ℕ) → Kept timing first s → Kept timing first (store_code s code).state
  coded_kept s code k = record { timing_is = k.timing_is; time = k.time; said = k.time; wait = λ _. fresh s k }

  pub live_kept : (s : State) (serial : ℕ) → s.phase ≡ Authenticating serial → Kept timing first s → Kept timing first (fill_window (record s { phase = Live serial })).state
  live_kept s serial is k = fill_kept window (record s { phase = Live serial }) serial refl (record {
    timing_is = k.timing_is;
    time = k.time;
    said = k.said;
    wait = λ _. k.wait (subst (λ (p : Phase). is_waiting p s.sent ≡ true) (sym is) refl);
  })

  pub accepted_kept : (s : State) (unit : OneUnit) (more : List OneUnit) (serial : ℕ) → s.phase ≡ Live serial → Kept timing first s → Kept timing first (fill_window (after_acceptance s unit more)).state
  accepted_kept s unit more serial live k = fill_kept window (after_acceptance s unit more) serial live (record { timing_is = k.timing_is; time = k.time; said = k.said; wait = λ _. fresh s k })

  -- ---- a moment

  pub later_kept : (s : State) (now : ℕ) → first ≤ now → Kept timing first s → Kept timing first (record s { time = now })
  later_kept s now later k = record { timing_is = k.timing_is; time = later; said = k.said; wait = k.wait }

  not_passed : (s : State) (now : ℕ) → Kept timing first s → now < first + 1000 * timing.answer → has_passed (record s { time = now }) ≡ false
  not_passed s now k soon = by (is_waiting s.phase s.sent) refl (nat_le (s.wait.last + wait_behind s.wait.first s.wait.sendings) now) refl
    where
      by : (x : Bool) → is_waiting s.phase s.sent ≡ x → (y : Bool) → nat_le (s.wait.last + wait_behind s.wait.first s.wait.sendings) now ≡ y → (x && y) ≡ false
      by false waits y passed = refl
      by true waits false passed = refl
      by true waits true passed =
          let w = k.wait waits in
          let one : wait_behind s.wait.first s.wait.sendings ≡ s.wait.first = ap (λ (n : ℕ). wait_behind s.wait.first n) w.sendings in
          let le = leb-true (s.wait.last + wait_behind s.wait.first s.wait.sendings) now passed in
          let long = w.long in
          let last = w.last in
          absurd (omega (arith, le, one, long, last, soon))

  some_or_none : (n : ℕ) → n ≡ 0 → (n == 0) ≡ false → ⊥
  some_or_none zero e f = absurd (cc f)
  some_or_none (suc n) e f = absurd (cc e)

  beats_late : (s : State) (now : ℕ) → Kept timing first s → now < first + 1000 * timing.answer → (s.timing.heartbeat == 0) ≡ false → s.said + 1000 * s.timing.heartbeat ≤ now
      → (timing.heartbeat ≡ 0) ⊎ (timing.answer ≤ timing.heartbeat) → ⊥
  beats_late s now k soon some passed (inl never) = some_or_none s.timing.heartbeat (ap (λ (t : Timing). t.heartbeat) k.timing_is ∙ never) some
  beats_late s now k soon some passed (inr slow) =
      let same : s.timing.heartbeat ≡ timing.heartbeat = ap (λ (t : Timing). t.heartbeat) k.timing_is in
      let said = k.said in
      absurd (omega (arith, passed, same, said, slow, soon))

  not_silent : (s : State) (now : ℕ) → Kept timing first s → (timing.heartbeat ≡ 0) ⊎ (timing.answer ≤ timing.heartbeat) → now < first + 1000 * timing.answer → is_silent (record s { time = now }) ≡ false
  not_silent s now k beats soon = by (s.timing.heartbeat == 0) refl (nat_le (s.said + 1000 * s.timing.heartbeat) now) refl
    where
      by : (x : Bool) → (s.timing.heartbeat == 0) ≡ x → (y : Bool) → nat_le (s.said + 1000 * s.timing.heartbeat) now ≡ y → (not x && y) ≡ false
      by true none y passed = refl
      by false some false passed = refl
      by false some true passed = absurd (beats_late s now k soon some (leb-true (s.said + 1000 * s.timing.heartbeat) now passed) beats)

  due_not : (p : Phase) (s : State) → is_silent s ≡ false → is_due p s ≡ false
  due_not Down s e = refl
  due_not (Registering serial) s e = refl
  due_not (Authenticating serial) s e = refl
  due_not (Live serial) s e = e

  -- nothing is due at a moment that comes soon
  pub due_in_time : (s : State) (now : ℕ) → Kept timing first s → (timing.heartbeat ≡ 0) ⊎ (timing.answer ≤ timing.heartbeat) → now < first + 1000 * timing.answer
      → (has_passed (record s { time = now }) ≡ false) × (is_due s.phase (record s { time = now }) ≡ false)
  due_in_time s now k beats soon = (not_passed s now k soon, due_not s.phase (record s { time = now }) (not_silent s now k beats soon))

-- ---- a line that was just opened

opened_by : (s : State) (code : Option (List ℕ)) → Kept s.timing s.time (introduce s code).state
opened_by s None = record { timing_is = refl; time = omega arith; said = omega arith; wait = λ _. record { sendings = refl; long = refl; last = omega arith } }
opened_by s (Some code) = record { timing_is = refl; time = omega arith; said = omega arith; wait = λ _. record { sendings = refl; long = refl; last = omega arith } }

pub opened_kept : (s : State) → Kept s.timing s.time (rule s Opened).state
opened_kept s = opened_by (record s { sent = 0 }) s.code

-- ---- the clock

tells_later : (moments : List ℕ) (last : ℕ) (old now : Time) → TellsAll old now (moments ++ last ∷ []) → old.last ≤ last
tells_later [] last old now all = all.1.later
tells_later (moment ∷ moments) last old now all =
    let rest = tells_later moments last all.0 now all.2 in
    let later = all.1.later in
    let is = all.1.last in
    omega (arith, rest, later, is)

pub first_least : (first : ℕ) (moments : List ℕ) (last : ℕ) (old now : Time) → TellsAll old now (first ∷ (moments ++ last ∷ [])) → first ≤ last
first_least first moments last old now all =
    let rest = tells_later moments last all.0 now all.2 in
    let is = all.1.last in
    omega (arith, rest, is)
