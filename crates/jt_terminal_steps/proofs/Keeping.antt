-- A terminal stays sound: in order, and at one with what its vault holds where that is told.
use Rattle.std.proofs.Common.{ℕ, zero, suc, ◌≡◌, ◌<◌, ◌≤◌, ◌+◌, ◌-◌, ◌^◌, min, List, [], ◌∷◌, ◌++◌, length, take, drop, slice_get, Option, Some, None, Bool, true, false, cond, inl, inr, refl, ap, sym, ◌∙◌, subst, arith}
use Rattle.std.specs.Prelude.{All, IfSome, nat_lt, ◌==◌}
use Rattle.std.proofs.lemmas.List.{length-append, take-append-le}
use Rattle.std.proofs.lemmas.Bool.{ltb-true}
use Rattle.std.proofs.lemmas.Option.{slice_get_within}
use Rattle.std.proofs.lemmas.List.Elements.{All-drop, All-push}
use Rattle.jt_value.specs.Serials.{serial_of, gap_of}
use Rattle.jt_position.specs.Fixes.{IsFix, FixesAre}
use Rattle.jt_store.specs.declared.unit.Unit.{Unit as OneUnit}
use Rattle.jt_store.specs.Tables.{WhereKnown}
use Rattle.jt_store.specs.Vaults.{Held, Change, Notes, Forms, Accepts, Sets, held_by, changed, accepted_count, fixes_carried, AreInOrder, Gaps, IsUnit, gap_after}
use Rattle.jt_store.specs.Vaults as vaults
use Rattle.jt_terminal_rule.specs.declared.state.Phase.{Phase}
use Rattle.jt_terminal_rule.specs.declared.state.Phase.TheVariants.{Down, Registering, Authenticating}
use Rattle.jt_terminal_rule.specs.Forming.{unit_of, unit_from}
use Rattle.jt_terminal_rule.specs.Law.{UnitCarriesFirstFixes}
use Rattle.jt_terminal_rule.specs.Rule as rule
use Rattle.jt_terminal_rule.specs.declared.state.State.{State}
use Rattle.jt_terminal_rule.specs.declared.state.Wait.{Wait}
use Rattle.jt_terminal_rule.specs.Rule.{with_fix, after_acceptance, one_sent, down, capped_sum, after_saying}
use Rattle.jt_terminal_rule.specs.Machines.{IsPhase, IsInOrder, Agrees}
use Rattle.jt_params.specs.Tables.{HasOctets, Table}
use Rattle.jt_regions.specs.Tables.{Regions}
use Rattle.jt_terminal_rule.specs.declared.state.Timing.{Timing}
use Rattle.jt_terminal_rule.specs.declared.state.AnswerKind.{AnswerKind}
use Rattle.jt_value.specs.declared.phone.Edition.{Edition}
use Rattle.jt_value.specs.declared.phone.Edition.TheVariants.{E2013, E2019}
use Rattle.jt_terminal_rule.specs.Answers.{Answer, answer_to_lack}
use Rattle.jt_terminal_rule.specs.Rule.{changed_by}
use Rattle.jt_terminal_rule.proofs.Answering.{changed_agrees, changed_order, packets_agrees, packets_order}
use Rattle.jt_terminal_answers.specs.Answering.{AllOrNothing}
use Rattle.jt_terminal_steps.specs.Running.{IsSound, CountsAsVault, took}
use Rattle.jt_terminal_rule.proofs.Batches.{unit_carries}
use Rattle.jt_terminal_rule.proofs.Forming.{gaps_push, serials_push, counts_push, next_gap, after_push, unit_serial, form_steps, with_unit}
use Rattle.jt_terminal_rule.proofs.Accepting.{accepted_order, accepted_agrees, found}
use Rattle.jt_terminal_rule.proofs.Speaking.{keep_order, keep_agrees, spoken_order, spoken_agrees}
use Rattle.jt_terminal_rule.proofs.Starting.{noted_is_a_step}
use Rattle.jt_terminal_rule.proofs.Measuring.{take_at}

-- ---- facts where they are told

told_map : (held : Option Held) (P Q : Held → Type 0) → ((h : Held) → P h → Q h) → WhereKnown held P → WhereKnown held Q
told_map None P Q f t = tt
told_map (Some h) P Q f t = f h t

told_changed : (change : Change) (held : Option Held) (P Q : Held → Type 0) → ((h : Held) → P h → Q (held_by change h)) → WhereKnown held P → WhereKnown (changed change held) Q
told_changed change None P Q f t = tt
told_changed change (Some h) P Q f t = f h t

abbrev AgreesWhole : State → Held → Type 0
AgreesWhole s h = Agrees h s × CountsAsVault h s

-- ---- states with the same lists

pub sound_kept : (held : Option Held) (s : State) (p : Phase) (time : ℕ) (w : Wait) (said sent : ℕ) → IsPhase p → sent ≤ length s.units → IsSound held s
    → IsSound held (record s { phase = p; time = time; wait = w; said = said; sent = sent })
sound_kept held s p time w said sent is le sound = record {
  good = sound.good;
  order = keep_order s p time w said sent is le sound.order;
  fixes = sound.fixes;
  params = sound.params;
  agrees = told_map held (AgreesWhole s) (AgreesWhole (record s { phase = p; time = time; wait = w; said = said; sent = sent }))
      (λ h t. (keep_agrees h s p time w said sent t.0, record { recorded = t.1.recorded; accepted = t.1.accepted })) sound.agrees;
}

pub sound_spoken : (held : Option Held) (s : State) (p : Phase) (w : Wait) → IsPhase p → IsSound held s → IsSound held (after_saying s p w)
sound_spoken held s p w is sound = record {
  good = sound.good;
  order = spoken_order s p w is sound.order;
  fixes = sound.fixes;
  params = sound.params;
  agrees = told_map held (AgreesWhole s) (AgreesWhole (after_saying s p w)) (λ h t. (spoken_agrees h s p w sound.order t.0, record { recorded = t.1.recorded; accepted = t.1.accepted })) sound.agrees;
}

pub sound_down : (held : Option Held) (s : State) → IsSound held s → IsSound held (down s)
sound_down held s sound = sound_kept held s Down s.time s.wait s.said 0 tt (omega arith) sound

-- ---- a fix is recorded

counted_on : (a n : ℕ) → a ≡ min n (2 ^ 64 - 1) → capped_sum a 1 ≡ min (n + 1) (2 ^ 64 - 1)
counted_on a n e = grind arith

pub sound_noted : (held : Option Held) (s : State) (fix : List ℕ) → IsFix fix → IsSound held s → IsSound (changed (Notes fix) held) (with_fix s fix)
sound_noted held s fix is sound = record {
  good = sound.good;
  order = let o = sound.order in record { order = o.order; serials = o.serials; phase = o.phase; mark = o.mark; next = o.next; sent = o.sent };
  fixes = All-push IsFix s.waiting fix sound.fixes is;
  params = sound.params;
  agrees = told_changed (Notes fix) held (AgreesWhole s) (AgreesWhole (with_fix s fix))
      (λ h t. (
        (noted_is_a_step h s fix is sound.order t.0).agrees,
        record {
          recorded = counted_on s.recorded (length h.recorded) t.1.recorded ∙ ap (λ (n : ℕ). min n (2 ^ 64 - 1)) (sym (length-append h.recorded (fix ∷ [])));
          accepted = t.1.accepted;
        },
      )) sound.agrees;
}

-- ---- a unit is formed

module _ (carries : UnitCarriesFirstFixes) (s : State) (o : IsInOrder s) (fix : List ℕ) (more : List (List ℕ)) (are : All IsFix (fix ∷ more)) (near : gap_of s.mark s.next < 32767) where
  abbrev u : OneUnit
  u = unit_of s.next fix (fix ∷ more)

  is_unit : IsUnit u
  is_unit = carries.unit s.next fix more are

  serial : u.serial ≡ s.next
  serial = unit_serial s.next fix (fix ∷ more)

  gap_is : gap_of s.mark (serial_of (s.next + 1)) ≡ gap_of s.mark s.next + 1
  gap_is = next_gap s.mark s.next o.mark o.next near

  unit_gap : gap_of s.mark u.serial ≡ gap_of s.mark s.next
  unit_gap = ap (gap_of s.mark) serial

  order : AreInOrder s.mark (serial_of (s.next + 1)) (s.units ++ u ∷ []) s.code
  order = record {
    gaps = gaps_push s.mark 1 s.units u o.order.gaps (let le = o.order.behind in omega (arith, unit_gap, le)) (omega (arith, unit_gap, near)) is_unit;
    behind = omega (arith, after_push s.mark 1 s.units u, unit_gap, gap_is);
    near = omega (arith, gap_is, near);
    short = o.order.short;
  }

  formed_order : IsInOrder (with_unit s u (fix ∷ more))
  formed_order = record { order = order; serials = serials_push s.units u o.serials (let lt = o.next in omega (arith, serial, lt)); phase = o.phase; mark = o.mark; next = omega arith; sent = let le = o.sent in omega (arith, length-append s.units (u ∷ []), le) }

settled_formed : (h : Held) (u : OneUnit) → h.accepted ≤ length h.units → accepted_count (held_by (Forms u) h) ≡ accepted_count h
settled_formed h u le = ap fixes_carried (take-append-le h.accepted h.units (u ∷ []) le)

abbrev formed_by : State → OneUnit → State
formed_by s unit = record s { units = s.units ++ unit ∷ []; waiting = drop unit.count s.waiting; next = serial_of (s.next + 1) }

some_is : (a b : OneUnit) → Some a ≡ Some b → a ≡ b
some_is a b e = cc

formed_sound : UnitCarriesFirstFixes → (held : Option Held) (s : State) (fixes : List (List ℕ)) (unit : OneUnit) → s.waiting ≡ fixes → Some unit ≡ unit_from s.next fixes → gap_of s.mark s.next < 32767 → IsSound held s
    → IsSound (changed (Forms unit) held) (formed_by s unit)
formed_sound carries held s [] unit waits is near sound = absurd cc
formed_sound carries held s (fix ∷ more) unit waits is near sound =
    let u = unit_of s.next fix (fix ∷ more) in
    let same = some_is unit u is in
    let are = subst (All IsFix) waits sound.fixes in
    subst (λ (x : OneUnit). IsSound (changed (Forms x) held) (formed_by s x)) (sym same) (subst (λ (fs : List (List ℕ)). IsSound (changed (Forms u) held) (with_unit s u fs)) (sym waits) (record {
      good = sound.good;
      order = formed_order carries s sound.order fix more are near;
      fixes = All-drop IsFix u.count (fix ∷ more) are;
      params = sound.params;
      agrees = told_changed (Forms u) held (AgreesWhole s) (AgreesWhole (with_unit s u (fix ∷ more)))
          (λ h t. (
            (form_steps carries h s sound.order t.0 fix more waits near).agrees,
            record {
              recorded = t.1.recorded;
              accepted = t.1.accepted ∙ ap (λ (n : ℕ). min n (2 ^ 64 - 1)) (sym (settled_formed h u t.0.known));
            },
          )) sound.agrees;
    }))

sent_sound : (held : Option Held) (s : State) → s.sent < length s.units → IsSound held s → IsSound held (one_sent s)
sent_sound held s lt sound = sound_kept held s s.phase s.time (cond (s.sent == 0) (rule.first_wait s) s.wait) s.time (s.sent + 1) sound.order.phase (omega (arith, lt)) sound

-- a unit is formed and sent
pub sound_formed : FixesAre → (held : Option Held) (s : State) (unit : OneUnit) → Some unit ≡ unit_from s.next s.waiting → nat_lt (gap_of s.mark s.next) 32767 ≡ true → IsSound held s
    → IsSound (changed (Forms unit) held) (one_sent (formed_by s unit))
sound_formed fixes_are held s unit is near sound =
    let formed = formed_sound (unit_carries fixes_are) held s s.waiting unit refl is (ltb-true (gap_of s.mark s.next) 32767 near) sound in
    let le = sound.order.sent in
    sent_sound (changed (Forms unit) held) (formed_by s unit) (omega (arith, length-append s.units (unit ∷ []), le)) formed

-- the next unit is sent
pub sound_sent : (held : Option Held) (s : State) (unit : OneUnit) → slice_get s.units s.sent ≡ Some unit → IsSound held s → IsSound held (one_sent s)
sound_sent held s unit there sound = sent_sound held s (slice_get_within s.units s.sent unit there) sound

may_form : UnitCarriesFirstFixes → (held : Option Held) (s : State) (fixes : List (List ℕ)) (unit : OneUnit) → s.waiting ≡ fixes → Some unit ≡ unit_from s.next fixes → gap_of s.mark s.next < 32767 → IsSound held s
    → IsUnit unit × WhereKnown held (λ h. vaults.MayCommit h unit)
may_form carries held s [] unit waits is near sound = absurd cc
may_form carries held s (fix ∷ more) unit waits is near sound =
    let u = unit_of s.next fix (fix ∷ more) in
    let same = some_is unit u is in
    let are = subst (All IsFix) waits sound.fixes in
    subst (λ (x : OneUnit). IsUnit x × WhereKnown held (λ h. vaults.MayCommit h x)) (sym same) (
      carries.unit s.next fix more are,
      told_map held (AgreesWhole s) (λ h. vaults.MayCommit h u) (λ h t. (form_steps carries h s sound.order t.0 fix more waits near).commits.0.1) sound.agrees,
    )

-- the vault takes the unit
pub form_is_good : FixesAre → (held : Option Held) (s : State) (unit : OneUnit) → Some unit ≡ unit_from s.next s.waiting → nat_lt (gap_of s.mark s.next) 32767 ≡ true → IsSound held s
    → IsUnit unit × WhereKnown held (λ h. vaults.MayCommit h unit)
form_is_good fixes_are held s unit is near sound = may_form (unit_carries fixes_are) held s s.waiting unit refl is (ltb-true (gap_of s.mark s.next) 32767 near) sound

-- ---- the oldest unit is accepted

risen_on : (a n by : ℕ) → a ≡ min n (2 ^ 64 - 1) → capped_sum a by ≡ min (n + by) (2 ^ 64 - 1)
risen_on a n by e = grind arith

settled_accepted : (h : Held) (u : OneUnit) → slice_get h.units h.accepted ≡ Some u → accepted_count (held_by Accepts h) ≡ accepted_count h + u.count
settled_accepted h u there = ap fixes_carried (take_at h.units h.accepted u there) ∙ counts_push (take h.accepted h.units) u

pub sound_accepted : (held : Option Held) (s : State) (u : OneUnit) (more : List OneUnit) → s.units ≡ u ∷ more → IsSound held s → IsSound (changed Accepts held) (after_acceptance s u more)
sound_accepted held s u more is sound = record {
  good = sound.good;
  order = accepted_order s u more sound.order is;
  fixes = sound.fixes;
  params = sound.params;
  agrees = told_changed Accepts held (AgreesWhole s) (AgreesWhole (after_acceptance s u more))
      (λ h t. (
        accepted_agrees h s u more sound.order t.0 is,
        record {
          recorded = t.1.recorded;
          accepted = risen_on s.accepted (accepted_count h) u.count t.1.accepted ∙ ap (λ (n : ℕ). min n (2 ^ 64 - 1)) (sym (settled_accepted h u (found h s u more sound.order t.0 is).4));
        },
      )) sound.agrees;
}

-- the vault takes the acceptance
pub accept_is_good : (held : Option Held) (s : State) (u : OneUnit) (more : List OneUnit) → s.units ≡ u ∷ more → IsSound held s → WhereKnown held (λ h. h.accepted < length h.units)
accept_is_good held s u more is sound = told_map held (AgreesWhole s) (λ h. h.accepted < length h.units) (λ h t. (found h s u more sound.order t.0 is).3) sound.agrees

-- ---- the code

-- the code is set or removed
pub sound_coded : (held : Option Held) (s : State) (code : Option (List ℕ)) → IfSome code (λ octets. length octets ≤ 255) → IsSound held s → IsSound (changed (Sets code) held) (record s { code = code })
sound_coded held s code short sound =
    let o = sound.order in
    record {
      good = sound.good;
      order = record { order = record { gaps = o.order.gaps; behind = o.order.behind; near = o.order.near; short = short }; serials = o.serials; phase = o.phase; mark = o.mark; next = o.next; sent = o.sent };
      fixes = sound.fixes;
      params = sound.params;
      agrees = told_changed (Sets code) held (AgreesWhole s) (AgreesWhole (record s { code = code }))
          (λ h t. (
            record { known = t.0.known; units = t.0.units; mark = t.0.mark; mark_held = t.0.mark_held; next_small = t.0.next_small; next_behind = t.0.next_behind; next_held = t.0.next_held; fixes = t.0.fixes; formed = t.0.formed; are_fixes = t.0.are_fixes; code = refl },
            record { recorded = t.1.recorded; accepted = t.1.accepted },
          )) sound.agrees;
    }

-- the code is removed, and the line is not in use any more
pub sound_forgets : (held : Option Held) (s : State) → IsSound held s → IsSound (changed (Sets None) held) (down (record s { code = None }))
sound_forgets held s sound = sound_down (changed (Sets None) held) (record s { code = None }) (sound_coded held s None tt sound)

-- the code is stored, and an authentication sent
pub sound_coded_on : (held : Option Held) (s : State) (code : List ℕ) → length code ≤ 255 → IsSound held s → IsSound (changed (Sets (Some code)) held) (after_saying (record s { code = Some code }) (Authenticating s.next) (rule.first_wait s))
sound_coded_on held s code short sound = sound_spoken (changed (Sets (Some code)) held) (record s { code = Some code }) (Authenticating s.next) (rule.first_wait s) sound.order.next (sound_coded held s (Some code) short sound)

-- ---- the oldest unit, if there is one

pub sound_took : (held : Option Held) (s : State) (units : List OneUnit) → s.units ≡ units → 0 < length units → IsSound held s → IsSound (changed Accepts held) (took s units)
sound_took held s [] is some sound = absurd (omega (arith, some))
sound_took held s (u ∷ more) is some sound = sound_accepted held s u more is sound

pub took_is_good : (held : Option Held) (s : State) (units : List OneUnit) → s.units ≡ units → 0 < length units → IsSound held s → WhereKnown held (λ h. h.accepted < length h.units)
took_is_good held s [] is some sound = absurd (omega (arith, some))
took_is_good held s (u ∷ more) is some sound = accept_is_good held s u more is sound

-- ---- messages that are no units

pub sound_beats : (held : Option Held) (s : State) → IsSound held s → IsSound held (rule.say_heartbeat s).state
sound_beats held s sound = sound_spoken held s s.phase s.wait sound.order.phase sound

pub sound_beats_if_silent : (held : Option Held) (s : State) → IsSound held s → IsSound held (rule.heartbeat_if_silent s).state
sound_beats_if_silent held s sound = by (rule.is_silent s)
  where
    by : (b : Bool) → IsSound held (cond b (rule.say_heartbeat s) (rule.stays s)).state
    by true = sound_beats held s sound
    by false = sound

pub sound_repeats : (held : Option Held) (s : State) → IsSound held s → IsSound held (rule.repeat_sending s).state
sound_repeats held s sound = sound_kept held s s.phase s.time (rule.repeat_wait s) s.time s.sent sound.order.phase sound.order.sent sound

pub sound_introduces : (held : Option Held) (s : State) (code : Option (List ℕ)) → IsSound held s → IsSound held (rule.introduce s code).state
sound_introduces held s None sound = sound_spoken held s (Registering s.next) (rule.first_wait s) sound.order.next sound
sound_introduces held s (Some code) sound = sound_spoken held s (Authenticating s.next) (rule.first_wait s) sound.order.next sound

pub sound_reopened : (held : Option Held) (s : State) → IsSound held s → IsSound held (record s { sent = 0 })
sound_reopened held s sound = sound_kept held s s.phase s.time s.wait s.said 0 sound.order.phase (omega arith) sound

pub sound_opened : (held : Option Held) (s : State) → IsSound held s → IsSound held (rule.on_open s).state
sound_opened held s sound = sound_introduces held (record s { sent = 0 }) s.code (sound_reopened held s sound)

pub sound_ticked : (held : Option Held) (s : State) (now : ℕ) → IsSound held s → IsSound held (record s { time = now })
sound_ticked held s now sound = sound_kept held s s.phase now s.wait s.said s.sent sound.order.phase sound.order.sent sound

-- ---- units

gaps_unit : (mark low : ℕ) (units : List OneUnit) (place : ℕ) (unit : OneUnit) → Gaps mark low units → slice_get units place ≡ Some unit → IsUnit unit
gaps_unit mark low [] zero unit g e = absurd cc
gaps_unit mark low [] (suc place) unit g e = absurd cc
gaps_unit mark low (u ∷ units) zero unit g e = let same : u ≡ unit = cc in subst IsUnit same g.2
gaps_unit mark low (u ∷ units) (suc place) unit g e = gaps_unit mark (gap_of mark u.serial + 1) units place unit g.3 e

-- a unit that is kept fits one packet
pub unit_short : (held : Option Held) (s : State) (place : ℕ) (unit : OneUnit) → slice_get s.units place ≡ Some unit → IsSound held s → length unit.body ≤ 1023
unit_short held s place unit there sound = (gaps_unit s.mark 1 s.units place unit sound.order.order.gaps there).short

-- so does the oldest one, if there is one
pub first_short : (held : Option Held) (s : State) → IsSound held s → IfSome (slice_get s.units 0) (λ unit. length unit.body ≤ 1023)
first_short held s sound = by (slice_get s.units 0) refl
  where
    by : (unit : Option OneUnit) → slice_get s.units 0 ≡ unit → IfSome unit (λ unit. length unit.body ≤ 1023)
    by None e = tt
    by (Some unit) e = unit_short held s 0 unit e sound

-- ---- answers

sound_changed : (held : Option Held) (s : State) (a : Answer) → HasOctets a.params → IsSound held s → IsSound held (changed_by s a)
sound_changed held s a octets sound = record {
  good = sound.good;
  order = changed_order s a sound.order;
  fixes = sound.fixes;
  params = octets;
  agrees = told_map held (AgreesWhole s) (AgreesWhole (changed_by s a)) (λ h t. (changed_agrees h s a t.0, record { recorded = t.1.recorded; accepted = t.1.accepted })) sound.agrees;
}

-- times and tables are put back
pub sound_put_back : (held : Option Held) (s : State) (timing : Timing) (params : Table) (regions : Regions) → HasOctets params → IsSound held s → IsSound held (record s { timing = timing; params = params; regions = regions })
sound_put_back held s timing params regions octets sound = sound_changed held s (record { timing = timing; params = params; regions = regions; says = None }) octets sound

sound_says : (held : Option Held) (s : State) (says : Option (AnswerKind × List ℕ)) → IsSound held s → IsSound held (rule.says_answer s says).state
sound_says held s None sound = sound
sound_says held s (Some says) sound =
    let packets = rule.answer_packets s says.0 says.1 in
    record {
      good = sound.good;
      order = packets_order s packets sound.order;
      fixes = sound.fixes;
      params = sound.params;
      agrees = told_map held (AgreesWhole s) (AgreesWhole (rule.says_packets s packets).state) (λ h t. (packets_agrees h s packets sound.order t.0, record { recorded = t.1.recorded; accepted = t.1.accepted })) sound.agrees;
    }

says_params : (s : State) (says : Option (AnswerKind × List ℕ)) → (rule.says_answer s says).state.params ≡ s.params
says_params s None = refl
says_params s (Some says) = refl

-- the terminal answered so
pub sound_answers : (held : Option Held) (s now : State) (a : Answer) → now ≡ (rule.answers s a).state → HasOctets now.params → IsSound held s → IsSound held now
sound_answers held s now a is octets sound =
    let same : now.params ≡ a.params = ap (λ (t : State). t.params) is ∙ says_params (changed_by s a) a.says in
    subst (λ (t : State). IsSound held t) (sym is) (sound_says held (changed_by s a) a.says (sound_changed held s a (subst HasOctets same octets) sound))

-- nothing of an answer was done, or its times and tables were taken
pub sound_tables : (held : Option Held) (s now : State) (a : Answer) → AllOrNothing s a now → HasOctets now.params → IsSound held s → IsSound held now
sound_tables held s now a (inl is) octets sound = subst (λ (t : State). IsSound held t) (sym is) sound
sound_tables held s now a (inr is) octets sound =
    subst (λ (t : State). IsSound held t) (sym is) (sound_changed held s a (subst HasOctets (ap (λ (t : State). t.params) is) octets) sound)

-- the same of an answer that leaves the parameters
pub sound_answers_only : (held : Option Held) (s now : State) (a : Answer) → now ≡ (rule.answers s a).state → a.params ≡ s.params → IsSound held s → IsSound held now
sound_answers_only held s now a is same sound =
    let params : now.params ≡ s.params = ap (λ (t : State). t.params) is ∙ (says_params (changed_by s a) a.says ∙ same) in
    sound_answers held s now a is (subst HasOctets (sym params) sound.params) sound

says_settings : (s : State) (says : Option (AnswerKind × List ℕ)) → (rule.says_answer s says).state.settings ≡ s.settings
says_settings s None = refl
says_settings s (Some says) = refl

-- an answer leaves the settings
pub answers_settings : (s now : State) (a : Answer) → now ≡ (rule.answers s a).state → now.settings ≡ s.settings
answers_settings s now a is = ap (λ (t : State). t.settings) is ∙ says_settings (changed_by s a) a.says

pub lack_params : (s : State) (edition : Edition) (first : ℕ) (numbers : List ℕ) → (answer_to_lack s edition first numbers).params ≡ s.params
lack_params s E2013 first numbers = refl
lack_params s E2019 first numbers = refl
