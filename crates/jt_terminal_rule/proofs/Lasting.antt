-- A line is given up for want of an answer only once all waits have passed.
use Rattle.std.proofs.Common.{ℕ, zero, suc, ◌≡◌, ◌≤◌, ◌+◌, ◌-◌, List, [], ◌∷◌, ◌++◌, drop, slice_get, Option, Some, None, Bool, true, false, cond, refl, ap, sym, ◌∙◌, subst, arith}
use Rattle.std.specs.Prelude.{nat_lt, nat_le, ◌==◌, ◌&&◌}
use Rattle.std.proofs.lemmas.Bool.{leb-true, leb-false}
use Rattle.jt_value.specs.Serials.{gap_of, serial_of}
use Rattle.jt_header.specs.declared.header.Header.{Header}
use Rattle.jt_register.specs.declared.reply.RegisterReply.{RegisterReply}
use Rattle.jt_codec.specs.declared.message.Message.{Message}
use Rattle.jt_codec.specs.declared.message.Message.TheVariants as message
use Rattle.jt_codec.specs.Bodies.{body_octets}
use Rattle.jt_store.specs.declared.unit.Unit.{Unit as OneUnit}
use Rattle.jt_store.specs.Vaults.{Forms}
use Rattle.jt_terminal_rule.specs.declared.state.State.{State}
use Rattle.jt_terminal_rule.specs.declared.state.Wait.{Wait}
use Rattle.jt_terminal_rule.specs.declared.state.Acknowledgement.{Acknowledgement}
use Rattle.jt_terminal_rule.specs.declared.state.Event.{Event}
use Rattle.jt_terminal_rule.specs.declared.state.Event.TheVariants as event
use Rattle.jt_terminal_rule.specs.declared.state.GiveUp.{GiveUp}
use Rattle.jt_terminal_rule.specs.declared.state.GiveUp.TheVariants.{Denied, TimedOut}
use Rattle.jt_terminal_rule.specs.declared.state.Phase.{Phase}
use Rattle.jt_terminal_rule.specs.declared.state.Phase.TheVariants.{Down, Registering, Authenticating, Live}
use Rattle.jt_terminal_rule.specs.Messages.{is_acceptance}
use Rattle.jt_terminal_rule.specs.Forming.{unit_of}
use Rattle.jt_terminal_rule.specs.Rule.{Ruled, Heard, Whole, Refused, Lacks, TooMany, accept_oldest, and_then, on_unit_response, answers, answer_if_live, on_auth_response, say_heartbeat, heartbeat_if_silent, on_beat, first_wait, store_code, down, fill, fill_window, forget_code, form_unit, gives_up, watch_and_fill, has_passed, on_hearing, introduce, is_registered, is_silent, is_waiting, names, send_next, with_fix, one_sent, on_open, or_stays, on_message, on_register_reply, repeat_sending, take_reply, on_response, rule, send_unit, start_state, stays, on_tick, wait_behind, window}
use Rattle.jt_terminal_rule.specs.Rule as rule
use Rattle.jt_terminal_rule.specs.Waits.{IsLate, IsTimed, PassesAllWaits, sum_of_waits}
use Rattle.jt_terminal_rule.specs.Answers.{Answer, answer_to, answer_to_refused, answer_to_lack}
use Rattle.jt_terminal_rule.proofs.Answering.{answers_phase, answers_sent, answers_wait}
use Rattle.jt_terminal_rule.proofs.Speaking.{at}

-- ---- waits

-- the first sending
timed_first : (s : State) → s.wait.last ≡ s.wait.since → s.wait.sendings ≡ 1 → IsTimed s
timed_first s last one =
    let none : sum_of_waits s.wait.first (s.wait.sendings - 1) ≡ 0 = ap (λ (n : ℕ). sum_of_waits s.wait.first (n - 1)) one in
    record { some = λ _. omega (arith, one); passed = λ _. omega (arith, last, none) }

-- the same wait, where an answer was waited for before
timed_like : (s t : State) → t.wait ≡ s.wait → (is_waiting t.phase t.sent ≡ true → is_waiting s.phase s.sent ≡ true) → IsTimed s → IsTimed t
timed_like s t same was timed = record {
  some = λ w. subst (λ (x : Wait). 1 ≤ x.sendings) (sym same) (timed.some (was w));
  passed = λ w. subst (λ (x : Wait). x.since + sum_of_waits x.first (x.sendings - 1) ≤ x.last) (sym same) (timed.passed (was w));
}

timed_down : (s : State) → IsTimed (down s)
timed_down s = record { some = λ w. absurd cc; passed = λ w. absurd cc }

-- ---- the window

positive : (n : ℕ) → (n == 0) ≡ false → nat_lt 0 n ≡ true
positive n e = grind arith

timed_sent : (s : State) (serial : ℕ) → s.phase ≡ Live serial → IsTimed s → IsTimed (one_sent s)
timed_sent s serial live timed = by (s.sent == 0) refl
  where
    by : (b : Bool) → (s.sent == 0) ≡ b → IsTimed (record s { sent = s.sent + 1; wait = cond b (first_wait s) s.wait; said = s.time })
    by true e = timed_first (record s { sent = s.sent + 1; wait = first_wait s; said = s.time }) refl refl
    by false e = timed_like s (record s { sent = s.sent + 1; said = s.time }) refl (λ _. ap (λ (p : Phase). is_waiting p s.sent) live ∙ positive s.sent e) timed

abbrev TimedOn : ℕ → Option Ruled → Type 0
TimedOn serial None = Unit {0}
TimedOn serial (Some r) = IsTimed r.state × (r.state.phase ≡ Live serial)

timed_formed : (s : State) (serial : ℕ) → s.phase ≡ Live serial → IsTimed s → (fix : List ℕ) (more : List (List ℕ)) (b : Bool)
    → TimedOn serial (cond b (let unit = unit_of s.next fix (fix ∷ more) in Some (record {
      state = one_sent (record s { units = s.units ++ unit ∷ []; waiting = drop unit.count (fix ∷ more); next = serial_of (s.next + 1) });
      steps = rule.Changes (Forms unit) ∷ rule.Sends s.sent unit ∷ [];
      end = None;
    })) None)
timed_formed s serial live timed fix more false = tt
timed_formed s serial live timed fix more true =
    let unit = unit_of s.next fix (fix ∷ more) in
    let t = record s { units = s.units ++ unit ∷ []; waiting = drop unit.count (fix ∷ more); next = serial_of (s.next + 1) } in
    (timed_sent t serial live (timed_like s t refl (λ w. w) timed), live)

timed_forms : (s : State) (serial : ℕ) → s.phase ≡ Live serial → IsTimed s → (fixes : List (List ℕ)) → TimedOn serial (form_unit s fixes)
timed_forms s serial live timed [] = tt
timed_forms s serial live timed (fix ∷ more) = timed_formed s serial live timed fix more (nat_lt (gap_of s.mark s.next) 32767)

timed_sends : (s : State) (serial : ℕ) → s.phase ≡ Live serial → IsTimed s → (unit : Option OneUnit) → TimedOn serial (send_unit s unit)
timed_sends s serial live timed None = timed_forms s serial live timed s.waiting
timed_sends s serial live timed (Some unit) = (timed_sent s serial live timed, live)

timed_next : (s : State) (serial : ℕ) → s.phase ≡ Live serial → IsTimed s → TimedOn serial (send_next s)
timed_next s serial live timed = by (nat_lt s.sent window)
  where
    by : (b : Bool) → TimedOn serial (cond b (send_unit s (slice_get s.units s.sent)) None)
    by true = timed_sends s serial live timed (slice_get s.units s.sent)
    by false = tt

timed_fill : (n : ℕ) (s : State) (serial : ℕ) → s.phase ≡ Live serial → IsTimed s → IsTimed (fill n s).state
timed_fill zero s serial live timed = timed
timed_fill (suc n) s serial live timed = by (send_next s) (timed_next s serial live timed) (λ t on is. timed_fill n t serial on is)
  where
    by : (r : Option Ruled) → TimedOn serial r → ((t : State) → t.phase ≡ Live serial → IsTimed t → IsTimed (fill n t).state) → IsTimed (or_stays s r (fill n)).state
    by None one rest = timed
    by (Some r) one rest = rest r.state one.1 one.0

timed_fills : (s : State) (serial : ℕ) → s.phase ≡ Live serial → IsTimed s → IsTimed (fill_window s).state
timed_fills s serial live timed = timed_fill window s serial live timed

-- ---- messages of the platform

module _ (s : State) where
  timed_coded : (code : List ℕ) → IsTimed (store_code s code).state
  timed_coded code = timed_first (store_code s code).state refl refl

  timed_replied : (reply : RegisterReply) (octets : List ℕ) → IsTimed (take_reply s reply octets).state
  timed_replied reply octets = by (is_registered reply)
    where
      by : (b : Bool) → IsTimed (cond b (store_code s reply.code) (gives_up s [] (Denied octets))).state
      by true = timed_coded reply.code
      by false = timed_down s

  timed_registered : (p : Phase) (reply : RegisterReply) (octets : List ℕ) → IsTimed (at s p) → IsTimed (on_register_reply p (at s p) reply octets).state
  timed_registered Down reply octets timed = timed
  timed_registered (Authenticating serial) reply octets timed = timed
  timed_registered (Live serial) reply octets timed = timed_fills (at s (Live serial)) serial refl timed
  timed_registered (Registering serial) reply octets timed = by (reply.reply == serial)
    where
      by : (b : Bool) → IsTimed (cond b (take_reply (at s (Registering serial)) reply octets) (stays (at s (Registering serial)))).state
      by true = timed_by_reply
        where
          timed_by_reply : IsTimed (take_reply (at s (Registering serial)) reply octets).state
          timed_by_reply = timed_reply (is_registered reply)
            where
              timed_reply : (b : Bool) → IsTimed (cond b (store_code (at s (Registering serial)) reply.code) (gives_up (at s (Registering serial)) [] (Denied octets))).state
              timed_reply true = timed_first (store_code (at s (Registering serial)) reply.code).state refl refl
              timed_reply false = timed_down (at s (Registering serial))
      by false = timed

  timed_authenticated : (serial result : ℕ) (octets : List ℕ) → IsTimed (at s (Authenticating serial)) → IsTimed (on_auth_response (at s (Authenticating serial)) serial result octets).state
  timed_authenticated serial result octets timed = by (result == 0)
    where
      by : (b : Bool) → IsTimed (cond b (fill_window (at s (Live serial))) (forget_code (at s (Authenticating serial)) octets)).state
      by true = timed_fills (at s (Live serial)) serial refl (timed_like (at s (Authenticating serial)) (at s (Live serial)) refl (λ _. refl) timed)
      by false = timed_down (record (at s (Authenticating serial)) { code = None })

  timed_answered : (serial : ℕ) (units : List OneUnit) (ack : Acknowledgement) (octets : List ℕ) → IsTimed (at s (Live serial)) → IsTimed (on_unit_response (at s (Live serial)) units ack octets).state
  timed_answered serial [] ack octets timed = timed_fills (at s (Live serial)) serial refl timed
  timed_answered serial (u ∷ more) ack octets timed = by (nat_lt 0 s.sent && names ack u)
    where
      accepts_or_not : (b : Bool) → IsTimed (cond b (accept_oldest (at s (Live serial)) u more) (gives_up (at s (Live serial)) [] (Denied octets))).state
      accepts_or_not true = timed_fills (rule.after_acceptance (at s (Live serial)) u more) serial refl (timed_first (rule.after_acceptance (at s (Live serial)) u more) refl refl)
      accepts_or_not false = timed_down (at s (Live serial))

      by : (b : Bool) → IsTimed (cond b (cond (is_acceptance ack) (accept_oldest (at s (Live serial)) u more) (gives_up (at s (Live serial)) [] (Denied octets))) (fill_window (at s (Live serial)))).state
      by true = accepts_or_not (is_acceptance ack)
      by false = timed_fills (at s (Live serial)) serial refl timed

  timed_responded : (p : Phase) (ack : Acknowledgement) (octets : List ℕ) → IsTimed (at s p) → IsTimed (on_response p (at s p) ack octets).state
  timed_responded Down ack octets timed = timed
  timed_responded (Registering serial) ack octets timed = timed
  timed_responded (Authenticating serial) ack octets timed = by ((ack.id == 0x0102) && (ack.reply == serial))
    where
      by : (b : Bool) → IsTimed (cond b (on_auth_response (at s (Authenticating serial)) serial ack.result octets) (stays (at s (Authenticating serial)))).state
      by true = timed_authenticated serial ack.result octets timed
      by false = timed
  timed_responded (Live serial) ack octets timed = timed_answered serial s.units ack octets timed

  timed_answers : (a : Answer) (p : Phase) → IsTimed (at s p) → IsTimed (answer_if_live p (at s p) a).state
  timed_answers a Down timed = timed
  timed_answers a (Registering serial) timed = timed
  timed_answers a (Authenticating serial) timed = timed
  timed_answers a (Live serial) timed =
      let t = (answers (at s (Live serial)) a).state in
      let live = answers_phase (at s (Live serial)) a in
      let same : is_waiting t.phase t.sent ≡ is_waiting (Live serial) s.sent = ap (λ (p : Phase). is_waiting p t.sent) live ∙ ap (is_waiting (Live serial)) (answers_sent (at s (Live serial)) a) in
      timed_fills t serial live (timed_like (at s (Live serial)) t (answers_wait (at s (Live serial)) a) (λ w. sym same ∙ w) timed)

-- the rule at a message, whatever it is
timed_received : (s : State) (h : Header) (m : Message) → IsTimed s → IsTimed (on_message s h m).state
timed_received s h (message.PlatformAck reply id result) timed = timed_responded s s.phase (record { reply = reply; id = id; result = result }) (body_octets h.edition (message.PlatformAck reply id result)) timed
timed_received s h (message.RegisterReply reply) timed = timed_registered s s.phase reply (body_octets h.edition (message.RegisterReply reply)) timed
timed_received s h m timed = timed_answers s (answer_to s h m) s.phase timed

-- what is heard on the line, whatever it is
timed_heard : (s : State) (x : Heard) → IsTimed s → IsTimed (on_hearing s x).state
timed_heard s (Whole h m) timed = timed_received s h m timed
timed_heard s (Refused h) timed = timed_answers s (answer_to_refused s h) s.phase timed
timed_heard s (Lacks h first numbers) timed = timed_answers s (answer_to_lack s s.settings.phone.edition first numbers) s.phase timed
timed_heard s (TooMany h) timed = timed_answers s (answer_to_refused s h) s.phase timed

-- ---- heartbeats and moments

timed_beats : (s : State) → IsTimed s → IsTimed (say_heartbeat s).state
timed_beats s timed = timed_like s (say_heartbeat s).state refl (λ w. w) timed

timed_goes_on : (s : State) (p : Phase) → IsTimed (at s p) → IsTimed (watch_and_fill p (at s p)).state
timed_goes_on s Down timed = timed
timed_goes_on s (Registering serial) timed = timed
timed_goes_on s (Authenticating serial) timed = timed
timed_goes_on s (Live serial) timed = by (is_silent (at s (Live serial)))
  where
    by : (b : Bool) → IsTimed (and_then (cond b (say_heartbeat (at s (Live serial))) (stays (at s (Live serial)))) fill_window).state
    by true = timed_fills (say_heartbeat (at s (Live serial))).state serial refl (timed_beats (at s (Live serial)) timed)
    by false = timed_fills (at s (Live serial)) serial refl timed

timed_beaten : (s : State) (p : Phase) → IsTimed (at s p) → IsTimed (on_beat p (at s p)).state
timed_beaten s Down timed = timed
timed_beaten s (Registering serial) timed = timed
timed_beaten s (Authenticating serial) timed = timed
timed_beaten s (Live serial) timed = timed_fills (say_heartbeat (at s (Live serial))).state serial refl (timed_beats (at s (Live serial)) timed)

and_left : (a b : Bool) → (a && b) ≡ true → a ≡ true
and_left true b e = refl
and_left false b e = absurd cc

pub and_right : (a b : Bool) → (a && b) ≡ true → b ≡ true
and_right true b e = e
and_right false b e = absurd cc

-- the waits so far, and the one that has passed
one_more_wait : (first n : ℕ) → 1 ≤ n → sum_of_waits first n ≡ sum_of_waits first (n - 1) + wait_behind first n
one_more_wait first zero le = absurd (omega (arith, le))
one_more_wait first (suc n) le = let same : n ≡ suc n - 1 = omega arith in ap (λ (k : ℕ). sum_of_waits first k + wait_behind first (suc n)) same

-- all waits have passed where the last one has
all_passed : (s : State) → IsTimed s → has_passed s ≡ true → (1 ≤ s.wait.sendings) × (s.wait.since + sum_of_waits s.wait.first s.wait.sendings ≤ s.time)
all_passed s timed e =
    let waits = and_left (is_waiting s.phase s.sent) (nat_le (s.wait.last + wait_behind s.wait.first s.wait.sendings) s.time) e in
    let over = leb-true (s.wait.last + wait_behind s.wait.first s.wait.sendings) s.time (and_right (is_waiting s.phase s.sent) (nat_le (s.wait.last + wait_behind s.wait.first s.wait.sendings) s.time) e) in
    let some = timed.some waits in
    let sum = one_more_wait s.wait.first s.wait.sendings some in
    let so_far = timed.passed waits in
    (some, omega (arith, over, sum, so_far))

timed_repeats : (s : State) → IsTimed s → has_passed s ≡ true → IsTimed (repeat_sending s).state
timed_repeats s timed e =
    let all = all_passed s timed e in
    let before : (s.wait.sendings + 1) - 1 ≡ s.wait.sendings = omega arith in
    let sum = ap (sum_of_waits s.wait.first) before in
    let late = all.1 in
    record { some = λ _. omega arith; passed = λ _. omega (arith, sum, late) }

timed_ticked : (s : State) → IsTimed s → IsTimed (on_tick s).state
timed_ticked s timed = by (has_passed s) refl
  where
    again : (c : Bool) → has_passed s ≡ true → IsTimed (cond c (and_then (repeat_sending s) (watch_and_fill s.phase)) (gives_up s [] (TimedOut s.wait.since s.time))).state
    again true e = timed_goes_on (repeat_sending s).state s.phase (timed_repeats s timed e)
    again false e = timed_down s

    by : (b : Bool) → has_passed s ≡ b → IsTimed (cond b (cond (nat_le s.wait.sendings s.wait.repeats) (and_then (repeat_sending s) (watch_and_fill s.phase)) (gives_up s [] (TimedOut s.wait.since s.time))) (watch_and_fill s.phase s)).state
    by true e = again (nat_le s.wait.sendings s.wait.repeats) e
    by false e = timed_goes_on s s.phase timed

timed_introduces : (s : State) (code : Option (List ℕ)) → IsTimed (introduce s code).state
timed_introduces s None = timed_first (introduce s None).state refl refl
timed_introduces s (Some code) = timed_first (introduce s (Some code)).state refl refl

timed_rule : (s : State) (e : Event) → IsTimed s → IsTimed (rule s e).state
timed_rule s event.Opened timed = timed_introduces (record s { sent = 0 }) s.code
timed_rule s (event.Received h m) timed = timed_received s h m timed
timed_rule s (event.Tick now) timed = timed_ticked (record s { time = now }) (timed_like s (record s { time = now }) refl (λ w. w) timed)
timed_rule s event.Lost timed = timed_down s
timed_rule s event.Beat timed = timed_beaten s s.phase timed

-- ---- the line is given up

fill_endless : (n : ℕ) (s : State) → (fill n s).end ≡ None
fill_endless zero s = refl
fill_endless (suc n) s = by (send_next s) (λ t. fill_endless n t)
  where
    by : (r : Option Ruled) → ((t : State) → (fill n t).end ≡ None) → (or_stays s r (fill n)).end ≡ None
    by None rest = refl
    by (Some r) rest = rest r.state

goes_on_endless : (s : State) (p : Phase) → (watch_and_fill p s).end ≡ None
goes_on_endless s Down = refl
goes_on_endless s (Registering serial) = refl
goes_on_endless s (Authenticating serial) = refl
goes_on_endless s (Live serial) = fill_endless window (heartbeat_if_silent s).state

none_or_some : (cause : GiveUp) → Some cause ≡ None → ⊥
none_or_some cause e = cc

timed_late : (s : State) (now since at : ℕ) → IsTimed s → (rule s (event.Tick now)).end ≡ Some (TimedOut since at) → IsLate s now since at
timed_late s now since at timed e = by (has_passed (record s { time = now })) refl e
  where
    over : (c : Bool) → nat_le s.wait.sendings s.wait.repeats ≡ c → has_passed (record s { time = now }) ≡ true
        → (cond c (and_then (repeat_sending (record s { time = now })) (watch_and_fill s.phase)) (gives_up (record s { time = now }) [] (TimedOut s.wait.since now))).end ≡ Some (TimedOut since at) → IsLate s now since at
    over true is passed e = absurd (none_or_some (TimedOut since at) (sym e ∙ goes_on_endless (repeat_sending (record s { time = now })).state s.phase))
    over false is passed e =
        let first : s.wait.since ≡ since = cc in
        let moment : now ≡ at = cc in
        let more = leb-false s.wait.sendings s.wait.repeats is in
        let all = all_passed (record s { time = now }) (timed_like s (record s { time = now }) refl (λ w. w) timed) passed in
        let late = all.1 in
        (sym moment, sym first, omega (arith, more), omega (arith, late, first))

    by : (b : Bool) → has_passed (record s { time = now }) ≡ b
        → (cond b (cond (nat_le s.wait.sendings s.wait.repeats) (and_then (repeat_sending (record s { time = now })) (watch_and_fill s.phase)) (gives_up (record s { time = now }) [] (TimedOut s.wait.since now))) (watch_and_fill s.phase (record s { time = now }))).end ≡ Some (TimedOut since at)
        → IsLate s now since at
    by true passed e = over (nat_le s.wait.sendings s.wait.repeats) refl passed e
    by false passed e = absurd (none_or_some (TimedOut since at) (sym e ∙ goes_on_endless (record s { time = now }) s.phase))

pub passes_all_waits : PassesAllWaits
passes_all_waits = record {
  first = λ settings loaded. record { some = λ w. absurd cc; passed = λ w. absurd cc };
  noted = λ s fix timed. timed_like s (with_fix s fix) refl (λ w. w) timed;
  lost = timed_down;
  kept = timed_rule;
  heard = timed_heard;
  late = timed_late;
}
