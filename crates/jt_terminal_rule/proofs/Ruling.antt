-- The rule at each event is steps of the machine.
use Rattle.std.proofs.Common.{ℕ, ◌≡◌, ◌<◌, ◌+◌, List, [], ◌∷◌, ◌++◌, length, Some, None, Bool, true, false, cond, slice_get, refl, ap, ◌∙◌, arith}
use Rattle.std.specs.Prelude.{nat_lt, nat_le, not, ◌==◌, ◌&&◌, ◌||◌, max}
use Rattle.std.specs.Option.{unwrap_or}
use Rattle.std.proofs.lemmas.Bool.{ltb-true, leb-true, eq-eqb}
use Rattle.std.proofs.lemmas.List.{length-drop}
use Rattle.jt_header.specs.declared.header.Header.{Header}
use Rattle.jt_register.specs.declared.reply.RegisterReply.{RegisterReply}
use Rattle.jt_codec.specs.declared.message.Message.{Message}
use Rattle.jt_codec.specs.declared.message.Message.TheVariants as message
use Rattle.jt_codec.specs.Bodies.{body_octets}
use Rattle.jt_store.specs.declared.unit.Unit.{Unit as OneUnit}
use Rattle.jt_store.specs.Vaults.{Held, Sets, held_by}
use Rattle.jt_terminal_rule.specs.declared.state.GiveUp.TheVariants.{Denied, TimedOut}
use Rattle.jt_terminal_rule.specs.declared.state.Phase.{Phase}
use Rattle.jt_terminal_rule.specs.declared.state.Phase.TheVariants.{Down, Registering, Authenticating, Live}
use Rattle.jt_terminal_rule.specs.declared.state.Acknowledgement.{Acknowledgement}
use Rattle.jt_terminal_rule.specs.Messages.{AreSettings, header_of, is_acceptance}
use Rattle.jt_terminal_rule.specs.Steps.{Machine, hears, lets_in, auths_by}
use Rattle.jt_terminal_rule.specs.declared.state.State.{State}
use Rattle.jt_terminal_rule.specs.Rule.{Ruled, fill_window, window, answers, answer_if_live, Whole, Refused, Lacks, TooMany, on_response, on_unit_response, on_auth_response, on_register_reply, take_reply, on_message, response_in, names, say_heartbeat, is_silent, on_beat, repeat_sending, oldest_again, watch_and_fill, has_passed, repeat_wait, gives_up, accept_oldest, and_then}
use Rattle.jt_terminal_rule.specs.Rule as rule
use Rattle.jt_terminal_rule.specs.declared.state.Event.TheVariants as event
use Rattle.jt_terminal_rule.specs.Machines.{machine_of, held_after, IsPhase, IsInOrder, Agrees}
use Rattle.jt_terminal_rule.specs.Answers.{Answer, answer_to, answer_to_refused, answer_to_lack}
use Rattle.jt_terminal_rule.specs.Law.{AreSteps, HeardTakesSteps, RuleTakesSteps, UnitCarriesFirstFixes}
use Rattle.jt_terminal_rule.proofs.Answering.{answers_phase, answers_steps}
use Rattle.jt_terminal_rule.proofs.Numbering.{length-numbered}
use Rattle.jt_terminal_rule.proofs.Composing.{and_then_steps, stays_steps, behind_any}
use Rattle.jt_terminal_rule.proofs.Filling.{window_steps, acceptance_steps, unit_written}
use Rattle.jt_terminal_rule.proofs.Speaking.{at, keep_order, keep_agrees, opened_steps, authenticates_steps, beat_steps, lost_steps, denied_steps, sets_steps, say_register, say_auth, code_short}
use Rattle.jt_terminal_rule.proofs.Lasting.{and_right}

-- ---- tests

and_left : (a b : Bool) → (a && b) ≡ true → a ≡ true
and_left true b e = refl
and_left false b e = absurd cc

or_false : (b : Bool) → (b || false) ≡ b
or_false true = refl
or_false false = refl

none_in : (a b : Bool) → (a && (b && false)) ≡ false
none_in true true = refl
none_in true false = refl
none_in false b = refl

one_in : (a b c : Bool) → (a && (b && (c || false))) ≡ (a && (b && c))
one_in a b true = refl
one_in a b false = refl

and_false : (a b : Bool) → b ≡ false → (a && b) ≡ false
and_false true b e = e
and_false false b e = refl

and_true : (a b : Bool) → a ≡ true → b ≡ true → (a && b) ≡ true
and_true true b x y = y
and_true false b x y = absurd cc

-- a response that lets nobody in leaves the machine
still : (m : Machine) (ack : Acknowledgement) → lets_in m.auths ack ≡ false → hears m (Some ack) ≡ m
still m ack out = ap (λ (b : Bool). record m { ready = m.ready || b }) out ∙ ap (λ (b : Bool). record m { ready = b }) (or_false m.ready)

module _ (carries : UnitCarriesFirstFixes) (h : Held) (s : State) (good : AreSettings s.settings) where
  in_phase : (p : Phase) → IsPhase p → IsInOrder s → IsInOrder (at s p)
  in_phase p is o = keep_order s p s.time s.wait s.said s.sent is o.sent o

  agrees_in : (p : Phase) → Agrees h s → Agrees h (at s p)
  agrees_in p a = keep_agrees h s p s.time s.wait s.said s.sent a

  -- ---- messages of the platform

  live_fills : (serial : ℕ) → IsInOrder (at s (Live serial)) → Agrees h (at s (Live serial)) → AreSteps (machine_of h (at s (Live serial))) h None (fill_window (at s (Live serial)))
  live_fills serial o a = window_steps carries h (at s (Live serial)) serial refl o a

  -- an answer, and then the window
  live_answers : (a : Answer) (serial : ℕ) → AreSteps (machine_of h (at s (Live serial))) h None (answers (at s (Live serial)) a) → ((answers (at s (Live serial)) a).state.phase ≡ Live serial)
      → AreSteps (machine_of h (at s (Live serial))) h None (and_then (answers (at s (Live serial)) a) fill_window)
  live_answers a serial one live =
      let r = answers (at s (Live serial)) a in
      and_then_steps (machine_of h (at s (Live serial))) h None r fill_window one (window_steps carries (held_after r.steps h) r.state serial live one.in_order one.agrees)

  pub answer_steps : (a : Answer) (p : Phase) → IsInOrder (at s p) → Agrees h (at s p) → AreSteps (machine_of h (at s p)) h None (answer_if_live p (at s p) a)
  answer_steps a Down o g = stays_steps h (at s Down) None o g
  answer_steps a (Registering serial) o g = stays_steps h (at s (Registering serial)) None o g
  answer_steps a (Authenticating serial) o g = stays_steps h (at s (Authenticating serial)) None o g
  answer_steps a (Live serial) o g = live_answers a serial (answers_steps h s serial good a o g) (answers_phase (at s (Live serial)) a)

  module _ (ack : Acknowledgement) (octets : List ℕ) where
    stays_behind : (p : Phase) → lets_in (machine_of h (at s p)).auths ack ≡ false → IsInOrder (at s p) → Agrees h (at s p) → AreSteps (hears (machine_of h (at s p)) (Some ack)) h (Some ack) (rule.stays (at s p))
    stays_behind p out o a = behind_any (machine_of h (at s p)) (hears (machine_of h (at s p)) (Some ack)) h (Some ack) (rule.stays (at s p)) (still (machine_of h (at s p)) ack out) (stays_steps h (at s p) None o a)

    by_result : (serial : ℕ) → IsInOrder (at s (Authenticating serial)) → Agrees h (at s (Authenticating serial)) → ((ack.id == 0x0102) && (ack.reply == serial)) ≡ true → (c : Bool) → (ack.result == 0) ≡ c
        → AreSteps (hears (machine_of h (at s (Authenticating serial))) (Some ack)) h (Some ack) (cond c (fill_window (at s (Live serial))) (gives_up (record (at s (Authenticating serial)) { code = None }) (rule.Changes (Sets None) ∷ []) (Denied octets)))
    by_result serial o a named true e =
        let inside : lets_in (serial ∷ []) ack ≡ true = one_in (ack.result == 0) (ack.id == 0x0102) (ack.reply == serial) ∙ and_true (ack.result == 0) ((ack.id == 0x0102) && (ack.reply == serial)) e named in
        behind_any (machine_of h (at s (Live serial))) (hears (machine_of h (at s (Authenticating serial))) (Some ack)) h (Some ack) (fill_window (at s (Live serial)))
        (ap (λ (b : Bool). record (machine_of h (at s (Live serial))) { ready = b }) inside)
        (live_fills serial (keep_order (at s (Authenticating serial)) (Live serial) s.time s.wait s.said s.sent o.phase o.sent o) (keep_agrees h (at s (Authenticating serial)) (Live serial) s.time s.wait s.said s.sent a))
    by_result serial o a named false e = denied_steps (hears (machine_of h (at s (Authenticating serial))) (Some ack)) h (at s (Authenticating serial)) (Some ack) (Some (Denied octets)) refl o a

    by_serial : (serial : ℕ) → IsInOrder (at s (Authenticating serial)) → Agrees h (at s (Authenticating serial)) → (b : Bool) → ((ack.id == 0x0102) && (ack.reply == serial)) ≡ b
        → AreSteps (hears (machine_of h (at s (Authenticating serial))) (Some ack)) h (Some ack) (cond b (on_auth_response (at s (Authenticating serial)) serial ack.result octets) (rule.stays (at s (Authenticating serial))))
    by_serial serial o a true e = by_result serial o a e (ack.result == 0) refl
    by_serial serial o a false e = stays_behind (Authenticating serial) (one_in (ack.result == 0) (ack.id == 0x0102) (ack.reply == serial) ∙ and_false (ack.result == 0) ((ack.id == 0x0102) && (ack.reply == serial)) e) o a

    live_behind : (serial : ℕ) (r : Ruled) → AreSteps (machine_of h (at s (Live serial))) h None r → AreSteps (hears (machine_of h (at s (Live serial))) (Some ack)) h (Some ack) r
    live_behind serial r one = behind_any (machine_of h (at s (Live serial))) (hears (machine_of h (at s (Live serial))) (Some ack)) h (Some ack) r refl one

    by_acceptance : (serial : ℕ) → IsInOrder (at s (Live serial)) → Agrees h (at s (Live serial)) → (u : OneUnit) (more : List OneUnit) → s.units ≡ u ∷ more → (nat_lt 0 s.sent && names ack u) ≡ true → (c : Bool) → is_acceptance ack ≡ c
        → AreSteps (hears (machine_of h (at s (Live serial))) (Some ack)) h (Some ack) (cond c (accept_oldest (at s (Live serial)) u more) (gives_up (at s (Live serial)) [] (Denied octets)))
    by_acceptance serial o a u more is named true e = acceptance_steps carries h (at s (Live serial)) serial u more ack refl o a is (ltb-true 0 s.sent (and_left (nat_lt 0 s.sent) (names ack u) named)) (and_right (nat_lt 0 s.sent) (names ack u) named) e
    by_acceptance serial o a u more is named false e = lost_steps (hears (machine_of h (at s (Live serial))) (Some ack)) h (at s (Live serial)) (Some ack) (Some (Denied octets)) refl o a

    by_name : (serial : ℕ) → IsInOrder (at s (Live serial)) → Agrees h (at s (Live serial)) → (u : OneUnit) (more : List OneUnit) → s.units ≡ u ∷ more → (b : Bool) → (nat_lt 0 s.sent && names ack u) ≡ b
        → AreSteps (hears (machine_of h (at s (Live serial))) (Some ack)) h (Some ack)
        (cond b (cond (is_acceptance ack) (accept_oldest (at s (Live serial)) u more) (gives_up (at s (Live serial)) [] (Denied octets))) (fill_window (at s (Live serial))))
    by_name serial o a u more is true e = by_acceptance serial o a u more is e (is_acceptance ack) refl
    by_name serial o a u more is false e = live_behind serial (fill_window (at s (Live serial))) (live_fills serial o a)

    by_units : (serial : ℕ) → IsInOrder (at s (Live serial)) → Agrees h (at s (Live serial)) → (units : List OneUnit) → s.units ≡ units
        → AreSteps (hears (machine_of h (at s (Live serial))) (Some ack)) h (Some ack) (on_unit_response (at s (Live serial)) units ack octets)
    by_units serial o a [] is = live_behind serial (fill_window (at s (Live serial))) (live_fills serial o a)
    by_units serial o a (u ∷ more) is = by_name serial o a u more is (nat_lt 0 s.sent && names ack u) refl

    pub response_steps : (p : Phase) → IsInOrder (at s p) → Agrees h (at s p) → AreSteps (hears (machine_of h (at s p)) (Some ack)) h (Some ack) (on_response p (at s p) ack octets)
    response_steps Down o a = stays_behind Down (none_in (ack.result == 0) (ack.id == 0x0102)) o a
    response_steps (Registering serial) o a = stays_behind (Registering serial) (none_in (ack.result == 0) (ack.id == 0x0102)) o a
    response_steps (Authenticating serial) o a = by_serial serial o a ((ack.id == 0x0102) && (ack.reply == serial)) refl
    response_steps (Live serial) o a = by_units serial o a s.units refl

  module _ (reply : RegisterReply) (octets : List ℕ) where
    by_code : (serial : ℕ) → IsInOrder (at s (Registering serial)) → Agrees h (at s (Registering serial)) → (b : Bool) → ((reply.result == 0) && nat_le (length reply.code) 255) ≡ b
        → AreSteps (machine_of h (at s (Registering serial))) h None
        (cond b (and_then (record { state = record (at s (Registering serial)) { code = Some reply.code }; steps = rule.Changes (Sets (Some reply.code)) ∷ []; end = None }) (λ t. rule.authenticates t reply.code))
        (gives_up (at s (Registering serial)) [] (Denied octets)))
    by_code serial o a true e =
        let le = leb-true (length reply.code) 255 (and_right (reply.result == 0) (nat_le (length reply.code) 255) e) in
        let one = sets_steps h (at s (Registering serial)) reply.code o a le in
        and_then_steps (machine_of h (at s (Registering serial))) h None (record { state = record (at s (Registering serial)) { code = Some reply.code }; steps = rule.Changes (Sets (Some reply.code)) ∷ []; end = None }) (λ t. rule.authenticates t reply.code) one
        (authenticates_steps (held_by (Sets (Some reply.code)) h) (record s { code = Some reply.code }) serial reply.code good one.in_order one.agrees le)
    by_code serial o a false e = lost_steps (machine_of h (at s (Registering serial))) h (at s (Registering serial)) None (Some (Denied octets)) refl o a

    by_reply : (serial : ℕ) → IsInOrder (at s (Registering serial)) → Agrees h (at s (Registering serial)) → (b : Bool)
        → AreSteps (machine_of h (at s (Registering serial))) h None (cond b (take_reply (at s (Registering serial)) reply octets) (rule.stays (at s (Registering serial))))
    by_reply serial o a true = by_code serial o a ((reply.result == 0) && nat_le (length reply.code) 255) refl
    by_reply serial o a false = stays_steps h (at s (Registering serial)) None o a

    pub reply_steps : (p : Phase) → IsInOrder (at s p) → Agrees h (at s p) → AreSteps (machine_of h (at s p)) h None (on_register_reply p (at s p) reply octets)
    reply_steps Down o a = stays_steps h (at s Down) None o a
    reply_steps (Registering serial) o a = by_reply serial o a (reply.reply == serial)
    reply_steps (Authenticating serial) o a = stays_steps h (at s (Authenticating serial)) None o a
    reply_steps (Live serial) o a = live_fills serial o a

  -- ---- moments

  silent_steps : (serial : ℕ) → IsInOrder (at s (Live serial)) → Agrees h (at s (Live serial)) → (b : Bool)
      → AreSteps (machine_of h (at s (Live serial))) h None (and_then (cond b (say_heartbeat (at s (Live serial))) (rule.stays (at s (Live serial)))) fill_window)
  silent_steps serial o a true =
      let one = beat_steps h s serial good o a in
      and_then_steps (machine_of h (at s (Live serial))) h None (say_heartbeat (at s (Live serial))) fill_window one (window_steps carries h (say_heartbeat (at s (Live serial))).state serial refl one.in_order one.agrees)
  silent_steps serial o a false = and_then_steps (machine_of h (at s (Live serial))) h None (rule.stays (at s (Live serial))) fill_window (stays_steps h (at s (Live serial)) None o a) (live_fills serial o a)

  pub goes_on_steps : (p : Phase) → IsInOrder (at s p) → Agrees h (at s p) → AreSteps (machine_of h (at s p)) h None (watch_and_fill p (at s p))
  goes_on_steps Down o a = stays_steps h (at s Down) None o a
  goes_on_steps (Registering serial) o a = stays_steps h (at s (Registering serial)) None o a
  goes_on_steps (Authenticating serial) o a = stays_steps h (at s (Authenticating serial)) None o a
  goes_on_steps (Live serial) o a = silent_steps serial o a (is_silent (at s (Live serial)))

  pub beaten_steps : (p : Phase) → IsInOrder (at s p) → Agrees h (at s p) → AreSteps (machine_of h (at s p)) h None (on_beat p (at s p))
  beaten_steps Down o a = stays_steps h (at s Down) None o a
  beaten_steps (Registering serial) o a = stays_steps h (at s (Registering serial)) None o a
  beaten_steps (Authenticating serial) o a = stays_steps h (at s (Authenticating serial)) None o a
  beaten_steps (Live serial) o a = silent_steps serial o a true

  -- what is waited for is sent again
  again_order : (p : Phase) → IsInOrder (at s p) → IsInOrder (repeat_sending (at s p)).state
  again_order p o = keep_order (at s p) p s.time (repeat_wait (at s p)) s.time s.sent o.phase o.sent o

  again_agrees : (p : Phase) → Agrees h (at s p) → Agrees h (repeat_sending (at s p)).state
  again_agrees p a = keep_agrees h (at s p) p s.time (repeat_wait (at s p)) s.time s.sent a

  oldest_steps : (serial : ℕ) → IsInOrder (at s (Live serial)) → Agrees h (at s (Live serial)) → 0 < s.sent → (units : List OneUnit) → s.units ≡ units
      → AreSteps (machine_of h (at s (Live serial))) h None (record { state = (repeat_sending (at s (Live serial))).state; steps = oldest_again units; end = None })
  oldest_steps serial o a some [] is = record { may = tt; to = refl; commits = tt; sent = λ settings own. refl; in_order = again_order (Live serial) o; agrees = again_agrees (Live serial) a }
  oldest_steps serial o a some (u ∷ more) is =
      let within = o.sent in
      let long = ap (λ (us : List OneUnit). length us) a.units ∙ length-drop h.accepted h.units in
      record {
        may = ((refl, refl, omega arith, omega arith, omega (arith, some, within, long, length-numbered None h.units)), tt);
        to = ap (λ (n : ℕ). record (machine_of h (at s (Live serial))) { reach = n }) (reaches some);
        commits = tt;
        sent = λ settings own. ap (λ (octets : List ℕ). octets ∷ []) (unit_written h (at s (Live serial)) u 0 o a (ap (λ (us : List OneUnit). slice_get us 0) is) settings own);
        in_order = again_order (Live serial) o;
        agrees = again_agrees (Live serial) a;
      }
    where
      reaches : 0 < s.sent → max (h.accepted + s.sent) (h.accepted + 0 + 1) ≡ h.accepted + s.sent
      reaches lt = omega (arith, lt)

  auths_same : (serial : ℕ) → auths_by (serial ∷ []) (header_of s.settings.phone 0x0102 serial) ≡ serial ∷ []
  auths_same serial = ap (λ (b : Bool). cond (not (b || false)) ((serial ∷ []) ++ serial ∷ []) (serial ∷ [])) (eq-eqb serial serial refl)

  again_steps : (p : Phase) → IsInOrder (at s p) → Agrees h (at s p) → has_passed (at s p) ≡ true → AreSteps (machine_of h (at s p)) h None (repeat_sending (at s p))
  again_steps Down o a e = absurd cc
  again_steps (Registering serial) o a e = record {
    may = ((refl, say_register (machine_of h (at s (Registering serial))) s.settings serial good refl o.phase), tt);
    to = refl;
    commits = tt;
    sent = λ settings own. refl;
    in_order = again_order (Registering serial) o;
    agrees = again_agrees (Registering serial) a;
  }
  again_steps (Authenticating serial) o a e = record {
    may = ((refl, say_auth (machine_of h (at s (Authenticating serial))) s.settings serial (unwrap_or s.code []) good refl o.phase (code_short s.code o.order.short) refl), tt);
    to = ap (λ (serials : List ℕ). record (machine_of h (at s (Authenticating serial))) { auths = serials }) (auths_same serial);
    commits = tt;
    sent = λ settings own. refl;
    in_order = again_order (Authenticating serial) o;
    agrees = again_agrees (Authenticating serial) a;
  }
  again_steps (Live serial) o a e = oldest_steps serial o a (ltb-true 0 s.sent (and_left (nat_lt 0 s.sent) (nat_le (s.wait.last + rule.wait_behind s.wait.first s.wait.sendings) s.time) e)) s.units refl

pub message_steps : UnitCarriesFirstFixes → (h : Held) (s : State) → AreSettings s.settings → IsInOrder s → Agrees h s → (header : Header) (m : Message) → AreSteps (hears (machine_of h s) (response_in m)) h (response_in m) (on_message s header m)
message_steps carries h s good o a header (message.PlatformAck reply id result) = response_steps carries h s good (record { reply = reply; id = id; result = result }) (body_octets header.edition (message.PlatformAck reply id result)) s.phase o a
message_steps carries h s good o a header (message.RegisterReply reply) = reply_steps carries h s good reply (body_octets header.edition (message.RegisterReply reply)) s.phase o a
message_steps carries h s good o a header m = answer_steps carries h s good (answer_to s header m) s.phase o a

-- what is heard on the line
pub heard_steps : UnitCarriesFirstFixes → HeardTakesSteps
heard_steps carries h s (Whole header m) good o a = message_steps carries h s good o a header m
heard_steps carries h s (Refused header) good o a = answer_steps carries h s good (answer_to_refused s header) s.phase o a
heard_steps carries h s (Lacks header first numbers) good o a = answer_steps carries h s good (answer_to_lack s s.settings.phone.edition first numbers) s.phase o a
heard_steps carries h s (TooMany header) good o a = answer_steps carries h s good (answer_to_refused s header) s.phase o a

repeated_and_on : UnitCarriesFirstFixes → (h : Held) (s : State) → AreSettings s.settings → IsInOrder s → Agrees h s → has_passed s ≡ true → (b : Bool)
    → AreSteps (machine_of h s) h None (cond b (and_then (repeat_sending s) (watch_and_fill s.phase)) (gives_up s [] (TimedOut s.wait.since s.time)))
repeated_and_on carries h s good o a e true =
    let one = again_steps carries h s good s.phase o a e in
    and_then_steps (machine_of h s) h None (repeat_sending s) (watch_and_fill s.phase) one (goes_on_steps carries (held_after (repeat_sending s).steps h) (repeat_sending s).state good s.phase one.in_order one.agrees)
repeated_and_on carries h s good o a e false = lost_steps (machine_of h s) h s None (Some (TimedOut s.wait.since s.time)) refl o a

tick_steps : UnitCarriesFirstFixes → (h : Held) (s : State) → AreSettings s.settings → IsInOrder s → Agrees h s → (b : Bool) → has_passed s ≡ b
    → AreSteps (machine_of h s) h None (cond b (cond (nat_le s.wait.sendings s.wait.repeats) (and_then (repeat_sending s) (watch_and_fill s.phase)) (gives_up s [] (TimedOut s.wait.since s.time))) (watch_and_fill s.phase s))
tick_steps carries h s good o a true e = repeated_and_on carries h s good o a e (nat_le s.wait.sendings s.wait.repeats)
tick_steps carries h s good o a false e = goes_on_steps carries h s good s.phase o a

pub rule_steps : UnitCarriesFirstFixes → RuleTakesSteps
rule_steps carries h s event.Opened good o a = opened_steps h s good o a
rule_steps carries h s (event.Received header m) good o a = message_steps carries h s good o a header m
rule_steps carries h s (event.Tick now) good o a =
    tick_steps carries h (record s { time = now }) good (keep_order s s.phase now s.wait s.said s.sent o.phase o.sent o) (keep_agrees h s s.phase now s.wait s.said s.sent a) (has_passed (record s { time = now })) refl
rule_steps carries h s event.Lost good o a = lost_steps (machine_of h s) h s None None refl o a
rule_steps carries h s event.Beat good o a = beaten_steps carries h s good s.phase o a
