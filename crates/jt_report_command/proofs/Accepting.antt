-- What a terminal does at the acceptance that it waits for, at whatever moment: it goes on, and its window is full.
use Rattle.std.proofs.Common.{◌≡◌, ◌≤◌, ◌<◌, ◌+◌, ℕ, zero, suc, List, [], ◌∷◌, Bool, true, false, Option, Some, None, slice_get, refl, sym, ap, subst, arith}
use Rattle.std.specs.Prelude.{◌==◌, ◌&&◌, nat_lt, if◌then◌else◌}
use Rattle.std.proofs.lemmas.Bool.{eq-eqb, lt-ltb, ltb-true}
use Rattle.jt_value.specs.Serials.{gap_of}
use Rattle.jt_value.specs.declared.ids.TheConstants.{AUTH}
use Rattle.jt_value.specs.declared.limits.TheConstants.{SERIAL_WINDOW}
use Rattle.jt_value.specs.declared.results.TheConstants.{SUCCESS}
use Rattle.jt_header.specs.declared.header.Header.{Header}
use Rattle.jt_register.specs.declared.reply.RegisterReply.{RegisterReply}
use Rattle.jt_codec.specs.Bodies.{body_octets}
use Rattle.jt_codec.specs.declared.message.Message.{Message}
use Rattle.jt_codec.specs.declared.message.Message.TheVariants as message
use Rattle.jt_store.specs.declared.unit.Unit.{Unit as OneUnit}
use Rattle.jt_terminal_rule.specs.Messages.{is_acceptance}
use Rattle.jt_terminal_rule.specs.Rule.{Ruled, accept_oldest, after_acceptance, fill, fill_window, first_wait, form_unit, gives_up, introduce, is_registered, on_auth_response, on_message, on_register_reply, on_response, on_unit_response, one_sent, or_stays, rule, send_next, send_unit, stays, store_code, window}
use Rattle.jt_terminal_rule.specs.declared.state.Acknowledgement.{Acknowledgement}
use Rattle.jt_terminal_rule.specs.declared.state.Event.TheVariants.{Opened}
use Rattle.jt_terminal_rule.specs.declared.state.GiveUp.TheVariants.{Denied}
use Rattle.jt_terminal_rule.specs.declared.state.Phase.{Phase}
use Rattle.jt_terminal_rule.specs.declared.state.Phase.TheVariants.{Down, Registering, Authenticating, Live}
use Rattle.jt_terminal_rule.specs.declared.state.State.{State}
use Rattle.jt_terminal_rule.specs.declared.state.Timing.{Timing}
use Rattle.jt_terminal_rule.specs.declared.state.Wait.{Wait}
use Rattle.jt_report_command.specs.Scripted.{Accepts, AcceptsAll, AcceptsOldest}
use Rattle.jt_report_command.proofs.Timing.{Kept, accepted_kept, coded_kept, live_kept}

-- ---- states that differ in times alone

abbrev pub retimed : State → ℕ → Wait → ℕ → State
retimed s time wait said = record s { time = time; wait = wait; said = said }

abbrev pub Alike : State → State → Type 0
Alike s u = (time : ℕ) × (wait : Wait) × (said : ℕ) × (u ≡ retimed s time wait said)

-- ---- the window

fill_goes_on : (n : ℕ) (s : State) → (fill n s).end ≡ None
fill_goes_on zero s = refl
fill_goes_on (suc n) s = by (send_next s) (λ t. fill_goes_on n t)
  where
    by : (r : Option Ruled) → ((t : State) → (fill n t).end ≡ None) → (or_stays s r (fill n)).end ≡ None
    by None rest = refl
    by (Some r) rest = rest r.state

-- the same is sent at any moment
fill_alike : (n : ℕ) (s : State) (a : ℕ) (b : Wait) (c : ℕ) → Alike (fill n s).state (fill n (retimed s a b c)).state
fill_alike zero s a b c = (a, b, c, refl)
fill_alike (suc n) s a b c = by (nat_lt s.sent window) (slice_get s.units s.sent) (λ s a b c. fill_alike n s a b c)
  where
    Again : Type 0
    Again = (s : State) (a : ℕ) (b : Wait) (c : ℕ) → Alike (fill n s).state (fill n (retimed s a b c)).state

    formed : (x : Bool) (fix : List ℕ) (more : List (List ℕ)) → x ≡ nat_lt (gap_of s.mark s.next) SERIAL_WINDOW → Again
        → Alike (or_stays s (form_unit s (fix ∷ more)) (fill n)).state (or_stays (retimed s a b c) (form_unit (retimed s a b c) (fix ∷ more)) (fill n)).state
    formed true fix more is again = rw (sym is) (again _ a _ a)
    formed false fix more is again = rw (sym is) (a, b, c, refl)

    forming : (waiting : List (List ℕ)) → Again → Alike (or_stays s (form_unit s waiting) (fill n)).state (or_stays (retimed s a b c) (form_unit (retimed s a b c) waiting) (fill n)).state
    forming [] again = (a, b, c, refl)
    forming (fix ∷ more) again = formed (nat_lt (gap_of s.mark s.next) SERIAL_WINDOW) fix more refl again

    by : (x : Bool) (o : Option OneUnit) → Again → Alike (or_stays s (if x then send_unit s o else None) (fill n)).state
        (or_stays (retimed s a b c) (if x then send_unit (retimed s a b c) o else None) (fill n)).state
    by false o again = (a, b, c, refl)
    by true (Some unit) again = again (one_sent s) a _ a
    by true None again = forming s.waiting again

some_sent : (q r : Ruled) → Some q ≡ Some r → q.state.sent ≡ r.state.sent
some_sent q r e = let same : q ≡ r = cc e in ap (λ (x : Ruled). x.state.sent) same

-- one more is sent
sent_one : (s : State) (r : Ruled) → send_next s ≡ Some r → r.state.sent ≡ s.sent + 1
sent_one s r = by (nat_lt s.sent window) (slice_get s.units s.sent)
  where
    formed : (x : Bool) (fix : List ℕ) (more : List (List ℕ)) → x ≡ nat_lt (gap_of s.mark s.next) SERIAL_WINDOW → form_unit s (fix ∷ more) ≡ Some r → r.state.sent ≡ s.sent + 1
    formed true fix more is e = let f = e in let g = rw (sym is) at f in sym (some_sent _ r g)
    formed false fix more is e = let f = e in let g = rw (sym is) at f in absurd (cc g)

    forming : (waiting : List (List ℕ)) → form_unit s waiting ≡ Some r → r.state.sent ≡ s.sent + 1
    forming [] e = absurd (cc e)
    forming (fix ∷ more) e = formed (nat_lt (gap_of s.mark s.next) SERIAL_WINDOW) fix more refl e

    by : (x : Bool) (o : Option OneUnit) → (if x then send_unit s o else None) ≡ Some r → r.state.sent ≡ s.sent + 1
    by false o e = absurd (cc e)
    by true (Some unit) e = sym (some_sent _ r e)
    by true None e = forming s.waiting e

-- a window that was filled is full
no_more : (s : State) → 16 ≤ s.sent → send_next s ≡ None
no_more s many = by (nat_lt s.sent window) (slice_get s.units s.sent) refl
  where
    by : (x : Bool) (o : Option OneUnit) → nat_lt s.sent window ≡ x → (if x then send_unit s o else None) ≡ None
    by false o is = refl
    by true o is = let less = ltb-true s.sent window is in absurd (omega (arith, many, less))

fill_full : (n : ℕ) (s : State) → 16 ≤ s.sent + n → send_next (fill n s).state ≡ None
fill_full zero s many = no_more s (omega (arith, many))
fill_full (suc n) s many = by (send_next s) refl (λ t. fill_full n t)
  where
    by : (o : Option Ruled) → send_next s ≡ o → ((t : State) → 16 ≤ t.sent + n → send_next (fill n t).state ≡ None) → send_next (or_stays s o (fill n)).state ≡ None
    by None is again = is
    by (Some r) is again = let more = sent_one s r is in again r.state (omega (arith, many, more))

-- nothing more is sent at another moment
pub still_full : (s : State) (now : ℕ) → send_next s ≡ None → send_next (record s { time = now }) ≡ None
still_full s now = by (nat_lt s.sent window) (slice_get s.units s.sent)
  where
    formed : (x : Bool) (fix : List ℕ) (more : List (List ℕ)) → x ≡ nat_lt (gap_of s.mark s.next) SERIAL_WINDOW → form_unit s (fix ∷ more) ≡ None
        → form_unit (record s { time = now }) (fix ∷ more) ≡ None
    formed true fix more is e = let f = e in let g = rw (sym is) at f in absurd (cc g)
    formed false fix more is e = rw (sym is) refl

    forming : (waiting : List (List ℕ)) → form_unit s waiting ≡ None → form_unit (record s { time = now }) waiting ≡ None
    forming [] e = refl
    forming (fix ∷ more) e = formed (nat_lt (gap_of s.mark s.next) SERIAL_WINDOW) fix more refl e

    by : (x : Bool) (o : Option OneUnit) → (if x then send_unit s o else None) ≡ None → (if x then send_unit (record s { time = now }) o else None) ≡ None
    by false o e = refl
    by true (Some unit) e = absurd (cc e)
    by true None e = forming s.waiting e

-- ---- an acceptance

-- a terminal that is Live sends nothing more by itself
abbrev pub IsFull : State → Type 0
IsFull s = (serial : ℕ) → s.phase ≡ Live serial → send_next s ≡ None

-- it goes on, full, and waits for no answer a second time; and so it does at any moment
pub record GoesOn (s : State) (r : Ruled) (at : ℕ → Wait → ℕ → Ruled) : Type 0 where
  pub on : r.end ≡ None
  pub full : IsFull r.state
  pub kept : (timing : Timing) (first : ℕ) → Kept timing first s → Kept timing first r.state
  pub alike : (a : ℕ) (b : Wait) (c : ℕ) → Alike r.state (at a b c).state

filled : (old s : State) (at : ℕ → Wait → ℕ → State) → ((a : ℕ) (b : Wait) (c : ℕ) → Alike s (at a b c)) → ((timing : Timing) (first : ℕ) → Kept timing first old → Kept timing first (fill_window s).state)
    → GoesOn old (fill_window s) (λ a b c. fill_window (at a b c))
filled old s at same kept = record {
  on = fill_goes_on window s;
  full = λ serial live. fill_full window s (omega arith);
  kept = kept;
  alike = λ a b c. let u = same a b c in subst (λ (u : State). Alike (fill_window s).state (fill_window u).state) (sym u.3) (fill_alike window s u.0 u.1 u.2);
}

registered : (s : State) (serial : ℕ) (reply : RegisterReply) (octets : List ℕ) → reply.reply ≡ serial → is_registered reply ≡ true
    → GoesOn s (on_register_reply (Registering serial) s reply octets) (λ a b c. on_register_reply (Registering serial) (retimed s a b c) reply octets)
registered s serial reply octets named good = by (reply.reply == serial) (is_registered reply) (eq-eqb reply.reply serial named) good
  where
    by : (x y : Bool) → x ≡ true → y ≡ true → GoesOn s (if x then (if y then store_code s reply.code else gives_up s [] (Denied octets)) else stays s)
        (λ a b c. if x then (if y then store_code (retimed s a b c) reply.code else gives_up (retimed s a b c) [] (Denied octets)) else stays (retimed s a b c))
    by true true p q = record {
      on = refl;
      full = λ serial e. absurd (cc e);
      kept = λ timing first k. coded_kept timing first s reply.code k;
      alike = λ a b c. (a, first_wait (retimed s a b c), a, refl);
    }
    by true false p q = absurd (cc q)
    by false y p q = absurd (cc p)

authenticated : (s : State) (serial : ℕ) (octets : List ℕ) → s.phase ≡ Authenticating serial
    → GoesOn s (on_response (Authenticating serial) s (record { reply = serial; id = AUTH; result = SUCCESS }) octets)
    (λ a b c. on_response (Authenticating serial) (retimed s a b c) (record { reply = serial; id = AUTH; result = SUCCESS }) octets)
authenticated s serial octets is = by (serial == serial) (eq-eqb serial serial refl)
  where
    by : (x : Bool) → x ≡ true → GoesOn s (if x then on_auth_response s serial SUCCESS octets else stays s)
        (λ a b c. if x then on_auth_response (retimed s a b c) serial SUCCESS octets else stays (retimed s a b c))
    by true p = filled s (record s { phase = Live serial }) (λ a b c. record (retimed s a b c) { phase = Live serial }) (λ a b c. (a, b, c, refl)) (λ timing first k. live_kept timing first s serial is k)
    by false p = absurd (cc p)

accepted : (s : State) (serial : ℕ) (unit : OneUnit) (more : List OneUnit) (result : ℕ) (octets : List ℕ) → s.phase ≡ Live serial → 0 < s.sent → is_acceptance (record { reply = unit.serial; id = unit.id; result = result }) ≡ true
    → GoesOn s (on_unit_response s (unit ∷ more) (record { reply = unit.serial; id = unit.id; result = result }) octets)
    (λ a b c. on_unit_response (retimed s a b c) (unit ∷ more) (record { reply = unit.serial; id = unit.id; result = result }) octets)
accepted s serial unit more result octets live some good =
    by (nat_lt 0 s.sent) (unit.serial == unit.serial) (unit.id == unit.id) (is_acceptance (record { reply = unit.serial; id = unit.id; result = result }))
    (lt-ltb 0 s.sent some) (eq-eqb unit.serial unit.serial refl) (eq-eqb unit.id unit.id refl) good
  where
    by : (w x y z : Bool) → w ≡ true → x ≡ true → y ≡ true → z ≡ true
        → GoesOn s (if w && (x && y) then (if z then accept_oldest s unit more else gives_up s [] (Denied octets)) else fill_window s)
        (λ a b c. if w && (x && y) then (if z then accept_oldest (retimed s a b c) unit more else gives_up (retimed s a b c) [] (Denied octets)) else fill_window (retimed s a b c))
    by true true true true p q r t =
        let g = filled s (after_acceptance s unit more) (λ a b c. after_acceptance (retimed s a b c) unit more) (λ a b c. (a, first_wait (retimed s a b c), c, refl)) (λ timing first k. accepted_kept timing first s unit more serial live k) in
        record { on = g.on; full = g.full; kept = g.kept; alike = g.alike }
    by true true true false p q r t = absurd (cc t)
    by true true false z p q r t = absurd (cc r)
    by true false y z p q r t = absurd (cc q)
    by false x y z p q r t = absurd (cc p)

-- the message that is waited for in this phase
goes_at : (p : Phase) (s : State) (h : Header) (m : Message) → s.phase ≡ p → Accepts p s.sent s.units m → GoesOn s (on_message s h m) (λ a b c. on_message (retimed s a b c) h m)
goes_at Down s h m is acc = absurd acc
goes_at (Registering serial) s h m is acc =
    let octets = body_octets h.edition (message.RegisterReply acc.0) in
    subst (λ (m : Message). GoesOn s (on_message s h m) (λ a b c. on_message (retimed s a b c) h m)) (sym acc.1)
    (subst (λ (p : Phase). GoesOn s (on_register_reply p s acc.0 octets) (λ a b c. on_register_reply p (retimed s a b c) acc.0 octets)) (sym is) (registered s serial acc.0 octets acc.2 acc.3))
goes_at (Authenticating serial) s h m is acc =
    let ack : Acknowledgement = record { reply = serial; id = AUTH; result = SUCCESS } in
    let octets = body_octets h.edition (message.PlatformAck serial AUTH SUCCESS) in
    subst (λ (m : Message). GoesOn s (on_message s h m) (λ a b c. on_message (retimed s a b c) h m)) (sym acc)
    (subst (λ (p : Phase). GoesOn s (on_response p s ack octets) (λ a b c. on_response p (retimed s a b c) ack octets)) (sym is) (authenticated s serial octets is))
goes_at (Live serial) s h m is acc = by s.units refl acc
  where
    by : (units : List OneUnit) → s.units ≡ units → AcceptsOldest s.sent units m → GoesOn s (on_message s h m) (λ a b c. on_message (retimed s a b c) h m)
    by [] e acc = absurd acc
    by (unit ∷ more) e acc =
        let ack : Acknowledgement = record { reply = unit.serial; id = unit.id; result = acc.1 } in
        let octets = body_octets h.edition (message.PlatformAck unit.serial unit.id acc.1) in
        subst (λ (m : Message). GoesOn s (on_message s h m) (λ a b c. on_message (retimed s a b c) h m)) (sym acc.2)
        (subst (λ (p : Phase). GoesOn s (on_response p s ack octets) (λ a b c. on_response p (retimed s a b c) ack octets)) (sym is)
        (subst (λ (units : List OneUnit). GoesOn s (on_unit_response s units ack octets) (λ a b c. on_unit_response (retimed s a b c) units ack octets)) (sym e)
        (accepted s serial unit more acc.1 octets is acc.0 acc.3)))

pub goes : (s : State) (h : Header) (m : Message) → Accepts s.phase s.sent s.units m → GoesOn s (on_message s h m) (λ a b c. on_message (retimed s a b c) h m)
goes s h m acc = goes_at s.phase s h m refl acc

-- what accepts all accepts all at any moment
pub accepts_alike : (contents : List (List ℕ)) (s u : State) → Alike s u → AcceptsAll s contents → AcceptsAll u contents
accepts_alike [] s u same acc = subst (λ (u : State). AcceptsAll u []) (sym same.3) acc
accepts_alike (content ∷ contents) s u same acc =
    let g = goes s acc.0 acc.1 acc.3 in
    subst (λ (u : State). AcceptsAll u (content ∷ contents)) (sym same.3) (
      acc.0,
      acc.1,
      acc.2,
      acc.3,
      accepts_alike contents (on_message s acc.0 acc.1).state (on_message (retimed s same.0 same.1 same.2) acc.0 acc.1).state (g.alike same.0 same.1 same.2) acc.4,
    )

-- ---- a line that was just opened

introduces : (s : State) (a : ℕ) (code : Option (List ℕ)) → Alike (introduce s code).state (introduce (record s { time = a }) code).state
introduces s a None = (a, first_wait (record s { time = a }), a, refl)
introduces s a (Some code) = (a, first_wait (record s { time = a }), a, refl)

pub opened_alike : (s : State) (a : ℕ) → Alike (rule s Opened).state (rule (record s { time = a }) Opened).state
opened_alike s a = introduces (record s { sent = 0 }) a s.code

introduces_full : (s : State) (code : Option (List ℕ)) → IsFull (introduce s code).state
introduces_full s None serial e = absurd (cc e)
introduces_full s (Some code) serial e = absurd (cc e)

pub opened_full : (s : State) → IsFull (rule s Opened).state
opened_full s = introduces_full (record s { sent = 0 }) s.code

introduces_on : (s : State) (code : Option (List ℕ)) → (introduce s code).end ≡ None
introduces_on s None = refl
introduces_on s (Some code) = refl

pub opened_on : (s : State) → (rule s Opened).end ≡ None
opened_on s = introduces_on (record s { sent = 0 }) s.code
