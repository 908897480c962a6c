-- A stream has the events and the end that scanning it gives, and no others.
use Rattle.std.proofs.Common.{◌≡◌, ℕ, ◌+◌, ◌<◌, ◌≤◌, eqb, inl, inr, true, false, Option, Some, None, List, [], ◌∷◌, ◌++◌, length, refl, sym, ap, ◌∙◌, append_assoc, arith, length-append, zero-add}
use Rattle.std.proofs.lemmas.Bool.{cases_Bool}
use Rattle.std.proofs.lemmas.List.{append-nil, append_cancel_left}
use Rattle.jt_value.specs.declared.refusal.Refusal.{Refusal}
use Rattle.jt_escape.specs.declared.splitter.Mode.{Mode}
use Rattle.jt_escape.specs.declared.splitter.Mode.TheVariants as modes
use Rattle.jt_escape.specs.Span.{Event, Whole, Refused, Span, Frame, Stray, Empty, BadEscape, TooLong, Unfinished, Escaping, span_octets, IsSpan, stream_of, AreSpans, events_at, events_from, Events, end_at, end_of, Ends}
use Rattle.jt_escape.specs.Scan.{end_of_stream, State, start, after, events_of, events_in, run, scan, end_in}
use Rattle.jt_escape.proofs.Scanning.{last_in, scanned, end_events, all_from, scans}
use Rattle.jt_escape.proofs.Cutting.{cut}

-- a refusal of the end as events
abbrev bads : Option Refusal → List Event
bads None = []
bads (Some refusal) = Refused refusal ∷ []

-- a scan that does not tell its end
quiet : (mode : Mode) (place : ℕ) → last_in false mode place ≡ []
quiet modes.Outside place = refl
quiet modes.Straying place = refl
quiet modes.Inside place = refl
quiet modes.Escaping place = refl
quiet modes.Skipping place = refl

-- the event of the end is its refusal
last_is : (mode : Mode) (place : ℕ) → last_in true mode place ≡ bads (end_in mode place)
last_is modes.Outside place = refl
last_is modes.Straying place = refl
last_is modes.Inside place = refl
last_is modes.Escaping place = refl
last_is modes.Skipping place = refl

-- a scan that does not tell its end
no_end : (span : Span) (place : ℕ) → end_events false place span ≡ []
no_end (Frame content) place = refl
no_end (Stray front) place = refl
no_end Empty place = refl
no_end (BadEscape content octet skipped) place = refl
no_end (TooLong content octet skipped) place = refl
no_end (Unfinished content) place = refl
no_end (Escaping content) place = refl

-- the event of the end is its refusal
end_is : (span : Span) (place : ℕ) → end_events true place span ≡ bads (end_at place span)
end_is (Frame content) place = refl
end_is (Stray front) place = refl
end_is Empty place = refl
end_is (BadEscape content octet skipped) place = refl
end_is (TooLong content octet skipped) place = refl
end_is (Unfinished content) place = refl
end_is (Escaping content) place = refl

-- a span has octets
pub some_octets : (span : Span) (rest : List ℕ) → IsSpan span rest → 0 < length (span_octets span)
some_octets (Frame content) rest is = omega arith
some_octets (Stray front) rest is = is.0
some_octets Empty rest is = omega arith
some_octets (BadEscape content octet skipped) rest is = omega arith
some_octets (TooLong content octet skipped) rest is = omega arith
some_octets (Unfinished content) rest is = omega arith
some_octets (Escaping content) rest is = omega arith

-- a span before others is finished
not_last : (span : Span) (rest : List ℕ) (place : ℕ) → IsSpan span rest → 0 < length rest → end_events true place span ≡ []
not_last (Frame content) rest place is some = refl
not_last (Stray front) rest place is some = refl
not_last Empty rest place is some = refl
not_last (BadEscape content octet skipped) rest place is some = refl
not_last (TooLong content octet skipped) rest place is some = refl
not_last (Unfinished content) rest place is some = absurd (omega (arith, some, ap length is.1))
not_last (Escaping content) rest place is some = absurd (omega (arith, some, ap length is.1))

-- without the end, a scan'stream events are those of the step function
scanned-false : (stream : List ℕ) (state : State) → scanned false state stream ≡ scan state stream
scanned-false [] state = quiet state.mode state.place
scanned-false (octet ∷ stream) state = ap (λ (xs : List Event). events_of state octet ++ xs) (scanned-false stream (after state octet))

pub scan-append : (stream rest : List ℕ) (state : State) → scan state (stream ++ rest) ≡ scan state stream ++ scan (run state stream) rest
scan-append [] rest state = refl
scan-append (octet ∷ stream) rest state =
    ap (λ (xs : List Event). events_of state octet ++ xs) (scan-append stream rest (after state octet))
    ∙ sym (append_assoc (events_of state octet) (scan (after state octet) stream) (scan (run (after state octet) stream) rest))

pub run-append : (stream rest : List ℕ) (state : State) → run state (stream ++ rest) ≡ run (run state stream) rest
run-append [] rest state = refl
run-append (octet ∷ stream) rest state = run-append stream rest (after state octet)

-- without its end, and with it
without_end : (spans : List Span) (place : ℕ) → all_from false place spans ≡ events_from place spans
without_end [] place = refl
without_end (span ∷ spans) place = rw (no_end span (place + length (span_octets span)), append-nil (events_at place span), without_end spans (place + length (span_octets span))) refl

with_end : (spans : List Span) (place : ℕ) → AreSpans spans → all_from true place spans ≡ events_from place spans ++ bads (end_of (place + length (stream_of spans)) spans)
with_end [] place each = refl
with_end (span ∷ []) place each = simp (append-nil, end_is)
with_end (span ∷ next ∷ spans) place each =
    let later : 0 < length (stream_of (next ∷ spans)) = omega (arith, some_octets next (stream_of spans) each.1.0, length-append (span_octets next) (stream_of spans)) in
    let first : end_events true (place + length (span_octets span)) span ≡ [] = not_last span (stream_of (next ∷ spans)) (place + length (span_octets span)) each.0 later in
    let rest = with_end (next ∷ spans) (place + length (span_octets span)) each.1 in
    let total : (place + length (span_octets span)) + length (stream_of (next ∷ spans)) ≡ place + length (stream_of (span ∷ next ∷ spans)) = omega (arith, length-append (span_octets span) (stream_of (next ∷ spans))) in
    let place' : ℕ = place + length (span_octets span) in
    ap (λ (xs : List Event). (events_at place span ++ xs) ++ all_from true place' (next ∷ spans)) first
    ∙ ap (λ (xs : List Event). xs ++ all_from true place' (next ∷ spans)) (append-nil (events_at place span))
    ∙ ap (λ (xs : List Event). events_at place span ++ xs) (rest ∙ ap (λ (n : ℕ). events_from place' (next ∷ spans) ++ bads (end_of n (next ∷ spans))) total)
    ∙ sym (append_assoc (events_at place span) (events_from place' (next ∷ spans)) _)

scanned-true : (stream : List ℕ) (state : State) → scanned true state stream ≡ scan state stream ++ bads (end_in (run state stream).mode (run state stream).place)
scanned-true [] state = last_is state.mode state.place
scanned-true (octet ∷ stream) state =
    ap (λ (xs : List Event). events_of state octet ++ xs) (scanned-true stream (after state octet))
    ∙ sym (append_assoc (events_of state octet) (scan (after state octet) stream) _)

bads_same : (a b : Option Refusal) → bads a ≡ bads b → a ≡ b
bads_same None None e = refl
bads_same None (Some r) e = absurd cc
bads_same (Some r) None e = absurd cc
bads_same (Some r) (Some q) e = cc

-- scanning a stream that is cut so
read_events : (stream : List ℕ) (spans : List Span) → stream ≡ stream_of spans → AreSpans spans → events_from 0 spans ≡ scan start stream
read_events stream spans whole each =
    sym (without_end spans 0) ∙ sym (scans false spans [] 0 0 each) ∙ ap (scanned false start) (sym whole) ∙ scanned-false stream start

-- the refusal of the end, by the scan
read_end : (stream : List ℕ) (spans : List Span) → stream ≡ stream_of spans → AreSpans spans → end_of (length stream) spans ≡ end_of_stream stream
unfolding end_of_stream
read_end stream spans whole each =
    let last : List Event = bads (end_of (length (stream_of spans)) spans) in
    let scanned_so : events_from 0 spans ++ last ≡ scan start stream ++ bads (end_of_stream stream) =
    sym (with_end spans 0 each ∙ ap (λ (n : ℕ). events_from 0 spans ++ bads (end_of n spans)) (zero-add (length (stream_of spans))))
    ∙ sym (scans true spans [] 0 0 each) ∙ ap (scanned true start) (sym whole) ∙ scanned-true stream start in
    bads_same _ _
    (append_cancel_left (scan start stream) _ _
    (ap (λ (xs : List Event). xs ++ bads (end_of (length stream) spans)) (sym (read_events stream spans whole each))
    ∙ ap (λ (n : ℕ). events_from 0 spans ++ bads (end_of n spans)) (ap length whole) ∙ scanned_so))

-- ---- a stream has the events that scanning it gives, and no others

pub events_held : (stream : List ℕ) → Events stream (scan start stream)
events_held stream =
    let c = cut stream in
    record { spans = c.spans; whole = c.whole; each = c.each; read = sym (read_events stream c.spans c.whole c.each) }

pub events_only : (stream : List ℕ) (events : List Event) → Events stream events → events ≡ scan start stream
events_only stream events h = h.read ∙ read_events stream h.spans h.whole h.each

pub one_list : (stream : List ℕ) (a b : List Event) → Events stream a → Events stream b → a ≡ b
one_list stream a b x y = events_only stream a x ∙ sym (events_only stream b y)

-- the events of a front, and then those of the rest
longer : (stream rest : List ℕ) (a b : List Event) → Events stream a → Events (stream ++ rest) b → b ≡ a ++ scan (run start stream) rest
longer stream rest a b x y =
    events_only (stream ++ rest) b y ∙ scan-append stream rest start ∙ ap (λ (xs : List Event). xs ++ scan (run start stream) rest) (sym (events_only stream a x))

pub front_first : (stream rest : List ℕ) (a b : List Event) → Events stream a → Events (stream ++ rest) b → (more : List Event) × (b ≡ a ++ more)
front_first stream rest a b x y = (scan (run start stream) rest, longer stream rest a b x y)

-- an octet has one event at most
one_event : (mode : Mode) (state : State) (octet : ℕ) → length (events_in mode state octet) ≤ 1
one_event modes.Outside state octet = elim (cases_Bool (eqb octet 0x7E)) [ inl e ↦ rw e (omega arith) | inr e ↦ rw e (omega arith) ]
one_event modes.Straying state octet = omega arith
one_event modes.Inside state octet =
    elim (cases_Bool (eqb octet 0x7E)) [
      | inl e ↦ elim (cases_Bool (eqb (length state.content) 0)) [ inl f ↦ rw (e, f) (omega arith) | inr f ↦ rw (e, f) (omega arith) ]
      | inr e ↦ elim (cases_Bool (eqb (length state.content) 1045)) [ inl f ↦ rw (e, f) (omega arith) | inr f ↦ rw (e, f) (omega arith) ]
    ]
one_event modes.Escaping state octet =
    elim (cases_Bool (eqb octet 1)) [
      | inl e ↦ rw e (omega arith)
      | inr e ↦ elim (cases_Bool (eqb octet 2)) [ inl f ↦ rw (e, f) (omega arith) | inr f ↦ rw (e, f) (omega arith) ]
    ]
one_event modes.Skipping state octet = omega arith

scan_one : (state : State) (octet : ℕ) → length (scan state (octet ∷ [])) ≤ 1
unfolding events_of
scan_one state octet = omega (arith, one_event state.mode state octet, length-append (events_in state.mode state octet) [])

-- one more octet has one event at most
pub one_octet : (stream : List ℕ) (octet : ℕ) (a b : List Event) → Events stream a → Events (stream ++ octet ∷ []) b → length b ≤ length a + 1
one_octet stream octet a b x y =
    omega (arith, ap length (longer stream (octet ∷ []) a b x y), length-append a (scan (run start stream) (octet ∷ [])), scan_one (run start stream) octet)

pub ended : (stream : List ℕ) → Ends stream (end_of_stream stream)
ended stream =
    let c = cut stream in
    record { spans = c.spans; whole = c.whole; each = c.each; read = sym (read_end stream c.spans c.whole c.each) }

pub one_end : (stream : List ℕ) (a b : Option Refusal) → Ends stream a → Ends stream b → a ≡ b
one_end stream a b x y = (x.read ∙ read_end stream x.spans x.whole x.each) ∙ sym (y.read ∙ read_end stream y.spans y.whole y.each)

-- ---- contents as events

pub whole_is : (p q : ℕ) (a b : List ℕ) (x y : List Event) → Whole p a ∷ x ≡ Whole q b ∷ y → (a ≡ b) × (p ≡ q)
whole_is p q a b x y e = (cc, cc)
