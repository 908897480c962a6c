-- Frames as the events of a stream.
use Rattle.std.proofs.Common.{◌≡◌, ℕ, ◌+◌, ◌-◌, ◌<◌, List, [], ◌∷◌, ◌++◌, length, take, map, refl, sym, ap, ◌∙◌, subst, arith, length-append}
use Rattle.std.proofs.lemmas.List.{append-nil}
use Rattle.std.proofs.lemmas.List.Elements.{All-tail}
use Rattle.std.proofs.Math.Seq.{take-append_seam, take-append-add}
use Rattle.std.specs.Prelude.{All}
use Rattle.std.specs.List.{flat_map}
use Rattle.jt_escape.specs.Frame.{framed}
use Rattle.jt_escape.specs.Span.{Event, Whole, IsContent, Span, Frame, Stray, Empty, BadEscape, TooLong, Unfinished, Escaping, span_octets, stream_of, AreSpans, events_from, contents_from, Events}
use Rattle.jt_escape.proofs.Reading.{some_octets, front_first, whole_is}

-- ---- frames, one after another

stream_of-map : (contents : List (List ℕ)) → flat_map framed contents ≡ stream_of (map Frame contents)
stream_of-map [] = refl
stream_of-map (content ∷ contents) = ap (λ (octets : List ℕ). framed content ++ octets) (stream_of-map contents)

are_spans : (contents : List (List ℕ)) → All IsContent contents → AreSpans (map Frame contents)
are_spans [] all = tt
are_spans (content ∷ contents) all = (all 0 [] (omega arith), are_spans contents (All-tail IsContent content contents all))

events_from-map : (contents : List (List ℕ)) (place : ℕ) → contents_from place contents ≡ events_from place (map Frame contents)
events_from-map [] place = refl
events_from-map (content ∷ contents) place =
    ap (λ (events : List Event). Whole place content ∷ events) (events_from-map contents (place + length (framed content)))

pub frames_are : (contents : List (List ℕ)) → All IsContent contents → Events (flat_map framed contents) (contents_from 0 contents)
frames_are contents all =
    record { spans = map Frame contents; whole = stream_of-map contents; each = are_spans contents all; read = events_from-map contents 0 }

-- ---- the first frame

pub one_frame : (content : List ℕ) → IsContent content → Events (framed content) (Whole 0 content ∷ [])
one_frame content is = record { spans = Frame content ∷ []; whole = sym (append-nil (framed content)); each = (is, tt); read = refl }

-- a list without its last element, where more than its front is left
front_of : (s a b : List ℕ) (octet : ℕ) → s ++ octet ∷ [] ≡ a ++ b → 0 < length b → (rest : List ℕ) × (s ≡ a ++ rest)
front_of s a b octet e some =
    let n : length s ≡ length a + (length b - 1) = omega (arith, some, ap length e, length-append s (octet ∷ []), length-append a b) in (
      take (length b - 1) b,
      sym (take-append_seam s (octet ∷ [])) ∙ ap (take (length s)) e ∙ ap (λ (k : ℕ). take k (a ++ b)) n ∙ take-append-add a b (length b - 1),
    )

-- an unfinished frame is the last span
unfinished_last : (next : Span) (spans : List Span) → AreSpans (next ∷ spans) → stream_of (next ∷ spans) ≡ [] → ⊥
unfinished_last next spans each e =
    absurd (omega (arith, some_octets next (stream_of spans) each.0, length-append (span_octets next) (stream_of spans), ap length e))

-- the stream before its last octet has no frame
no_earlier : (front a b : List ℕ) (octet : ℕ) (content : List ℕ) → Events front [] → front ++ octet ∷ [] ≡ a ++ b → 0 < length b
    → Events a (Whole 0 content ∷ []) → ⊥
no_earlier front a b octet content none e some first =
    let rest = front_of front a b octet e some in
    let more = front_first a rest.0 (Whole 0 content ∷ []) [] first (subst (λ (s : List ℕ). Events s []) rest.1 none) in
    let never : [] ≡ Whole 0 content ∷ more.0 = more.1 in
    absurd cc

first_is : (spans : List Span) (front : List ℕ) (octet opened : ℕ) (content : List ℕ) → Events front [] → front ++ octet ∷ [] ≡ stream_of spans → AreSpans spans
    → Whole opened content ∷ [] ≡ events_from 0 spans → (front ++ octet ∷ [] ≡ framed content) × (opened ≡ 0)
first_is [] front octet opened content none e each read = absurd cc
first_is (Frame other ∷ []) front octet opened content none e each read =
    let same = whole_is opened 0 content other [] [] read in
    (e ∙ append-nil (framed other) ∙ ap framed (sym same.0), same.1)
first_is (Frame other ∷ next ∷ spans) front octet opened content none e each read =
    absurd (no_earlier front (framed other) (stream_of (next ∷ spans)) octet other none e
    (omega (arith, some_octets next (stream_of spans) each.1.0, length-append (span_octets next) (stream_of spans))) (one_frame other each.0))
first_is (Stray run ∷ spans) front octet opened content none e each read = absurd cc
first_is (Empty ∷ spans) front octet opened content none e each read = absurd cc
first_is (BadEscape other wrong skipped ∷ spans) front octet opened content none e each read = absurd cc
first_is (TooLong other wrong skipped ∷ spans) front octet opened content none e each read = absurd cc
first_is (Unfinished other ∷ []) front octet opened content none e each read = absurd cc
first_is (Unfinished other ∷ next ∷ spans) front octet opened content none e each read = absurd (unfinished_last next spans each.1 each.0.1)
first_is (Escaping other ∷ []) front octet opened content none e each read = absurd cc
first_is (Escaping other ∷ next ∷ spans) front octet opened content none e each read = absurd (unfinished_last next spans each.1 each.0.1)

pub first_frame : (front : List ℕ) (octet opened : ℕ) (content : List ℕ) → Events front [] → Events (front ++ octet ∷ []) (Whole opened content ∷ [])
    → (front ++ octet ∷ [] ≡ framed content) × (opened ≡ 0)
first_frame front octet opened content none h = first_is h.spans front octet opened content none h.whole h.each h.read
