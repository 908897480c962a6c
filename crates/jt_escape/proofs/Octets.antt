-- The contents of a stream of octets are octets.
use Rattle.std.proofs.Common.{ℕ, ◌+◌, ◌<◌, List, [], ◌∷◌, ◌++◌, length, sym, subst, arith, inl, inr}
use Rattle.std.proofs.lemmas.Bool.{cases_eq}
use Rattle.std.proofs.lemmas.List.Elements.{All-nil, All-cons, All-append}
use Rattle.std.specs.Prelude.{All}
use Rattle.jt_escape.specs.Frame.{escaped_octet, escaped}
use Rattle.jt_escape.specs.Span.{Event, Whole, HasOctets, Span, Frame, Stray, Empty, BadEscape, TooLong, Unfinished, Escaping, span_octets, stream_of, events_at, events_from, Events}
use Rattle.jt_value.specs.Octets.{AreOctets}
use Rattle.jt_value.proofs.OctetLists.{AreOctets-front, AreOctets-rest, AreOctets-nil, AreOctets-cons}
use Rattle.jt_escape.proofs.Cutting.{plain}

-- an octet, as it is on the line
unescaped_octet : (octet : ℕ) → AreOctets (escaped_octet octet) → octet < 256
unescaped_octet octet are =
    elim (cases_eq octet 0x7E) [
      | inl e ↦ omega (arith, e)
      | inr flag ↦ elim (cases_eq octet 0x7D) [
        | inl e ↦ omega (arith, e)
        | inr escape ↦ let itself = subst AreOctets (plain octet flag escape) are in itself 0
      ]
    ]

unescaped : (content : List ℕ) → AreOctets (escaped content) → AreOctets content
unescaped [] are = AreOctets-nil
unescaped (octet ∷ content) are =
    AreOctets-cons octet content (unescaped_octet octet (AreOctets-front (escaped_octet octet) (escaped content) are))
    (unescaped content (AreOctets-rest (escaped_octet octet) (escaped content) are))

-- one event
one_has : (event : Event) → HasOctets event → All HasOctets (event ∷ [])
one_has event has = All-cons HasOctets event [] has (All-nil HasOctets)

events_octets : (span : Span) (place : ℕ) → AreOctets (span_octets span) → All HasOctets (events_at place span)
events_octets (Frame content) place all =
    one_has (Whole place content) (unescaped content (AreOctets-front (escaped content) (0x7E ∷ []) (AreOctets-rest (0x7E ∷ []) (escaped content ++ 0x7E ∷ []) all)))
events_octets (Stray run) place all = one_has _ tt
events_octets Empty place all = one_has _ tt
events_octets (BadEscape content octet skipped) place all = one_has _ tt
events_octets (TooLong content octet skipped) place all = one_has _ tt
events_octets (Unfinished content) place all = All-nil HasOctets
events_octets (Escaping content) place all = All-nil HasOctets

all_octets : (spans : List Span) (place : ℕ) → AreOctets (stream_of spans) → All HasOctets (events_from place spans)
all_octets [] place all = All-nil HasOctets
all_octets (span ∷ spans) place all =
    All-append HasOctets (events_at place span) (events_from (place + length (span_octets span)) spans)
    (events_octets span place (AreOctets-front (span_octets span) (stream_of spans) all))
    (all_octets spans (place + length (span_octets span)) (AreOctets-rest (span_octets span) (stream_of spans) all))

pub octets_held : (stream : List ℕ) (events : List Event) → AreOctets stream → Events stream events → All HasOctets events
octets_held stream events all held =
    subst (All HasOctets) (sym held.read) (all_octets held.spans 0 (subst AreOctets held.whole all))
