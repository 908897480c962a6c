-- Each stream is cut into spans.
use Rattle.std.proofs.Common.{◌≡◌, ◌≢◌, ℕ, ◌+◌, ◌<◌, ◌≤◌, List, [], ◌∷◌, ◌++◌, length, refl, sym, ap, subst, ◌∙◌, append_assoc, arith, inl, inr, length-append}
use Rattle.std.proofs.lemmas.Bool.{cases_eq, ne_eqb}
use Rattle.std.proofs.lemmas.List.{append-nil}
use Rattle.std.proofs.lemmas.List.Concat.{flat_map-append}
use Rattle.jt_escape.specs.Frame.{escaped_octet, escaped}
use Rattle.jt_escape.specs.Span.{HasNoFlag, IsUpToFlag, Span, Frame, Stray, Empty, BadEscape, TooLong, Unfinished, Escaping, span_octets, IsSpan, stream_of, AreSpans}

-- a stream as spans
pub record Cut (stream : List ℕ) : Type 0 where
  pub spans : List Span
  pub whole : stream ≡ stream_of spans
  pub each : AreSpans spans

-- the span that a stream ends in, unfinished
abbrev IsFront : Span → Type 0
IsFront (Frame content) = ⊥
IsFront (Stray front) = (0 < length front) × HasNoFlag front
IsFront Empty = ⊥
IsFront (BadEscape content octet skipped) = (length content ≤ 1044) × (octet ≢ 1) × (octet ≢ 2) × (octet ≢ 0x7E) × HasNoFlag skipped
IsFront (TooLong content octet skipped) = (length content ≡ 1045) × (octet ≢ 0x7E) × HasNoFlag skipped
IsFront (Unfinished content) = length content ≤ 1045
IsFront (Escaping content) = length content ≤ 1044

-- octets without a flag, where the stream ends
up_to_end : (skipped : List ℕ) → HasNoFlag skipped → IsUpToFlag skipped []
up_to_end [] none = refl
up_to_end (octet ∷ skipped) none = inr (none.0, up_to_end skipped none.1)

-- octets without a flag, and then one
up_to_flag : (skipped rest : List ℕ) → HasNoFlag skipped → IsUpToFlag (skipped ++ 0x7E ∷ []) rest
up_to_flag [] rest none = inl (refl, refl)
up_to_flag (octet ∷ skipped) rest none = inr (none.0, up_to_flag skipped rest none.1)

HasNoFlag-push : (skipped : List ℕ) (octet : ℕ) → HasNoFlag skipped → octet ≢ 0x7E → HasNoFlag (skipped ++ octet ∷ [])
HasNoFlag-push [] octet none other = (other, tt)
HasNoFlag-push (first ∷ skipped) octet none other = (none.0, HasNoFlag-push skipped octet none.1 other)

-- a stream of one span
alone : (span : Span) → IsSpan span [] → (stream : List ℕ) → stream ≡ span_octets span → Cut stream
alone span is stream e = record { spans = span ∷ []; whole = e ∙ sym (append-nil (span_octets span)); each = (is, tt) }

-- a span before a stream that is cut
then_cut : (span : Span) (stream rest : List ℕ) → IsSpan span rest → stream ≡ span_octets span ++ rest → Cut rest → Cut stream
then_cut span stream rest is e cut =
    record { spans = span ∷ cut.spans; whole = e ∙ ap (λ (xs : List ℕ). span_octets span ++ xs) cut.whole; each = (subst (IsSpan span) cut.whole is, cut.each) }

-- an unfinished span may end the stream
final : (front : Span) → IsFront front → IsSpan front []
final (Frame content) is = absurd is
final (Stray front) is = (is.0, is.1, tt)
final Empty is = absurd is
final (BadEscape content octet skipped) is = (is.0, is.1, is.2, inr (is.3, up_to_end skipped is.4))
final (TooLong content octet skipped) is = (is.0, is.1, up_to_end skipped is.2)
final (Unfinished content) is = (is, refl)
final (Escaping content) is = (is, refl)

escaped-push : (content : List ℕ) (octet : ℕ) → escaped (content ++ octet ∷ []) ≡ escaped content ++ escaped_octet octet
escaped-push content octet = flat_map-append escaped_octet content (octet ∷ []) ∙ ap (λ (xs : List ℕ). escaped content ++ xs) (append-nil (escaped_octet octet))

-- an octet that is escaped as itself
pub plain : (octet : ℕ) → octet ≢ 0x7E → octet ≢ 0x7D → escaped_octet octet ≡ octet ∷ []
plain octet flag escape = rw (ne_eqb octet 0x7E flag, ne_eqb octet 0x7D escape) refl

-- one more octet in the last span
goes_on : (front more : List ℕ) (octet : ℕ) (stream : List ℕ) → more ≡ front ++ octet ∷ [] → Cut (more ++ stream) → Cut (front ++ octet ∷ stream)
goes_on front more octet stream e cut = subst Cut (ap (λ (xs : List ℕ). xs ++ stream) e ∙ append_assoc front (octet ∷ []) stream) cut

-- one more octet ends the span
ends_with : (span : Span) (front : List ℕ) (octet : ℕ) (stream : List ℕ) → IsSpan span stream → span_octets span ≡ front ++ octet ∷ [] → Cut stream → Cut (front ++ octet ∷ stream)
ends_with span front octet stream is e cut =
    then_cut span (front ++ octet ∷ stream) stream is (sym (append_assoc front (octet ∷ []) stream) ∙ ap (λ (xs : List ℕ). xs ++ stream) (sym e)) cut

length-push : (content : List ℕ) (octet : ℕ) → length (content ++ octet ∷ []) ≡ length content + 1
length-push content octet = length-append content (octet ∷ [])

-- one more content octet
unfinished-push : (content line : List ℕ) (octet : ℕ) → escaped_octet octet ≡ line → span_octets (Unfinished (content ++ octet ∷ [])) ≡ 0x7E ∷ (escaped content ++ line)
unfinished-push content line octet e = ap (λ (xs : List ℕ). 0x7E ∷ xs) (escaped-push content octet ∙ ap (λ (xs : List ℕ). escaped content ++ xs) e)

regroup : (content front more : List ℕ) → 0x7E ∷ (escaped content ++ (front ++ more)) ≡ (0x7E ∷ (escaped content ++ front)) ++ more
regroup content front more = ap (λ (xs : List ℕ). 0x7E ∷ xs) (sym (append_assoc (escaped content) front more))

mutual
  cut_outside : (stream : List ℕ) → Cut stream
  cut_outside [] = record { spans = []; whole = refl; each = tt }
  cut_outside (octet ∷ stream) =
      elim (cases_eq octet 0x7E) [
        | inl e ↦ rw e (cut_after stream (Unfinished []) (omega arith))
        | inr other ↦ cut_after stream (Stray (octet ∷ [])) (omega arith, (other, tt))
      ]

  cut_after : (stream : List ℕ) (front : Span) → IsFront front → Cut (span_octets front ++ stream)
  cut_after [] front is = alone front (final front is) (span_octets front ++ []) (append-nil (span_octets front))
  cut_after (octet ∷ stream) (Frame content) is = absurd is
  cut_after (octet ∷ stream) Empty is = absurd is
  cut_after (octet ∷ stream) (Stray front) is =
      elim (cases_eq octet 0x7E) [
        | inl e ↦ rw e (then_cut (Stray front) (front ++ 0x7E ∷ stream) (0x7E ∷ stream) (is.0, is.1, refl) refl (cut_after stream (Unfinished []) (omega arith)))
        | inr other ↦
            goes_on front (front ++ octet ∷ []) octet stream refl
            (cut_after stream (Stray (front ++ octet ∷ [])) (omega (arith, length-push front octet), HasNoFlag-push front octet is.1 other))
      ]
  cut_after (octet ∷ stream) (Unfinished []) is =
      elim (cases_eq octet 0x7E) [
        | inl e ↦ rw e (then_cut Empty (0x7E ∷ 0x7E ∷ stream) (0x7E ∷ stream) refl refl (cut_after stream (Unfinished []) (omega arith)))
        | inr flag ↦ elim (cases_eq octet 0x7D) [
          | inl e ↦ rw e (cut_after stream (Escaping []) (omega arith))
          | inr escape ↦ goes_on (span_octets (Unfinished [])) (span_octets (Unfinished (octet ∷ []))) octet stream (unfinished-push [] (octet ∷ []) octet (plain octet flag escape)) (cut_after stream (Unfinished (octet ∷ [])) (omega arith))
        ]
      ]
  cut_after (octet ∷ stream) (Unfinished (first ∷ others)) is =
      let content : List ℕ = first ∷ others in
      elim (cases_eq octet 0x7E) [
        | inl e ↦ rw e (ends_with (Frame content) (span_octets (Unfinished content)) 0x7E stream (omega arith, is) refl (cut_outside stream))
        | inr flag ↦ elim (cases_eq (length content) 1045) [
          | inl full ↦ goes_on (span_octets (Unfinished content)) (span_octets (TooLong content octet [])) octet stream refl (cut_after stream (TooLong content octet []) (full, flag, tt))
          | inr short ↦ elim (cases_eq octet 0x7D) [
            | inl e ↦ rw e (goes_on (span_octets (Unfinished content)) (span_octets (Escaping content)) 0x7D stream refl (cut_after stream (Escaping content) (omega (arith, is, short))))
            | inr escape ↦
                goes_on (span_octets (Unfinished content)) (span_octets (Unfinished (content ++ octet ∷ []))) octet stream (unfinished-push content (octet ∷ []) octet (plain octet flag escape))
                (cut_after stream (Unfinished (content ++ octet ∷ [])) (omega (arith, is, short, length-push content octet)))
          ]
        ]
      ]
  cut_after (octet ∷ stream) (Escaping content) is =
      elim (cases_eq octet 1) [
        | inl e ↦
            rw e (goes_on (span_octets (Escaping content)) (span_octets (Unfinished (content ++ 0x7D ∷ []))) 1 stream (unfinished-push content (0x7D ∷ 1 ∷ []) 0x7D refl ∙ regroup content (0x7D ∷ []) (1 ∷ []))
            (cut_after stream (Unfinished (content ++ 0x7D ∷ [])) (omega (arith, is, length-push content 0x7D))))
        | inr not1 ↦ elim (cases_eq octet 2) [
          | inl e ↦
              rw e (goes_on (span_octets (Escaping content)) (span_octets (Unfinished (content ++ 0x7E ∷ []))) 2 stream (unfinished-push content (0x7D ∷ 2 ∷ []) 0x7E refl ∙ regroup content (0x7D ∷ []) (2 ∷ []))
              (cut_after stream (Unfinished (content ++ 0x7E ∷ [])) (omega (arith, is, length-push content 0x7E))))
          | inr not2 ↦ elim (cases_eq octet 0x7E) [
            | inl e ↦
                ends_with (BadEscape content octet []) (span_octets (Escaping content)) octet stream (is, not1, not2, inl (e, refl)) (regroup content (0x7D ∷ []) (octet ∷ [])) (cut_outside stream)
            | inr other ↦
                goes_on (span_octets (Escaping content)) (span_octets (BadEscape content octet [])) octet stream (regroup content (0x7D ∷ []) (octet ∷ []))
                (cut_after stream (BadEscape content octet []) (is, not1, not2, other, tt))
          ]
        ]
      ]
  cut_after (octet ∷ stream) (BadEscape content first skipped) is =
      elim (cases_eq octet 0x7E) [
        | inl e ↦
            rw e (ends_with (BadEscape content first (skipped ++ 0x7E ∷ [])) (span_octets (BadEscape content first skipped)) 0x7E stream
            (is.0, is.1, is.2, inr (is.3, up_to_flag skipped stream is.4)) (regroup content (0x7D ∷ first ∷ skipped) (0x7E ∷ [])) (cut_outside stream))
        | inr other ↦
            goes_on (span_octets (BadEscape content first skipped)) (span_octets (BadEscape content first (skipped ++ octet ∷ []))) octet stream (regroup content (0x7D ∷ first ∷ skipped) (octet ∷ []))
            (cut_after stream (BadEscape content first (skipped ++ octet ∷ [])) (is.0, is.1, is.2, is.3, HasNoFlag-push skipped octet is.4 other))
      ]
  cut_after (octet ∷ stream) (TooLong content first skipped) is =
      elim (cases_eq octet 0x7E) [
        | inl e ↦
            rw e (ends_with (TooLong content first (skipped ++ 0x7E ∷ [])) (span_octets (TooLong content first skipped)) 0x7E stream
            (is.0, is.1, up_to_flag skipped stream is.2) (regroup content (first ∷ skipped) (0x7E ∷ [])) (cut_outside stream))
        | inr other ↦
            goes_on (span_octets (TooLong content first skipped)) (span_octets (TooLong content first (skipped ++ octet ∷ []))) octet stream (regroup content (first ∷ skipped) (octet ∷ []))
            (cut_after stream (TooLong content first (skipped ++ octet ∷ [])) (is.0, is.1, HasNoFlag-push skipped octet is.2 other))
      ]

pub cut : (stream : List ℕ) → Cut stream
cut stream = cut_outside stream
