-- What stands in a stream of octets: it is cut into spans, each span has one event or none, and a stream that ends
-- inside a frame is refused at its end. The cut is this project's own, over the standard's frames. To be believed.
use Rattle.std.specs.Prelude.{◌≡◌, ◌≢◌, ℕ, ◌+◌, ◌≤◌, ◌<◌, List, [], ◌∷◌, ◌++◌, length, ◌⊎◌, Option, Some, None}
use Rattle.jt_value.specs.declared.limits.TheConstants.{CONTENT_LIMIT}
use Rattle.jt_value.specs.Octets.{AreOctets}
use Rattle.jt_value.specs.declared.refusal.Why.{Why}
use Rattle.jt_value.specs.declared.refusal.Why.TheVariants as why
use Rattle.jt_value.specs.declared.refusal.Refusal.{Refusal}
use Rattle.jt_escape.specs.Frame.{escaped, framed}

-- a whole content with the place of its opening flag, or a refusal
pub data Event : Type 0 where
  Whole : ℕ → List ℕ → Event
  Refused : Refusal → Event

-- the content of the event, if it has one, is of octets
abbrev pub HasOctets : Event → Type 0
HasOctets (Whole place content) = AreOctets content
HasOctets (Refused refusal) = Unit {0}

-- the refusal of an octet of the line, or of the line's end
abbrev pub refusal_at : Why → ℕ → Refusal
refusal_at reason place = record { at = place; inside = 0; why = reason }

abbrev pub refused_at : Why → ℕ → Event
refused_at reason place = Refused (refusal_at reason place)

-- a part of a stream
pub data Span : Type 0 where
  -- a frame of this content
  Frame : List ℕ → Span
  -- octets outside all frames
  Stray : List ℕ → Span
  -- a flag directly before the next flag
  Empty : Span
  -- a frame up to an escape that stands before a wrong octet: the content, the octet, and what is skipped
  BadEscape : List ℕ → ℕ → List ℕ → Span
  -- a frame up to the octet that is one too many: the content, the octet, and what is skipped
  TooLong : List ℕ → ℕ → List ℕ → Span
  -- a frame of which only the flag and this content have come
  Unfinished : List ℕ → Span
  -- the same with an escape begun
  Escaping : List ℕ → Span

abbrev pub span_octets : Span → List ℕ
span_octets (Frame content) = framed content
span_octets (Stray run) = run
span_octets Empty = 0x7E ∷ []
span_octets (BadEscape content octet skipped) = 0x7E ∷ escaped content ++ 0x7D ∷ octet ∷ skipped
span_octets (TooLong content octet skipped) = 0x7E ∷ escaped content ++ octet ∷ skipped
span_octets (Unfinished content) = 0x7E ∷ escaped content
span_octets (Escaping content) = 0x7E ∷ escaped content ++ 0x7D ∷ []

-- no octet is a flag
abbrev pub HasNoFlag : List ℕ → Type 0
HasNoFlag [] = Unit {0}
HasNoFlag (octet ∷ more) = (octet ≢ 0x7E) × HasNoFlag more

-- Octets other than flags and then one flag. Where the stream ends before that flag, what there is of them.
abbrev pub IsUpToFlag : List ℕ → List ℕ → Type 0
IsUpToFlag [] rest = rest ≡ []
IsUpToFlag (octet ∷ more) rest = ((octet ≡ 0x7E) × (more ≡ [])) ⊎ ((octet ≢ 0x7E) × IsUpToFlag more rest)

-- the next octet is a flag
abbrev pub BeginsWithFlag : List ℕ → Type 0
BeginsWithFlag [] = ⊥
BeginsWithFlag (octet ∷ more) = octet ≡ 0x7E

-- the next octet is a flag, or there is none
abbrev pub IsAtFlagOrEnd : List ℕ → Type 0
IsAtFlagOrEnd [] = Unit {0}
IsAtFlagOrEnd (octet ∷ more) = octet ≡ 0x7E

-- a content that a frame may have
abbrev pub IsContent : List ℕ → Type 0
IsContent content = (0 < length content) × (length content ≤ CONTENT_LIMIT)

-- the span may stand in a stream before this rest, and only the last span may be unfinished
abbrev pub IsSpan : Span → List ℕ → Type 0
IsSpan (Frame content) rest = IsContent content
IsSpan (Stray run) rest = (0 < length run) × HasNoFlag run × IsAtFlagOrEnd rest
IsSpan Empty rest = BeginsWithFlag rest
IsSpan (BadEscape content octet skipped) rest =
    (length content ≤ 1044) × (octet ≢ 0x01) × (octet ≢ 0x02)
    × (((octet ≡ 0x7E) × (skipped ≡ [])) ⊎ ((octet ≢ 0x7E) × IsUpToFlag skipped rest))
IsSpan (TooLong content octet skipped) rest = (length content ≡ CONTENT_LIMIT) × (octet ≢ 0x7E) × IsUpToFlag skipped rest
IsSpan (Unfinished content) rest = (length content ≤ CONTENT_LIMIT) × (rest ≡ [])
IsSpan (Escaping content) rest = (length content ≤ 1044) × (rest ≡ [])

-- the stream of these spans, one after another
abbrev pub stream_of : List Span → List ℕ
stream_of [] = []
stream_of (span ∷ spans) = span_octets span ++ stream_of spans

abbrev pub AreSpans : List Span → Type 0
AreSpans [] = Unit {0}
AreSpans (span ∷ spans) = IsSpan span (stream_of spans) × AreSpans spans

-- The event of a span that begins at this place: a frame's content at its opening flag, strays at the first of them,
-- an empty frame at its flag, a bad escape at the wrong octet, a content that is too long at the octet that is too many.
abbrev pub events_at : ℕ → Span → List Event
events_at place (Frame content) = Whole place content ∷ []
events_at place (Stray run) = refused_at why.Stray place ∷ []
events_at place Empty = refused_at why.EmptyFrame place ∷ []
events_at place (BadEscape content octet skipped) = refused_at why.BadEscape (place + length (escaped content) + 2) ∷ []
events_at place (TooLong content octet skipped) = refused_at why.TooLong (place + length (escaped content) + 1) ∷ []
events_at place (Unfinished content) = []
events_at place (Escaping content) = []

-- the events of spans, the first of which begins at this place
abbrev pub events_from : ℕ → List Span → List Event
events_from place [] = []
events_from place (span ∷ spans) = events_at place span ++ events_from (place + length (span_octets span)) spans

-- the stream has these events
pub record Events (stream : List ℕ) (events : List Event) : Type 0 where
  pub spans : List Span
  pub whole : stream ≡ stream_of spans
  pub each : AreSpans spans
  pub read : events ≡ events_from 0 spans

-- the events of frames with these contents, one after another, the first of which begins at this place
abbrev pub contents_from : ℕ → List (List ℕ) → List Event
contents_from place [] = []
contents_from place (content ∷ contents) = Whole place content ∷ contents_from (place + length (framed content)) contents

-- a frame that is unfinished where the stream ends is refused there
abbrev pub end_at : ℕ → Span → Option Refusal
end_at place (Unfinished content) = Some (refusal_at why.Truncated place)
end_at place (Escaping content) = Some (refusal_at why.Truncated place)
end_at place (Frame content) = None
end_at place (Stray run) = None
end_at place Empty = None
end_at place (BadEscape content octet skipped) = None
end_at place (TooLong content octet skipped) = None

-- the refusal of a stream that ends at this place, by its last span
abbrev pub end_of : ℕ → List Span → Option Refusal
end_of place [] = None
end_of place (span ∷ []) = end_at place span
end_of place (span ∷ next ∷ spans) = end_of place (next ∷ spans)

-- the stream's end has this refusal, or none
pub record Ends (stream : List ℕ) (end : Option Refusal) : Type 0 where
  pub spans : List Span
  pub whole : stream ≡ stream_of spans
  pub each : AreSpans spans
  pub read : end ≡ end_of (length stream) spans
