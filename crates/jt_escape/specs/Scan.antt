-- Going through a stream octet by octet: the state that is kept, the next state, and the events on the way. A step
-- function: to be believed in the clauses of a splitter's own calls; over a whole stream a law says that it gives
-- the events of Span.
use Rattle.std.specs.Prelude.{◌≡◌, ◌≢◌, ◌⊎◌, Option, Some, None, ℕ, ◌+◌, ◌<◌, List, [], ◌∷◌, ◌++◌, length, take, ◌==◌, if◌then◌else◌}
use Rattle.jt_value.specs.declared.limits.TheConstants.{CONTENT_LIMIT}
use Rattle.jt_value.specs.declared.refusal.Why.TheVariants as why
use Rattle.jt_value.specs.declared.refusal.Refusal.{Refusal}
use Rattle.jt_escape.specs.declared.splitter.Mode.{Mode}
use Rattle.jt_escape.specs.declared.splitter.Mode.TheVariants.{Outside, Straying, Inside, Escaping, Skipping}
use Rattle.jt_escape.specs.Span.{Event, Whole, refusal_at, refused_at}

-- where the stream stands, the content that is kept, how many octets came, and the place of the last opening flag
pub record State : Type 0 where
  pub mode : Mode
  pub content : List ℕ
  pub place : ℕ
  pub opened : ℕ

abbrev pub start : State
start = record { mode = Outside; content = []; place = 0; opened = 0 }

-- a frame opens with this octet
abbrev pub opening : State → State
opening state = record { mode = Inside; content = []; place = state.place + 1; opened = state.place }

-- the octet is in no content
abbrev pub passing : State → Mode → State
passing state mode = record { mode = mode; content = state.content; place = state.place + 1; opened = state.opened }

-- a content octet is kept
abbrev pub keeping : State → ℕ → State
keeping state octet =
    record { mode = Inside; content = state.content ++ octet ∷ []; place = state.place + 1; opened = state.opened }

-- the octet is put behind the content, and no octet of the stream is taken
abbrev pub gathering : State → ℕ → State
gathering state octet = record state { content = state.content ++ octet ∷ [] }

-- of a stream of which two octets are there, so many have an octet of content: both by an escape, or the first for itself
abbrev pub StandsAtFront : (first second count octet : ℕ) → Type 0
StandsAtFront first second count octet =
    ((count ≡ 2) × (first ≡ 0x7D) × (((second ≡ 0x01) × (octet ≡ 0x7D)) ⊎ ((second ≡ 0x02) × (octet ≡ 0x7E))))
    ⊎ ((count ≡ 1) × (first ≢ 0x7E) × (first ≢ 0x7D) × (octet ≡ first))

-- the state at another place of a stream
abbrev pub standing : State → ℕ → State
standing state place = record state { place = place }

abbrev pub after_in : Mode → State → ℕ → State
after_in Outside state octet = if octet == 0x7E then opening state else passing state Straying
after_in Straying state octet = if octet == 0x7E then opening state else passing state Straying
after_in Inside state octet =
    if octet == 0x7E then (if length state.content == 0 then opening state else passing state Outside)
    else if length state.content == CONTENT_LIMIT then passing state Skipping
    else if octet == 0x7D then passing state Escaping
    else keeping state octet
after_in Escaping state octet =
    if octet == 0x01 then keeping state 0x7D
    else if octet == 0x02 then keeping state 0x7E
    else if octet == 0x7E then passing state Outside
    else passing state Skipping
after_in Skipping state octet = if octet == 0x7E then passing state Outside else passing state Skipping

-- the state after one more octet
unfoldable pub after : State → ℕ → State
after state octet = after_in state.mode state octet

abbrev pub events_in : Mode → State → ℕ → List Event
events_in Outside state octet = if octet == 0x7E then [] else refused_at why.Stray state.place ∷ []
events_in Straying state octet = []
events_in Inside state octet =
    if octet == 0x7E
    then (if length state.content == 0 then refused_at why.EmptyFrame state.opened ∷ [] else Whole state.opened state.content ∷ [])
    else if length state.content == CONTENT_LIMIT then refused_at why.TooLong state.place ∷ []
    else []
events_in Escaping state octet =
    if octet == 0x01 then [] else if octet == 0x02 then [] else refused_at why.BadEscape state.place ∷ []
events_in Skipping state octet = []

-- the events of one more octet, at most one
unfoldable pub events_of : State → ℕ → List Event
events_of state octet = events_in state.mode state octet

-- the state after these octets
abbrev pub run : State → List ℕ → State
run state [] = state
run state (octet ∷ more) = run (after state octet) more

-- the events of these octets
abbrev pub scan : State → List ℕ → List Event
scan state [] = []
scan state (octet ∷ more) = events_of state octet ++ scan (after state octet) more

-- the events of a stream, as a function: it is a public law that the stream has these
abbrev pub all_events : List ℕ → List Event
all_events stream = scan start stream

-- the refusal of a stream that ends here
abbrev pub end_in : Mode → ℕ → Option Refusal
end_in Outside place = None
end_in Straying place = None
end_in Inside place = Some (refusal_at why.Truncated place)
end_in Escaping place = Some (refusal_at why.Truncated place)
end_in Skipping place = None

-- the refusal of a stream that ends, as a function
unfoldable pub end_of_stream : List ℕ → Option Refusal
end_of_stream stream = end_in (run start stream).mode (run start stream).place

-- no octet is a flag or an escape
abbrev pub IsPlain : List ℕ → Type 0
IsPlain [] = Unit {0}
IsPlain (octet ∷ more) = (octet ≢ 0x7E) × (octet ≢ 0x7D) × IsPlain more

-- content octets that stand for themselves are kept
abbrev pub keeping_all : State → List ℕ → State
keeping_all state octets =
    record { mode = Inside; content = state.content ++ octets; place = state.place + length octets; opened = state.opened }

-- the octets are in no content
abbrev pub passing_all : State → List ℕ → State
passing_all state octets =
    record { mode = state.mode; content = state.content; place = state.place + length octets; opened = state.opened }

-- the state after a frame, from its first flag to its last, whose content of so many octets is not kept
abbrev pub lending : State → ℕ → State
lending state count = record { mode = Outside; content = []; place = state.place + (count + 2); opened = state.place }

-- the content on which answers to later octets depend: the one that is being gathered, if there is one
abbrev pub gathered : Mode → List ℕ → List ℕ
gathered Outside content = []
gathered Straying content = []
gathered Inside content = content
gathered Escaping content = content
gathered Skipping content = []

-- all of a state on which answers to later octets depend
unfoldable pub lasting : State → State
lasting state = record state { content = gathered state.mode state.content }

-- Answers to later octets are the same in both: they differ at most in a content that is no longer being gathered.
abbrev pub AreAlike : State → State → Type 0
AreAlike a b = lasting a ≡ lasting b

-- the octets lead from the old state to the new one and have these events, and none before the last octet
pub record Runs (old new : State) (octets : List ℕ) (events : List Event) : Type 0 where
  pub reached : new ≡ run old octets
  pub read : events ≡ scan old octets
  pub quiet : (count : ℕ) → count < length octets → scan old (take count octets) ≡ []

-- the same, where the new state is only like the one that is reached, which keeps every content
pub record RunsInPlace (old new : State) (octets : List ℕ) (events : List Event) : Type 0 where
  pub kept : State
  pub runs : Runs old kept octets events
  pub alike : AreAlike new kept
