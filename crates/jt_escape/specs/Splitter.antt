-- What a splitter stands for, and what a call did to it. To be believed.
use Rattle.std.specs.Prelude.{◌≡◌, ℕ, ◌-◌, List, [], ◌∷◌, ◌++◌, length, slice_range, ◌==◌, if◌then◌else◌}
use Rattle.jt_escape.specs.declared.splitter.Split.{Split}
use Rattle.jt_escape.specs.declared.splitter.Split.TheVariants as split
use Rattle.jt_escape.specs.Span.{Event, Whole, Refused, Events}
use Rattle.jt_escape.specs.Scan.{State, start, run, AreAlike}

-- The octets of this stream were taken. Nothing that is promised of the answers rests on this definition: it holds of
-- a new splitter and the empty stream, and `push` and `take` carry it on.
pub record StandsFor (state : State) (stream : List ℕ) : Type 0 where
  pub taken : state ≡ run start stream

-- The octets of this stream were taken, and contents may have been left where they stood: answers to later octets are those
-- of a splitter that stands for the stream. Nothing that is promised rests on this definition either: it holds of a new
-- splitter and the empty stream, and `push`, `take` and `take_in_place` carry it on.
pub record Continues (state : State) (stream : List ℕ) : Type 0 where
  pub taken : AreAlike state (run start stream)

-- Octets were taken: whatever stream the old state belongs to, the new one belongs to that stream and then the octets,
-- and to the events of that stream these were added.
pub record Adds (Belongs : State → List ℕ → Type 0) (old new : State) (octets : List ℕ) (gained : List Event) : Type 0 where
  pub stands : (stream : List ℕ) → Belongs old stream → Belongs new (stream ++ octets)
  pub events : (stream : List ℕ) (before : List Event) → Belongs old stream → Events stream before
      → Events (stream ++ octets) (before ++ gained)

-- these octets were taken and brought these events, whatever stream the splitter stood for
abbrev pub Takes : State → State → List ℕ → List Event → Type 0
Takes old new octets gained = Adds StandsFor old new octets gained

-- the same where contents may have been left where they stood
abbrev pub TakesInPlace : State → State → List ℕ → List Event → Type 0
TakesInPlace old new octets gained = Adds Continues old new octets gained

-- octets that bring no event
abbrev pub AddsNothing : (State → List ℕ → Type 0) → State → List ℕ → Type 0
AddsNothing Belongs old octets =
    (stream : List ℕ) (before : List Event) → Belongs old stream → Events stream before → Events (stream ++ octets) before

-- these octets bring no event, whatever stream the splitter stood for
abbrev pub IsSilent : State → List ℕ → Type 0
IsSilent old octets = AddsNothing StandsFor old octets

-- the same where contents may have been left where they stood
abbrev pub IsSilentInPlace : State → List ℕ → Type 0
IsSilentInPlace old octets = AddsNothing Continues old octets

-- the events that an answer tells of the splitter that gave it
abbrev pub split_events : Split → State → List Event
split_events split.More state = []
split_events split.Content state = Whole state.opened state.content ∷ []
split_events (split.Refused refusal) state = Refused refusal ∷ []

-- The content that these octets completed: that of the splitter or, where it kept none, what stands between the first
-- and the last of the octets.
abbrev pub lent : State → List ℕ → List ℕ
lent state taken = if length state.content == 0 then slice_range taken 1 (length taken - 1) else state.content

-- the events that an answer tells of these octets and of the splitter that took them
abbrev pub split_events_in_place : Split → State → List ℕ → List Event
split_events_in_place split.More state taken = []
split_events_in_place split.Content state taken = Whole state.opened (lent state taken) ∷ []
split_events_in_place (split.Refused refusal) state taken = Refused refusal ∷ []
