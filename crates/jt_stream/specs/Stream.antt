-- What a stream's reader holds, and what its calls tell. To be believed.
use Rattle.std.specs.Prelude.{ℕ, Bool, List, [], ◌∷◌, ◌++◌}
use Rattle.jt_escape.specs.Scan.{State}
use Rattle.jt_escape.specs.Splitter.{StandsFor, Continues}
use Rattle.jt_header.specs.Fields.{header_at, body_at}
use Rattle.jt_stream.specs.declared.stream.StreamItem.{StreamItem}
use Rattle.jt_stream.specs.declared.stream.StreamItem.TheVariants as answer
use Rattle.jt_stream.specs.Item.{Item, Frame, Refused, Items}

-- what the splitter holds, and whether the last call that took octets answered a frame that was judged
pub record Held : Type 0 where
  pub splitter : State
  pub found : Bool

-- Octets were taken: whatever stream the old splitter belongs to, the new one belongs to that stream and then the octets,
-- and to the items of that stream these were added.
pub record Adds (Belongs : State → List ℕ → Type 0) (old new : State) (octets : List ℕ) (gained : List Item) : Type 0 where
  pub stands : (stream : List ℕ) → Belongs old stream → Belongs new (stream ++ octets)
  pub items : (stream : List ℕ) (before : List Item) → Belongs old stream → Items stream before
      → Items (stream ++ octets) (before ++ gained)

-- these octets were taken and brought these items, whatever stream the splitter stood for
abbrev pub Gains : State → State → List ℕ → List Item → Type 0
Gains old new octets gained = Adds StandsFor old new octets gained

-- the same where contents may have been left where they stood
abbrev pub GainsInPlace : State → State → List ℕ → List Item → Type 0
GainsInPlace old new octets gained = Adds Continues old new octets gained

-- octets that bring no item
abbrev pub AddsNothing : (State → List ℕ → Type 0) → State → List ℕ → Type 0
AddsNothing Belongs old octets =
    (stream : List ℕ) (before : List Item) → Belongs old stream → Items stream before → Items (stream ++ octets) before

-- these octets bring no item, whatever stream the splitter stood for
abbrev pub IsSilent : State → List ℕ → Type 0
IsSilent old octets = AddsNothing StandsFor old octets

-- the same where contents may have been left where they stood
abbrev pub IsSilentInPlace : State → List ℕ → Type 0
IsSilentInPlace old octets = AddsNothing Continues old octets

-- the items that an answer tells of the splitter that the call left
abbrev pub stream_items : StreamItem → State → List Item
stream_items answer.More state = []
stream_items answer.Frame state = Frame state.opened (header_at state.content) (body_at state.content) ∷ []
stream_items (answer.Refused refusal) state = Refused refusal ∷ []
