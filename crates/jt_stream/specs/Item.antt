-- What a stream of octets has: the messages of its frames, and refusals. The cut into frames is this project's own, over
-- the standard's frames and headers. To be believed.
use Rattle.std.specs.Prelude.{◌≡◌, ℕ, List, [], ◌∷◌, Option, Some, None, map}
use Rattle.jt_value.specs.declared.refusal.Refusal.{Refusal}
use Rattle.jt_escape.specs.Span.{Event, Events}
use Rattle.jt_escape.specs.Span as event
use Rattle.jt_escape.specs.Scan.{all_events}
use Rattle.jt_header.specs.declared.header.Header.{Header}
use Rattle.jt_header.specs.Content.{Content}
use Rattle.jt_header.specs.Fields.{header_at, body_at}
use Rattle.jt_header.specs.Reason.{reason}

-- the message of a frame, header and body, with the place of the opening flag, or a refusal
pub data Item : Type 0 where
  Frame : ℕ → Header → List ℕ → Item
  Refused : Refusal → Item

-- what is refused in a content, as refused in the frame that opens at this place
abbrev pub refusal_in_frame : ℕ → Refusal → Refusal
refusal_in_frame place refusal = record { at = place; inside = refusal.inside; why = refusal.why }

-- A whole content is a message, or there is a first reason against it, and both stand at the opening flag. What the cut
-- into frames refuses stays refused.
abbrev pub IsItemOf : Event → Item → Type 0
IsItemOf (event.Whole opened content) (Frame place header body) = (place ≡ opened) × Content header body content
IsItemOf (event.Whole opened content) (Refused refusal) =
    (inner : Refusal) × (reason content ≡ Some inner) × (refusal ≡ refusal_in_frame opened inner)
IsItemOf (event.Refused refusal) (Frame place header body) = ⊥
IsItemOf (event.Refused refusal) (Refused same) = same ≡ refusal

-- one item for each event, in order
abbrev pub AreItemsOf : List Event → List Item → Type 0
AreItemsOf [] [] = Unit {0}
AreItemsOf [] (item ∷ items) = ⊥
AreItemsOf (event ∷ events) [] = ⊥
AreItemsOf (event ∷ events) (item ∷ items) = IsItemOf event item × AreItemsOf events items

-- the stream has these items
pub record Items (stream : List ℕ) (items : List Item) : Type 0 where
  pub events : List Event
  pub held : Events stream events
  pub each : AreItemsOf events items

-- what a content with this reason against it, or none, is in the frame that opens at this place
abbrev pub item_at : ℕ → List ℕ → Option Refusal → Item
item_at opened content None = Frame opened (header_at content) (body_at content)
item_at opened content (Some refusal) = Refused (refusal_in_frame opened refusal)

abbrev pub item_of : Event → Item
item_of (event.Whole opened content) = item_at opened content (reason content)
item_of (event.Refused refusal) = Refused refusal

-- the items of a stream, as a function
unfoldable pub all_items : List ℕ → List Item
all_items stream = map item_of (all_events stream)
