-- The items of a stream without their places, as a function of the stream. Nothing here needs to be believed: it is the
-- public law of items that these are the stream's items.
use Rattle.std.specs.Prelude.{ℕ, List, map, Option, Some, None}
use Rattle.jt_value.specs.declared.refusal.Why.{Why}
use Rattle.jt_value.specs.declared.refusal.Refusal.{Refusal}
use Rattle.jt_escape.specs.Span.{Event, Whole, Refused}
use Rattle.jt_escape.specs.Scan.{all_events}
use Rattle.jt_header.specs.declared.header.Header.{Header}
use Rattle.jt_header.specs.Fields.{header_at, body_at}
use Rattle.jt_header.specs.Reason.{reason}
use Rattle.jt_stream.specs.Item.{Item}
use Rattle.jt_stream.specs.Item as item

-- a header and a body, or a reason with its offset in the content
pub data Unplaced : Type 0 where
  Message : Header → List ℕ → Unplaced
  Fault : ℕ → Why → Unplaced

abbrev pub fault : Refusal → Unplaced
fault refusal = Fault refusal.inside refusal.why

-- an item without its place
abbrev pub unplaced : Item → Unplaced
unplaced (item.Frame place header body) = Message header body
unplaced (item.Refused refusal) = fault refusal

abbrev pub content_item : List ℕ → Option Refusal → Unplaced
content_item content None = Message (header_at content) (body_at content)
content_item content (Some refusal) = fault refusal

-- what a content is: a message, or the first reason against it
abbrev pub of_content : List ℕ → Unplaced
of_content content = content_item content (reason content)

abbrev pub of_event : Event → Unplaced
of_event (Whole opened content) = of_content content
of_event (Refused refusal) = fault refusal

-- the items of a stream
abbrev pub items : List ℕ → List Unplaced
items stream = map of_event (all_events stream)
