-- What an item of its line is to an order terminal (this project's own). To be believed.
use Rattle.std.specs.Prelude.{ℕ, List, Option, None, Some, Result, Ok, Err, if◌then◌else◌}
use Rattle.jt_value.specs.declared.refusal.Refusal.{Refusal}
use Rattle.jt_header.specs.declared.header.Header.{Header}
use Rattle.jt_header.specs.declared.header.Packet.{Packet}
use Rattle.jt_stream.specs.Unplaced.{Unplaced, Message as Frame, Fault}
use Rattle.jt_codec.specs.Bodies.{body}
use Rattle.jt_codec.specs.declared.message.Message.{Message}
use Rattle.jt_order.specs.Orders.{is_order_id}

-- an order, another message, or nothing: a packet, a refused body and a refused item are passed over
pub data Heard : Type 0 where
  Ordered : Header → List ℕ → Message → Heard
  Other : Header → Message → Heard
  Nothing : Heard

abbrev pub heard_read : Header → List ℕ → Result Message Refusal → Heard
heard_read h octets (Ok m) = if is_order_id h.id then Ordered h octets m else Other h m
heard_read h octets (Err refusal) = Nothing

abbrev pub heard_in : Header → List ℕ → Option Packet → Heard
heard_in h octets None = heard_read h octets ((body h.edition h.id).read octets 0)
heard_in h octets (Some packet) = Nothing

abbrev pub heard_at : Unplaced → Heard
heard_at (Fault place why) = Nothing
heard_at (Frame h octets) = heard_in h octets h.packet
