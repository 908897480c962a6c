-- The headers and frames of orders and of their answers (this project's own). To be believed.
use Rattle.std.specs.Prelude.{ℕ, List, [], ◌∷◌, Option, Some, None, false}
use Rattle.jt_value.specs.Serials.{serial_of}
use Rattle.jt_value.specs.declared.ids.TheConstants.{TERMINAL_ACK}
use Rattle.jt_header.specs.declared.header.Header.{Header}
use Rattle.jt_stream.specs.Unplaced.{Unplaced, Message as Frame, Fault}
use Rattle.jt_codec.specs.Bodies.{body_octets}
use Rattle.jt_codec.specs.declared.message.Message.TheVariants.{TerminalAck}
use Rattle.jt_terminal_rule.specs.Messages.{frame_of}
use Rattle.jt_order.specs.Orders.{OrderOf}

-- The header of the order of a place, on a session whose first frame had this one: edition, version and phone are those of that frame, the
-- serial is that of the place, and bit 15 is clear.
abbrev pub order_header : Header → ℕ → OrderOf → Header
order_header first place order =
    record { edition = first.edition; id = order.id; bit15 = false; version = first.version; phone = first.phone; serial = serial_of place; packet = None }

-- The header of the answer to an order that has this one: edition, version, phone and serial are the order's, and bit 15 is clear.
abbrev pub answer_header : Header → Header
answer_header h = record { edition = h.edition; id = TERMINAL_ACK; bit15 = false; version = h.version; phone = h.phone; serial = h.serial; packet = None }

-- the frame of the order of a place, on a session whose first frame had this header
abbrev pub order_frame : Header → ℕ → OrderOf → List ℕ
order_frame first place order = frame_of (order_header first place order) order.body

-- the frame of the answer with this result to an order that has this header
abbrev pub answer_frame : Header → ℕ → List ℕ
answer_frame h result = frame_of (answer_header h) (body_octets h.edition (TerminalAck h.serial h.id result))

-- the header of the first frame among these items
abbrev pub first_header : List Unplaced → Option Header
first_header [] = None
first_header (Fault place why ∷ more) = first_header more
first_header (Frame h octets ∷ more) = Some h
