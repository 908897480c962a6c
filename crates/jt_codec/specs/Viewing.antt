-- Messages that are read in place. To be believed.
use Rattle.std.specs.Prelude.{ℕ, Bool, ◌==◌, ◌||◌, ◌⊎◌, List, Option, Some, None, IsTrue}
use Rattle.jt_value.specs.declared.phone.Edition.{Edition}
use Rattle.jt_value.specs.declared.ids.TheConstants.{BATCH, CONTROL, DEREGISTER, HEARTBEAT, PLATFORM_ACK, POSITION, QUERY_PARAMS, QUERY_POSITION, TERMINAL_ACK, TEXT, TRACK}
use Rattle.jt_header.specs.declared.header.Packet.{Packet}
use Rattle.jt_position.specs.BatchViews.{position_in_view}
use Rattle.jt_codec.specs.Bodies.{body}
use Rattle.jt_codec.specs.declared.message.Message.{Message}
use Rattle.jt_codec.specs.declared.message.Message.TheVariants as message
use Rattle.jt_codec.specs.declared.viewing.MessageView.{MessageView}
use Rattle.jt_codec.specs.declared.viewing.MessageView.TheVariants as view

-- the ids of messages without fields: heartbeats, a registration given up, questions for all parameters and for the position
abbrev pub is_empty : ℕ → Bool
is_empty id = (id == HEARTBEAT) || (id == DEREGISTER) || (id == QUERY_PARAMS) || (id == QUERY_POSITION)

-- the ids of general responses, orders to track, texts and orders
abbrev pub is_flat : ℕ → Bool
is_flat id = (id == TERMINAL_ACK) || (id == PLATFORM_ACK) || (id == TRACK) || (id == TEXT) || (id == CONTROL)

-- the ids of these, positions and batches, whose messages have a view each
abbrev pub has_view : ℕ → Bool
has_view id = is_empty id || is_flat id || (id == POSITION) || (id == BATCH)

-- one of these messages, or octets under an id without a row of the edition, which are kept unread
abbrev pub IsReadInPlace : Edition → ℕ → List ℕ → Type 0
IsReadInPlace edition id octets = IsTrue (has_view id) ⊎ (body edition id).Fits (message.Opaque id octets)

-- what `view_message` has a view of: the messages of `IsReadInPlace`, and every packet, whose body is kept unread
abbrev pub IsViewed : Option Packet → Edition → ℕ → List ℕ → Type 0
IsViewed None edition id octets = IsReadInPlace edition id octets
IsViewed (Some packet) edition id octets = Unit {0}

-- the message that a view is of
abbrev pub message_in_view : MessageView → Message
message_in_view view.Heartbeat = message.Heartbeat
message_in_view (view.TerminalAck reply id result) = message.TerminalAck reply id result
message_in_view (view.PlatformAck reply id result) = message.PlatformAck reply id result
message_in_view view.Deregister = message.Deregister
message_in_view view.QueryParams = message.QueryParams
message_in_view view.QueryPosition = message.QueryPosition
message_in_view (view.Track interval validity) = message.Track interval validity
message_in_view (view.Text flag kind text) = message.Text flag kind text.now
message_in_view (view.Control command text) = message.Control command text.now
message_in_view (view.Position position) = message.Position (position_in_view position)
message_in_view (view.Batch batch) = message.Batch (record { kind = batch.kind; fixes = batch.fixes })
message_in_view (view.Opaque id body) = message.Opaque id body.now
message_in_view (view.Part octets) = message.Part octets.now
