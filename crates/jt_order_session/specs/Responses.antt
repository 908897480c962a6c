-- General responses that frames are (the standard's message). To be believed.
use Rattle.std.specs.Prelude.{ℕ, ◌==◌, ◌&&◌, is_none, List, Option, None, Some, Result, Ok, Err, if◌then◌else◌}
use Rattle.jt_value.specs.declared.ids.TheConstants.{TERMINAL_ACK}
use Rattle.jt_value.specs.declared.refusal.Refusal.{Refusal}
use Rattle.jt_header.specs.declared.header.Header.{Header}
use Rattle.jt_codec.specs.Bodies.{body}
use Rattle.jt_codec.specs.declared.message.Message.{Message}
use Rattle.jt_codec.specs.declared.message.Message.TheVariants as message
use Rattle.jt_order_session.specs.declared.response.Response.{Response}

-- the general response that a body reads as, if it is one
abbrev pub response_read : Result Message Refusal → Option Response
response_read (Ok (message.TerminalAck reply id result)) = Some (record { reply = reply; id = id; result = result })
response_read (Ok other) = None
response_read (Err refusal) = None

-- the general response that a frame is, if it is one in one piece
abbrev pub response_in : Header → List ℕ → Option Response
response_in h octets = if is_none h.packet && (h.id == TERMINAL_ACK) then response_read ((body h.edition h.id).read octets 0) else None
