-- What a content is parsed as, as a function. A step for the proofs and for the layers above: the law of frames says that it
-- gives the header and the message, or the first reason.
use Rattle.std.specs.Prelude.{ℕ, false, List, Option, Some, None, Result, Ok, Err}
use Rattle.jt_value.specs.declared.phone.Edition.{Edition}
use Rattle.jt_value.specs.declared.refusal.Refusal.{Refusal}
use Rattle.jt_header.specs.Content.{header_len}
use Rattle.jt_header.specs.Fields.{header_at, body_at}
use Rattle.jt_header.specs.Reason.{reason}
use Rattle.jt_header.specs.declared.header.Packet.{Packet}
use Rattle.jt_header.specs.declared.header.Header.{Header}
use Rattle.jt_codec.specs.Bodies.{body}
use Rattle.jt_codec.specs.Frames.{in_content}
use Rattle.jt_codec.specs.declared.message.Message.{Message}
use Rattle.jt_codec.specs.declared.message.Message.TheVariants.{Part}

-- a body's answer, a refusal's place counted in the content
abbrev pub body_answer : ℕ → Result Message Refusal → Result Message Refusal
body_answer start (Ok message) = Ok message
body_answer start (Err refusal) = Err (in_content start refusal)

-- the message behind a header
abbrev pub message_read : Option Packet → Edition → ℕ → List ℕ → Result Message Refusal
message_read None edition id octets = body_answer (header_len edition false) ((body edition id).read octets 0)
message_read (Some packet) edition id octets = Ok (Part octets)

abbrev pub beside : Header → Result Message Refusal → Result (Header × Message) Refusal
beside h (Ok message) = Ok (h, message)
beside h (Err refusal) = Err refusal

abbrev pub parse_unless : Option Refusal → List ℕ → Result (Header × Message) Refusal
parse_unless (Some refusal) content = Err refusal
parse_unless None content =
    let h = header_at content in
    beside h (message_read h.packet h.edition h.id (body_at content))

-- the header and the message of a content, or the first reason
unfoldable pub parse_of : List ℕ → Result (Header × Message) Refusal
parse_of content = parse_unless (reason content) content
