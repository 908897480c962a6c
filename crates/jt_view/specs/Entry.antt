-- What is printed of the items of a stream: this project's texts. To be believed. Items and messages are taken as functions
-- of the stream and the body; public laws say that they are the stream's items and the body's message or first reason.
use Rattle.std.specs.Prelude.{ℕ, ◌+◌, List, [], ◌∷◌, length, Option, Some, None, Result, Ok, Err, map}
use Rattle.std.specs.List.{flat_map}
use Rattle.jt_value.specs.declared.refusal.Refusal.{Refusal}
use Rattle.jt_header.specs.declared.header.Header.{Header}
use Rattle.jt_codec.specs.declared.message.Message.{Message}
use Rattle.jt_codec.specs.Parsing.{message_read}
use Rattle.jt_stream.specs.Item.{Item, refusal_in_frame, all_items}
use Rattle.jt_stream.specs.Item as item
use Rattle.jt_text.specs.Frames.{view_line}
use Rattle.jt_text.specs.Refusals.{refusal_line}

-- what a line is printed of: a frame with the place of its opening flag, its header, its message and the octets of its body,
-- or a refusal
pub data Entry : Type 0 where
  Frame : ℕ → Header → Message → ℕ → Entry
  Refused : Refusal → Entry

-- the line of an entry
abbrev pub line_of : Entry → List ℕ
line_of (Frame place header message body_len) = view_line place header message body_len
line_of (Refused refusal) = refusal_line refusal

-- the lines of entries, in order
abbrev pub lines : List Entry → List ℕ
lines entries = flat_map line_of entries

-- a frame's entry, by what its body is read as: its message, or a refusal at its opening flag
abbrev pub frame_entry : ℕ → Header → List ℕ → Result Message Refusal → Entry
frame_entry place header body (Ok message) = Frame place header message (length body)
frame_entry place header body (Err refusal) = Refused (refusal_in_frame place refusal)

-- an item's entry; a refused body is refused with its offset in the content
abbrev pub entry_of : Item → Entry
entry_of (item.Frame place header body) = frame_entry place header body (message_read header.packet header.edition header.id body)
entry_of (item.Refused refusal) = Refused refusal

-- the entries of a stream that may go on
unfoldable pub entries_of : List ℕ → List Entry
entries_of stream = map entry_of (all_items stream)

-- the entry of a stream's end, if it is refused
abbrev pub end_entries : Option Refusal → List Entry
end_entries None = []
end_entries (Some refusal) = Refused refusal ∷ []

-- how many entries are refusals
abbrev pub refusals : List Entry → ℕ
refusals [] = 0
refusals (Frame place header message body_len ∷ entries) = refusals entries
refusals (Refused refusal ∷ entries) = 1 + refusals entries

-- how many entries are frames
abbrev pub frames : List Entry → ℕ
frames [] = 0
frames (Frame place header message body_len ∷ entries) = 1 + frames entries
frames (Refused refusal ∷ entries) = frames entries

-- the first refusal, if there is one
abbrev pub first_refusal : List Entry → Option Refusal
first_refusal [] = None
first_refusal (Frame place header message body_len ∷ entries) = first_refusal entries
first_refusal (Refused refusal ∷ entries) = Some refusal
