-- What a stream's reader keeps of a message. For the proofs.
use Rattle.std.specs.Prelude.{ℕ, ◌-◌, ◌<◌, List, [], ◌∷◌, length, Option, Some, None, Result, Ok, Err, slice_range}
use Rattle.jt_value.specs.declared.refusal.Refusal.{Refusal}
use Rattle.jt_escape.specs.Scan.{State}
use Rattle.jt_header.specs.declared.header.Header.{Header}
use Rattle.jt_header.specs.Content.{Content}
use Rattle.jt_header.specs.Fields.{header_at, body_at}
use Rattle.jt_header.specs.Reason.{Reads}
use Rattle.jt_stream.specs.declared.stream.Message.{Message}
use Rattle.jt_stream.specs.Item.{Item, Frame, Refused}

-- the octets from here on up to the check octet
abbrev pub body_from : ℕ → List ℕ → List ℕ
body_from start content = slice_range content start (length content - 1)

-- the content is this header and the body that starts here
pub record IsMessage (header : Header) (start : ℕ) (content : List ℕ) : Type 0 where
  pub within : start < length content
  pub message : Content header (body_from start content) content
  pub fields : Reads content header (body_from start content)

-- the items of what an octet completes
abbrev pub completed : Option (Result Message Refusal) → State → List Item
completed None state = []
completed (Some (Ok message)) state = Frame state.opened (header_at state.content) (body_at state.content) ∷ []
completed (Some (Err refusal)) state = Refused refusal ∷ []
