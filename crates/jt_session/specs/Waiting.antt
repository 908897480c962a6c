-- What a session keeps of the item whose request waits. For the proofs, but for `state_of` and `waiting_of`, which are to be believed:
-- they say what a session shows of its state, and of the item that waits.
use Rattle.std.specs.Prelude.{◌≡◌, ℕ, ◌≤◌, List, Bool, IsTrue, true, is_some, if◌then◌else◌, Option, None, Some}
use Rattle.std.specs.Option.{option_map}
use Rattle.jt_header.specs.Content.{IsHeader}
use Rattle.jt_header.specs.Fields.{header_at, body_at}
use Rattle.jt_header.specs.declared.header.Header.{Header}
use Rattle.jt_stream.specs.Unplaced.{Unplaced, Message}
use Rattle.jt_platform.specs.Allowed.{makes_entry}
use Rattle.jt_platform.specs.declared.request.Reply.{Reply}
use Rattle.jt_session.specs.Talk.{State, asks, is_fenced, message_of, reads_on}

abbrev pub message_at : List ℕ → Unplaced
message_at content = Message (header_at content) (body_at content)

-- the item whose request waits is the stream's last frame
abbrev pub waiting_of : Option Header → List ℕ → Option Unplaced
waiting_of None content = None
waiting_of (Some header) content = Some (message_at content)

-- the state before the item
abbrev pub state_of : Option Header → State → State → State
state_of None kept before = kept
state_of (Some header) kept before = before

-- What is kept went on behind the frame, and the header is that of the message that it brought, which asks.
pub record AsksFor (header : Header) (kept before : State) (h : Header) (octets : List ℕ) : Type 0 where
  pub good : IsHeader header
  pub kept_is : kept ≡ reads_on before h octets h.packet
  pub message : option_map (λ m. m.0) (message_of before h octets h.packet) ≡ Some header
  pub asked : IsTrue (is_some (asks before (Message h octets)))

abbrev pub Waits : Option Header → State → State → List ℕ → Type 0
Waits None kept before content = Unit {0}
Waits (Some header) kept before content = AsksFor header kept before (header_at content) (body_at content)

-- no more items are counted than octets were taken
pub record AreFew (kept : State) (place : ℕ) : Type 0 where
  pub frames : kept.frames ≤ place
  pub refused : kept.refused ≤ place
  pub dropped : kept.dropped ≤ place

-- whether the session is over by a reply
abbrev pub ends_by : Reply → Bool
ends_by r = if makes_entry r then is_fenced r else true
