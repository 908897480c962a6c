-- What a frame led to, and the octets up to an item. For the proofs.
use Rattle.std.specs.Prelude.{◌≡◌, ◌≤◌, ◌<◌, ◌⊎◌, ℕ, ◌+◌, List, [], ◌∷◌, ◌++◌, Option, None, Some}
use Rattle.std.specs.Option.{option_map}
use Rattle.jt_value.specs.declared.limits.TheConstants.{FRAME_LIMIT}
use Rattle.jt_escape.specs.Scan.{State as Splitting}
use Rattle.jt_header.specs.Content.{IsHeader}
use Rattle.jt_header.specs.Fields.{header_at, body_at}
use Rattle.jt_header.specs.declared.header.Header.{Header}
use Rattle.jt_stream.specs.Unplaced.{Unplaced, Message as Frame}
use Rattle.jt_platform.specs.declared.request.Request.{Request}
use Rattle.jt_session.specs.declared.step.Came.{Came}
use Rattle.jt_session.specs.declared.step.Came.TheVariants.{Quiet, Asks, Memory}
use Rattle.jt_subpacket.specs.Fates.{taken_by}
use Rattle.jt_session.specs.Talk.{State, Turned, asks, frame_said, message_of, one_if, turn_without_request, reads_on, state_at_want, whole_of}
use Rattle.jt_session.specs.Sessions.{counts}
use Rattle.jt_session.specs.Steps.{Brings}
use Rattle.jt_session.specs.Waiting.{message_at}

-- nothing was asked, and the session goes on so
pub record WasAnswered (now : State) (out out_now : List ℕ) (asked : Option Request) (t : Turned) : Type 0 where
  pub none : asked ≡ None
  pub state : now ≡ t.state
  pub wrote : out_now ≡ out ++ frame_said t.says

-- the message with this header asked, and what is kept went on behind the frame
pub record HasMessage (now read : State) (out out_now : List ℕ) (spare : ℕ) (asked : Option Request) (message : Option (Header × List ℕ)) (header : Header) (q : Request) : Type 0 where
  pub asks : asked ≡ Some q
  pub brought : option_map (λ m. m.0) message ≡ Some header
  pub good : IsHeader header
  pub state : now ≡ read
  pub wrote : out_now ≡ out
  pub room : FRAME_LIMIT ≤ spare

-- memory was wanted before anything was asked or written
pub record WantsMemory (now stop : State) (out out_now : List ℕ) : Type 0 where
  pub counted : counts now ≡ counts stop
  pub wrote : out_now ≡ out

-- what a message led to, by what it asks and what is kept behind it, by how the session goes on where it asks nothing, and by what
-- is kept where memory was wanted
abbrev pub CameTo : Option Request → Option (Header × List ℕ) → State → Turned → State → State → List ℕ → List ℕ → ℕ → Came → Type 0
CameTo asked message read t stop now out out_now spare Quiet = WasAnswered now out out_now asked t
CameTo asked message read t stop now out out_now spare (Asks header q) = HasMessage now read out out_now spare asked message header q
CameTo asked message read t stop now out out_now spare Memory = WantsMemory now stop out out_now

-- the message that a packet makes whole
abbrev pub whole_message : State → Header → List ℕ → Option (Header × List ℕ)
whole_message s h octets = whole_of h (taken_by s.partial h octets).fate

-- what is kept once the assembler has the packet
abbrev pub takes_in : State → Header → List ℕ → State
takes_in s h octets = record s { partial = (taken_by s.partial h octets).partial; dropped = s.dropped + one_if (taken_by s.partial h octets).dropped }

-- what a frame led to
abbrev pub FrameCame : State → State → Header → List ℕ → List ℕ → List ℕ → ℕ → Came → Type 0
FrameCame old now h octets out out_now spare came =
    CameTo (asks old (Frame h octets)) (message_of old h octets h.packet) (reads_on old h octets h.packet) (turn_without_request old (Frame h octets)) (state_at_want old (Frame h octets)) now out out_now spare came

-- at most one more is counted
pub record IsOneMore (old now : State) : Type 0 where
  pub frames : now.frames ≤ old.frames + 1
  pub refused : now.refused ≤ old.refused + 1
  pub dropped : now.dropped ≤ old.dropped + 1

-- fewer are counted
pub record AreBelow (limit : ℕ) (s : State) : Type 0 where
  pub frames : s.frames < limit
  pub refused : s.refused < limit
  pub dropped : s.dropped < limit

-- an item that asks nothing, or none
pub record WasPassed (stream stream_now : Splitting) (octets : List ℕ) (old now : State) (out out_now : List ℕ) (item : Unplaced) : Type 0 where
  pub brings : Brings stream stream_now octets (item ∷ [])
  pub answered : WasAnswered now out out_now (asks old item) (turn_without_request old item)

pub record WasNothing (stream stream_now : Splitting) (octets : List ℕ) (old now : State) (out out_now : List ℕ) : Type 0 where
  pub brings : Brings stream stream_now octets []
  pub state : now ≡ old
  pub wrote : out_now ≡ out

-- what octets led to that were taken up to an item, or all of them
abbrev pub OctetsCame : Splitting → Splitting → List ℕ → State → State → List ℕ → List ℕ → ℕ → Came → Type 0
OctetsCame stream stream_now octets old now out out_now spare Quiet =
    WasNothing stream stream_now octets old now out out_now
    ⊎ ((item : Unplaced) × WasPassed stream stream_now octets old now out out_now item)
OctetsCame stream stream_now octets old now out out_now spare came =
    Brings stream stream_now octets (message_at stream_now.content ∷ [])
    × FrameCame old now (header_at stream_now.content) (body_at stream_now.content) out out_now spare came
