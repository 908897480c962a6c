-- What a session makes of what it reads, turn by turn (this project's own). To be believed.
use Rattle.std.specs.Prelude.{◌≡◌, ◌⊎◌, ℕ, ◌+◌, ◌%◌, ◌==◌, ◌||◌, Bool, true, false, if◌then◌else◌, List, [], ◌∷◌, ◌++◌, Option, None, Some, Result, Ok, Err}
use Rattle.std.specs.Option.{unwrap_or}
use Rattle.jt_value.specs.Sameness.{key_of, same_key}
use Rattle.jt_value.specs.declared.phone.Phone.{Phone}
use Rattle.jt_value.specs.declared.phone.Edition.{Edition}
use Rattle.jt_value.specs.declared.phone.Edition.TheVariants.{E2013, E2019}
use Rattle.jt_value.specs.declared.refusal.Refusal.{Refusal}
use Rattle.jt_value.specs.declared.ids.TheConstants.{AUTH, DEREGISTER, HEARTBEAT, PARAMS, POSITION_REPLY, REGISTER, TERMINAL_ACK}
use Rattle.jt_escape.specs.Frame.{framed}
use Rattle.jt_header.specs.Content.{content_of}
use Rattle.jt_header.specs.declared.header.Header.{Header}
use Rattle.jt_header.specs.declared.header.Packet.{Packet}
use Rattle.jt_stream.specs.Unplaced.{Unplaced, Message as Frame, Fault, items}
use Rattle.jt_codec.specs.Bodies.{body, body_octets, id_of}
use Rattle.jt_codec.specs.declared.message.Message.{Message}
use Rattle.jt_codec.specs.declared.message.Message.TheVariants as message
use Rattle.jt_subpacket.specs.Partials.{Partial}
use Rattle.jt_subpacket.specs.Fates.{taken_by}
use Rattle.jt_subpacket.specs.declared.key.PartKey.{PartKey}
use Rattle.jt_subpacket.specs.declared.taken.Fate.{Fate}
use Rattle.jt_subpacket.specs.declared.taken.Fate.TheVariants.{TooMany, Whole, Resend, Repeat, Kept}
use Rattle.jt_platform.specs.Allowed.{makes_entry}
use Rattle.jt_platform.specs.declared.request.Request.{Request}
use Rattle.jt_platform.specs.declared.request.Request.TheVariants as ask
use Rattle.jt_platform.specs.declared.request.Reply.{Reply}
use Rattle.jt_platform.specs.declared.request.Reply.TheVariants as say

-- What a session keeps between items: its phone, that of the first frame it read; the messages of which packets came; the serial of
-- the next frame it writes; and how many frames, refused items and bodies, and dropped partial messages were among the items so far.
pub record State : Type 0 where
  pub phone : Option Phone
  pub partial : List Partial
  pub serial : ℕ
  pub frames : ℕ
  pub refused : ℕ
  pub dropped : ℕ

abbrev pub start : State
start = record { phone = None; partial = []; serial = 0; frames = 0; refused = 0; dropped = 0 }

-- ---- what is asked

-- a frame is of the session's own phone where it is the first one, or has the same digits
abbrev pub is_own : Option Phone → Phone → Bool
is_own None phone = true
is_own (Some own) phone = same_key (key_of own) (key_of phone)

-- The message that a packet makes whole, if it does: it has the id and the serial that the assembler tells, no packet fields, and all
-- else of the packet that completed it.
abbrev pub whole_of : Header → Fate → Option (Header × List ℕ)
whole_of h (Whole id serial octets) = Some (record h { id = id; serial = serial; packet = None }, octets)
whole_of h fate = None

-- the message that a frame brings: its own without packet fields, and with them the one that it makes whole
abbrev pub message_of : State → Header → List ℕ → Option Packet → Option (Header × List ℕ)
message_of s h octets None = Some (h, octets)
message_of s h octets (Some packet) = whole_of h (taken_by s.partial h octets).fate

-- the request of a message that was read
abbrev pub request_of : Header → List ℕ → Message → Request
request_of h octets (message.Register register) = ask.Register h.phone register
request_of h octets (message.Auth auth) = ask.Auth h.phone auth.code
request_of h octets (message.Position position) = ask.Unit h.phone h.serial h.id octets
request_of h octets (message.Batch batch) = ask.Unit h.phone h.serial h.id octets
request_of h octets message.Deregister = ask.Deregister h.phone
request_of h octets other = ask.Other h.phone h.id

abbrev pub request_read : Header × List ℕ → Result Message Refusal → Option Request
request_read m (Ok read) = Some (request_of m.0 m.1 read)
request_read m (Err refusal) = None

-- a message whose body is refused asks nothing
abbrev pub asked_by : Option (Header × List ℕ) → Option Request
asked_by None = None
asked_by (Some m) = request_read m ((body m.0.edition m.0.id).read m.1 0)

-- the request that an item makes, if it makes one
abbrev pub asks : State → Unplaced → Option Request
asks s (Fault place why) = None
asks s (Frame h octets) = if is_own s.phone h.phone then asked_by (message_of s h octets h.packet) else None

-- ---- what is written

-- the next state, and the message that is written, if one is
pub record Turned : Type 0 where
  pub state : State
  pub says : Option (Header × List ℕ)

-- a message that is written has the session's own serial, the edition, version and phone of the message answered, and bit 15 clear
abbrev pub header_to : State → Header → ℕ → Header
header_to s h id = record { edition = h.edition; id = id; bit15 = false; version = h.version; phone = h.phone; serial = s.serial; packet = None }

abbrev pub message_to : State → Header → Message → Header × List ℕ
message_to s h said = (header_to s h (unwrap_or (id_of said) 0), body_octets h.edition said)

-- what is written after an item, and then the next serial is one higher
abbrev pub saying : State → Header → Option Message → Turned
saying s h None = record { state = s; says = None }
saying s h (Some said) = record { state = record s { serial = (s.serial + 1) % 65536 }; says = Some (message_to s h said) }

-- the general response that names the message
abbrev pub ack : Header → ℕ → Message
ack h result = message.PlatformAck h.serial h.id result

-- the count of the numbers has two octets in 2019
abbrev pub is_wide : Edition → Bool
is_wide E2013 = false
is_wide E2019 = true

abbrev pub first_phone : Option Phone → Phone → Option Phone
first_phone None phone = Some phone
first_phone (Some own) phone = Some own

abbrev pub one_if : Option PartKey → ℕ
one_if None = 0
one_if (Some dropped) = 1

-- the state behind a frame of the session's own phone: a packet went to the assembler, and a partial message that it dropped is counted
abbrev pub reads_on : State → Header → List ℕ → Option Packet → State
reads_on s h octets None = record s { phone = first_phone s.phone h.phone; frames = s.frames + 1 }
reads_on s h octets (Some packet) =
    let taken = taken_by s.partial h octets in
    record s { phone = first_phone s.phone h.phone; partial = taken.partial; frames = s.frames + 1; dropped = s.dropped + one_if taken.dropped }

-- a message whose body is refused is counted, and answered with result 2
abbrev pub refuses : State → Header → Turned
refuses s h = saying (record s { refused = s.refused + 1 }) h (Some (ack h 2))

-- A packet of too many is answered with result 2. The last packet of a message that lacks others is answered by the numbers that lack.
-- One that is kept, or came before, is answered with nothing.
abbrev pub answers_packet : State → Header → Fate → Turned
answers_packet s h (TooMany total) = saying s h (Some (ack h 2))
answers_packet s h (Whole id serial octets) = refuses s (record h { id = id; serial = serial; packet = None })
answers_packet s h (Resend first missing) = saying s h (Some (message.Resend (record { first = first; wide = is_wide h.edition; numbers = missing })))
answers_packet s h Repeat = saying s h None
answers_packet s h Kept = saying s h None

abbrev pub own_turn_without_request : State → Header → List ℕ → Option Packet → Turned
own_turn_without_request s h octets None = refuses (reads_on s h octets None) h
own_turn_without_request s h octets (Some packet) = answers_packet (reads_on s h octets (Some packet)) h (taken_by s.partial h octets).fate

-- where an item asks nothing: a refused item is counted and answered with nothing, a frame of another phone is answered with result 1
abbrev pub turn_without_request : State → Unplaced → Turned
turn_without_request s (Fault place why) = record { state = record s { refused = s.refused + 1 }; says = None }
turn_without_request s (Frame h octets) =
    if is_own s.phone h.phone then own_turn_without_request s h octets h.packet
    else saying (record s { frames = s.frames + 1 }) h (Some (ack h 1))

-- the ids of messages that the terminal answers with, which are not answered themselves
abbrev pub is_answer : ℕ → Bool
is_answer id = (id == TERMINAL_ACK) || (id == PARAMS) || (id == POSITION_REPLY)

-- the result that an accepted message is answered with: 3 where the platform does nothing with messages of the id
abbrev pub accepted_result : ℕ → ℕ
accepted_result id = if (id == AUTH) || (id == DEREGISTER) || (id == HEARTBEAT) then 0 else 3

abbrev pub register_reply : Header → ℕ → List ℕ → Message
register_reply h result code = message.RegisterReply (record { reply = h.serial; result = result; code = code })

-- what is written at a reply to the message's request
abbrev pub answer_to : Header → Reply → Option Message
answer_to h (say.Registered code) = Some (register_reply h 0 code)
answer_to h (say.Denied n) = Some (if h.id == REGISTER then register_reply h n [] else ack h 1)
answer_to h say.Accepted = if is_answer h.id then None else Some (ack h (accepted_result h.id))
answer_to h (say.Stored n) = Some (ack h 0)
answer_to h (say.Repeat n) = Some (ack h 0)
answer_to h (say.Renumbered n) = Some (ack h 0)
answer_to h say.NotLive = if is_answer h.id then None else Some (ack h 1)
answer_to h (say.Fenced other) = Some (ack h 1)
answer_to h (say.ListFull l) = None
answer_to h say.StoreFault = None
answer_to h say.Memory = None

abbrev pub answers : State → Option (Header × List ℕ) → Reply → Turned
answers s None reply = record { state = s; says = None }
answers s (Some m) reply = saying s m.0 (answer_to m.0 reply)

-- where an item asked and was replied to so
abbrev pub turn_at_reply : State → Unplaced → Reply → Turned
turn_at_reply s (Fault place why) reply = record { state = s; says = None }
turn_at_reply s (Frame h octets) reply = answers (reads_on s h octets h.packet) (message_of s h octets h.packet) reply

-- a frame at which memory was wanted counts among the frames alone
abbrev pub state_at_want : State → Unplaced → State
state_at_want s (Fault place why) = s
state_at_want s (Frame h octets) = record s { frames = s.frames + 1 }

-- ---- turns

-- How a session goes on at an item: on, with the reply where it asked; or it stops there, by this reply, or where memory was wanted
-- before it asked or wrote.
pub data Way : Type 0 where
  Goes : Option Reply → Way
  Stops : Option Reply → Way

pub record Turn : Type 0 where
  pub item : Unplaced
  pub way : Way

-- what a session did: requests with their replies, newest first, and the octets written
pub record Talked : Type 0 where
  pub state : State
  pub entries : List (Request × Reply)
  pub written : List ℕ
  pub over : Bool

abbrev pub is_fenced : Reply → Bool
is_fenced (say.Fenced other) = true
is_fenced reply = false

abbrev pub frame_said : Option (Header × List ℕ) → List ℕ
frame_said None = []
frame_said (Some m) = framed (content_of m.0 m.1)

abbrev pub talk_after_turn : Talked → Turned → List (Request × Reply) → Bool → Talked
talk_after_turn k t gained over = record { state = t.state; entries = gained ++ k.entries; written = k.written ++ frame_said t.says; over = over }

-- after Fenced, which is answered first, the session is over, and after a reply that makes no entry, which is not answered
abbrev pub turn_on : Talked → Unplaced → Option Request → Way → Talked
turn_on k item None (Goes None) = talk_after_turn k (turn_without_request k.state item) [] false
turn_on k item (Some q) (Goes (Some r)) = talk_after_turn k (turn_at_reply k.state item r) ((q, r) ∷ []) (is_fenced r)
turn_on k item (Some q) (Stops (Some r)) = talk_after_turn k (turn_at_reply k.state item r) [] true
turn_on k item asked (Stops None) = record k { state = state_at_want k.state item; over = true }
turn_on k item asked way = k

-- newest turn first
abbrev pub talk_from : Talked → List Turn → Talked
talk_from k [] = k
talk_from k (t ∷ older) = turn_on (talk_from k older) t.item (asks (talk_from k older).state t.item) t.way

abbrev pub at_state : State → Talked
at_state s = record { state = s; entries = []; written = []; over = false }

abbrev pub is_frame : Unplaced → Bool
is_frame (Fault place why) = false
is_frame (Frame h octets) = true

-- A request is gone on from by a reply that makes an entry, and an item without one by none. A session stops at a request by a reply
-- that makes none, and at a frame where memory was wanted.
abbrev pub IsReplied : Unplaced → Option Request → Way → Type 0
IsReplied item None (Goes None) = Unit {0}
IsReplied item None (Goes (Some r)) = ⊥
IsReplied item None (Stops None) = is_frame item ≡ true
IsReplied item None (Stops (Some r)) = ⊥
IsReplied item (Some q) (Goes None) = ⊥
IsReplied item (Some q) (Goes (Some r)) = makes_entry r ≡ true
IsReplied item (Some q) (Stops None) = is_frame item ≡ true
IsReplied item (Some q) (Stops (Some r)) = makes_entry r ≡ false

-- each turn goes on where the one before it left off, and none stands behind the session's end
abbrev pub FitsFrom : Talked → List Turn → Type 0
FitsFrom k [] = Unit {0}
FitsFrom k (t ∷ older) =
    ((talk_from k older).over ≡ false) × IsReplied t.item (asks (talk_from k older).state t.item) t.way × FitsFrom k older

-- the items of the turns, oldest first
abbrev pub items_of : List Turn → List Unplaced
items_of [] = []
items_of (t ∷ older) = items_of older ++ t.item ∷ []

-- A session that read these octets asked and was replied to so, newest first, and wrote these: it went through all items of what it
-- read, or up to its end.
pub record Talk (read : List ℕ) (entries : List (Request × Reply)) (written : List ℕ) : Type 0 where
  pub turns : List Turn
  pub fits : FitsFrom (at_state start) turns
  pub rest : List Unplaced
  pub items : items read ≡ items_of turns ++ rest
  pub all : (rest ≡ []) ⊎ ((talk_from (at_state start) turns).over ≡ true)
  pub entries_are : entries ≡ (talk_from (at_state start) turns).entries
  pub written_are : written ≡ (talk_from (at_state start) turns).written
