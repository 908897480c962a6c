-- The laws of requests and answers (this project's own). To be believed.
use Rattle.std.specs.Prelude.{◌≡◌, ◌≢◌, ◌⊎◌, ℕ, ◌<◌, ◌^◌, List, [], length, true, false, Option, None, Some, IfSome}
use Rattle.jt_value.specs.Octets.{AreOctets}
use Rattle.jt_value.specs.Sameness.{key_of}
use Rattle.jt_value.specs.declared.phone.Phone.{Phone}
use Rattle.jt_value.specs.declared.ids.TheConstants.{AUTH, DEREGISTER, PLATFORM_ACK, REGISTER, REGISTER_REPLY, RESEND}
use Rattle.jt_header.specs.Content.{IsHeader}
use Rattle.jt_header.specs.declared.header.Header.{Header}
use Rattle.jt_stream.specs.Unplaced.{Unplaced, Message as Frame}
use Rattle.jt_position.specs.Fixes.{fixes_of}
use Rattle.jt_codec.specs.declared.message.Message.{Message}
use Rattle.jt_codec.specs.declared.message.Message.TheVariants as message
use Rattle.jt_platform.specs.Allowed.{Opening, Allowed, is_trouble}
use Rattle.jt_platform.specs.declared.request.Entry.{Entry}
use Rattle.jt_platform.specs.declared.request.Request.{Request}
use Rattle.jt_platform.specs.declared.request.Request.TheVariants as ask
use Rattle.jt_platform.specs.declared.request.Reply.{Reply}
use Rattle.jt_platform.specs.declared.request.Reply.TheVariants as say
use Rattle.jt_session.specs.Replies.{HasRoomFor}
use Rattle.jt_session.specs.Talk.{State, ack, answer_to, asks, message_of, message_to, turn_without_request, reads_on, turn_at_reply}
use Rattle.jt_session.specs.Law.{IsUnitId, is_stored}

-- ---- what is asked

-- the session has no phone yet, or one of these digits
abbrev pub IsOf : List ℕ → Option Phone → Type 0
IsOf key None = Unit {0}
IsOf key (Some phone) = key_of phone ≡ key

-- an id of none of the messages that ask something of their own
pub record IsOtherId (id : ℕ) : Type 0 where
  pub register : id ≢ REGISTER
  pub auth : id ≢ AUTH
  pub deregister : id ≢ DEREGISTER
  pub unit : IsUnitId id → ⊥

-- what a message of this phone and id may ask: always of its own phone
abbrev pub MayAsk : Phone → ℕ → Request → Type 0
MayAsk own id (ask.Register phone register) = (phone ≡ own) × (id ≡ REGISTER)
MayAsk own id (ask.Auth phone code) = (phone ≡ own) × (id ≡ AUTH)
MayAsk own id (ask.Unit phone serial asked octets) = (phone ≡ own) × (asked ≡ id) × IsUnitId id
MayAsk own id (ask.Deregister phone) = (phone ≡ own) × (id ≡ DEREGISTER)
MayAsk own id (ask.Other phone asked) = (phone ≡ own) × (asked ≡ id) × IsOtherId id
MayAsk own id ask.Close = ⊥

pub record RequestsAre : Type 0 where
  -- a frame asks what a message of its phone and its id may ask, or nothing
  pub may : (s : State) (h : Header) (octets : List ℕ) (m : Header × List ℕ) (q : Request) → IsHeader h → message_of s h octets h.packet ≡ Some m → AreOctets m.1 → asks s (Frame h octets) ≡ Some q → MayAsk h.phone h.id q
  -- a unit in one piece whose body has a fix asks exactly its Unit
  pub unit : (s : State) (h : Header) (octets : List ℕ) → IsOf (key_of h.phone) s.phone → h.packet ≡ None → IsUnitId h.id → fixes_of (h.id, octets) ≢ [] → asks s (Frame h octets) ≡ Some (ask.Unit h.phone h.serial h.id octets)

-- ---- what is written

-- a session of a phone of these digits, or of none yet
pub record IsStateOf (key : List ℕ) (s : State) : Type 0 where
  pub phone : IsOf key s.phone
  pub serial : s.serial < 2 ^ 16

-- what answers a message: of the platform's ids, to its phone, and a frame can have it
pub record IsAnswer (h : Header) (said : Header × List ℕ) : Type 0 where
  pub header : IsHeader said.0
  pub phone : said.0.phone ≡ h.phone
  pub whole : said.0.packet ≡ None
  pub short : length said.1 < 2 ^ 10
  pub id : (said.0.id ≡ PLATFORM_ACK) ⊎ ((said.0.id ≡ REGISTER_REPLY) ⊎ (said.0.id ≡ RESEND))

-- no message that tells a terminal of success
abbrev pub IsNoSuccess : Message → Type 0
IsNoSuccess (message.PlatformAck serial id result) = (result ≢ 0) × (result ≢ 4)
IsNoSuccess (message.RegisterReply r) = r.result ≢ 0
IsNoSuccess (message.Resend r) = Unit {0}
IsNoSuccess other = ⊥

-- it is such a message
abbrev pub SaysNoSuccess : Header × List ℕ → Type 0
SaysNoSuccess said = (s : State) × (h : Header) × (m : Message) × (said ≡ message_to s h m) × IsNoSuccess m

pub record AnswersAre : Type 0 where
  -- a session stays that of the phone
  pub stays_quiet : (s : State) (h : Header) (octets : List ℕ) → IsStateOf (key_of h.phone) s → IsStateOf (key_of h.phone) (turn_without_request s (Frame h octets)).state
  pub stays_told : (s : State) (h : Header) (octets : List ℕ) (r : Reply) → IsStateOf (key_of h.phone) s → IsStateOf (key_of h.phone) (turn_at_reply s (Frame h octets) r).state
  -- each message that is written is one that a frame can have, to the phone of the frame that it answers
  pub said_quiet : (s : State) (h : Header) (octets : List ℕ) → IsHeader h → s.serial < 2 ^ 16 → IfSome (turn_without_request s (Frame h octets)).says (IsAnswer h)
  pub said_told : (s : State) (h : Header) (octets : List ℕ) (r : Reply) → IsHeader h → s.serial < 2 ^ 16 → HasRoomFor r → IfSome (turn_at_reply s (Frame h octets) r).says (IsAnswer h)
  -- where nothing was asked no success is told
  pub no_success : (s : State) (item : Unplaced) → IfSome (turn_without_request s item).says SaysNoSuccess
  -- an accepted authentication is told its acceptance
  pub entered : (s : State) (h : Header) (octets : List ℕ) (m : Header × List ℕ) → message_of s h octets h.packet ≡ Some m → m.0.id ≡ AUTH
      → (turn_at_reply s (Frame h octets) say.Accepted).says ≡ Some (message_to (reads_on s h octets h.packet) m.0 (ack m.0 0))
  -- a message that stands in a row is told its acceptance
  pub stored : (s : State) (h : Header) (octets : List ℕ) (m : Header × List ℕ) (r : Reply) → message_of s h octets h.packet ≡ Some m → is_stored r ≡ true
      → (turn_at_reply s (Frame h octets) r).says ≡ Some (message_to (reads_on s h octets h.packet) m.0 (ack m.0 0))
  -- an acceptance names the message, and a unit is told one at no other reply
  pub named : (h : Header) (r : Reply) (serial id result : ℕ) → answer_to h r ≡ Some (message.PlatformAck serial id result) → (serial ≡ h.serial) × (id ≡ h.id)
  pub unit_alone : (h : Header) (r : Reply) (serial id result : ℕ) → IsUnitId h.id → answer_to h r ≡ Some (message.PlatformAck serial id result) → (result ≡ 0) ⊎ (result ≡ 4) → is_stored r ≡ true
  -- Of the replies that a history allows to an authentication, and of faults and want of memory, it is told one at Accepted alone. At
  -- any reply at all it is told one at no other but those to a unit that stands in a row, which no history allows to it.
  pub auth_alone : (o : Opening) (past : List Entry) (session : ℕ) (phone : Phone) (code : List ℕ) (h : Header) (r : Reply) (serial id result : ℕ) → h.id ≡ AUTH → (is_trouble r ≡ false → Allowed o past session (ask.Auth phone code) r)
      → answer_to h r ≡ Some (message.PlatformAck serial id result) → (result ≡ 0) ⊎ (result ≡ 4) → r ≡ say.Accepted
  pub auth_unstored : (h : Header) (r : Reply) (serial id result : ℕ) → h.id ≡ AUTH → is_stored r ≡ false → answer_to h r ≡ Some (message.PlatformAck serial id result) → (result ≡ 0) ⊎ (result ≡ 4) → r ≡ say.Accepted
