-- What a session does at one item, as an event of the world of orders (this project's own). To be believed.
use Rattle.std.specs.Prelude.{◌≡◌, ◌↔◌, ℕ, ◌<◌, ◌^◌, List, [], ◌∷◌, length, Contains, true, false, Option, None, Some, Ok}
use Rattle.jt_value.specs.Serials.{serial_of}
use Rattle.jt_value.specs.Sameness.{key_of}
use Rattle.jt_value.specs.declared.ids.TheConstants.{TERMINAL_ACK}
use Rattle.jt_header.specs.declared.header.Header.{Header}
use Rattle.jt_stream.specs.Unplaced.{Unplaced, Message as Frame, Fault}
use Rattle.jt_codec.specs.Bodies.{body, body_octets}
use Rattle.jt_codec.specs.declared.message.Message.TheVariants.{TerminalAck}
use Rattle.jt_platform.specs.declared.request.Request.{Request}
use Rattle.jt_platform.specs.declared.request.Reply.{Reply}
use Rattle.jt_platform.specs.declared.request.Reply.TheVariants as say
use Rattle.jt_platform.specs.Allowed.{Allowed}
use Rattle.jt_session.specs.Talk.{State, Way, Goes, asks, is_own, turn_without_request, turn_at_reply, IsReplied}
use Rattle.jt_order.specs.Orders.{is_order_id}
use Rattle.jt_obeying.specs.Orders.{order_at}
use Rattle.jt_obeying.specs.World.{Up, Answer, OtherMessage, Down, OtherAnswer, OrderWorld, opening}
use Rattle.jt_obeying.specs.Steps.{Outcome, Answered, Quiet, Stopped, Telling, Takes, IsRequest, MayTake, AnswersOldest, MayTell, May}
use Rattle.jt_order_turns.specs.Headers.{order_header, answer_header}

-- ---- a session writes no order by itself

-- the message is no order, or none is written
abbrev pub IsNoOrder : Option (Header × List ℕ) → Type 0
IsNoOrder None = Unit {0}
IsNoOrder (Some m) = is_order_id m.0.id ≡ false

-- what a session writes is none, whether the item asked nothing or was replied to
pub record WritesNoOrder : Type 0 where
  pub without_request : (s : State) (item : Unplaced) → IsNoOrder (turn_without_request s item).says
  pub at_reply : (s : State) (item : Unplaced) (reply : Reply) → IsNoOrder (turn_at_reply s item reply).says

-- ---- what a message is in octets

-- the frame is a general response in one piece, with these fields
pub record IsResponse (h : Header) (octets : List ℕ) (reply id result : ℕ) : Type 0 where
  pub whole : h.packet ≡ None
  pub response : h.id ≡ TERMINAL_ACK
  pub read : (body h.edition h.id).read octets 0 ≡ Ok (TerminalAck reply id result)

-- the frame is a general response of the phone that names the order of this place, with this result
pub record IsAnswer (w : OrderWorld) (s : State) (place result : ℕ) (h : Header) (octets : List ℕ) : Type 0 where
  pub own : is_own s.phone h.phone ≡ true
  pub key : key_of h.phone ≡ w.key
  pub response : IsResponse h octets (serial_of place) (order_at w.issued place).id result

-- an item that is a general response in one piece names no order
abbrev pub NamesNoOrder : Unplaced → Type 0
NamesNoOrder (Fault octet why) = Unit {0}
NamesNoOrder (Frame h octets) = (reply id result : ℕ) → IsResponse h octets reply id result → is_order_id id ≡ false

-- The item is this message, for a session in this state. Any other message asks nothing, or what such a message may ask: nothing of another
-- phone, no Deregister and no Close.
abbrev pub Carries : OrderWorld → State → Up → Unplaced → Type 0
Carries w s (Answer place result) (Frame h octets) = IsAnswer w s place result h octets
Carries w s (Answer place result) (Fault octet why) = ⊥
Carries w s OtherMessage item = NamesNoOrder item × ((q : Request) → asks s item ≡ Some q → IsRequest w.key OtherMessage q)

-- the answer to the order of a place, as an order terminal writes it, is that message
abbrev pub AnswersAreCarried : Type 0
AnswersAreCarried = (w : OrderWorld) (s : State) (first : Header) (place result : ℕ) → let order = order_at w.issued place in order.id < 2 ^ 16 → result < 2 ^ 8
    → is_own s.phone first.phone ≡ true → key_of first.phone ≡ w.key
    → Carries w s (Answer place result) (Frame (answer_header (order_header first place order)) (body_octets first.edition (TerminalAck (serial_of place) order.id result)))

-- a general response that a terminal writes to a message that is no order names none
abbrev pub ResponsesNameNoOrder : Type 0
ResponsesNameNoOrder = (h : Header) (reply id result : ℕ) → reply < 2 ^ 16 → id < 2 ^ 16 → result < 2 ^ 8 → is_order_id id ≡ false
    → NamesNoOrder (Frame h (body_octets h.edition (TerminalAck reply id result)))

-- ---- a turn as an outcome

-- what a session writes, as a message of the world
abbrev pub as_answers : Option (Header × List ℕ) → List Down
as_answers None = []
as_answers (Some m) = OtherAnswer ∷ []

-- how a session goes on at an item that asks this
abbrev pub outcome_of : State → Unplaced → Option Request → Way → Outcome
outcome_of s item (Some q) (Goes (Some r)) = Answered q r (as_answers (turn_at_reply s item r).says)
outcome_of s item None (Goes None) = Quiet (as_answers (turn_without_request s item).says)
outcome_of s item asked way = Stopped

-- a reply with which the session goes on is allowed
abbrev pub IsAllowedTo : OrderWorld → ℕ → Option Request → Way → Type 0
IsAllowedTo w number (Some q) (Goes (Some r)) = Allowed (opening w) w.history number q r
IsAllowedTo w number asked way = Unit {0}

-- a turn of a session that takes the next message of its line is an event that may come
abbrev pub TurnsAreSteps : Type 0
TurnsAreSteps = (w : OrderWorld) (number : ℕ) (message : Up) (rest : List Up) (s : State) (item : Unplaced) (way : Way) (telling : Telling)
    → MayTake w number message rest → Carries w s message item → IsReplied item (asks s item) way → IsAllowedTo w number (asks s item) way
    → let outcome = outcome_of s item (asks s item) way in
    MayTell w number message outcome telling → May w (Takes number message rest outcome telling)

-- ---- of which frames the book is told

-- the frame names the oldest order that is not answered, which was sent on this line, and its result is this
pub record NamesOldestOrder (w : OrderWorld) (number : ℕ) (h : Header) (octets : List ℕ) (result : ℕ) : Type 0 where
  pub waits : length w.results < length w.issued
  pub response : IsResponse h octets (serial_of (length w.results)) (order_at w.issued (length w.results)).id result
  pub sent : Contains (w.lines number).sent (length w.results)

-- the reply is Accepted, and the frame names the oldest order so
abbrev pub TellsOf : OrderWorld → ℕ → Header → List ℕ → Reply → Type 0
TellsOf w number h octets reply = (reply ≡ say.Accepted) × ((result : ℕ) × NamesOldestOrder w number h octets result)

-- Where the oldest order that is not answered, if there is one, has an id of orders: the book is told of a message exactly where its frame
-- tells of it so; and the result is the frame's.
pub record AnswersAreTold : Type 0 where
  pub answers : (w : OrderWorld) (number : ℕ) (message : Up) (s : State) (h : Header) (octets : List ℕ) (request : Request) (reply : Reply) (messages : List Down)
      → Carries w s message (Frame h octets) → (length w.results < length w.issued → is_order_id (order_at w.issued (length w.results)).id ≡ true)
      → AnswersOldest w number message (Answered request reply messages) ↔ TellsOf w number h octets reply
  pub result : (w : OrderWorld) (number place result other : ℕ) (s : State) (h : Header) (octets : List ℕ)
      → Carries w s (Answer place result) (Frame h octets) → NamesOldestOrder w number h octets other → other ≡ result
