-- What the terminal makes of the frame of an order; and which general responses it writes by itself (this project's own). To be believed.
use Rattle.std.specs.Prelude.{◌≡◌, ℕ, ◌<◌, ◌^◌, List, Option, None, Some}
use Rattle.std.specs.Result.{is_err}
use Rattle.jt_value.specs.declared.phone.Edition.{Edition}
use Rattle.jt_header.specs.declared.header.Header.{Header}
use Rattle.jt_codec.specs.Bodies.{body, body_octets}
use Rattle.jt_codec.specs.declared.message.Message.{Message}
use Rattle.jt_codec.specs.declared.message.Message.TheVariants.{TerminalAck}
use Rattle.jt_terminal_rule.specs.declared.state.State.{State}
use Rattle.jt_terminal_rule.specs.declared.state.AnswerKind.{AnswerKind}
use Rattle.jt_terminal_rule.specs.declared.state.AnswerKind.TheVariants.{General, Parameters, Position, Packets}
use Rattle.jt_terminal_rule.specs.Answers.{answer_to, answer_to_refused, answer_to_lack}
use Rattle.jt_order.specs.Orders.{OrderOf, IsOrder}
use Rattle.jt_obeying.specs.Orders.{order_at, ruling, tables_behind}
use Rattle.jt_obeying.specs.World.{OrderMessage, OrderWorld}
use Rattle.jt_obeying.specs.Steps.{has_refused_body, performed_at, ruling_on}
use Rattle.jt_obeying.specs.Performing.{order_outcome, terminal_performing}
use Rattle.jt_order_turns.specs.Headers.{order_header}

-- ---- an order's frame

-- the frame of the order of this place, on a session whose first frame had this header, in the terminal's edition
pub record IsOrderFrame (w : OrderWorld) (first : Header) (place : ℕ) (h : Header) (octets : List ℕ) : Type 0 where
  pub edition : first.edition ≡ w.edition
  pub header : h ≡ order_header first place (order_at w.issued place)
  pub body : octets ≡ (order_at w.issued place).body

-- the order that a frame brings
abbrev pub order_in : Header → List ℕ → OrderOf
order_in h octets = record { id = h.id; body = octets }

-- what is seen of the frame is what the world says of the order's place
pub record IsSeen (w : OrderWorld) (place : ℕ) (h : Header) (octets : List ℕ) : Type 0 where
  -- it has no packet fields
  pub whole : h.packet ≡ None
  pub refused : is_err ((body h.edition h.id).read octets 0) ≡ has_refused_body w (OrderMessage place)
  pub ruling : ruling w.log h.serial (order_in h octets) ≡ ruling_on w place
  -- over the present tables it has the result, and leaves the tables, that the order has and leaves
  pub result : (order_outcome h.edition w.tables (order_in h octets)).0 ≡ (performed_at w place).result
  pub tables : (order_outcome h.edition w.tables (order_in h octets)).1 ≡ tables_behind w.performing w.tables (performed_at w place)

-- so it is at the terminal of this project, of every frame of an order
abbrev pub FramesAreSeen : Type 0
FramesAreSeen = (w : OrderWorld) (first : Header) (place : ℕ) (h : Header) (octets : List ℕ) → w.performing ≡ terminal_performing → IsOrder (order_at w.issued place)
    → IsOrderFrame w first place h octets → IsSeen w place h octets

-- ---- general responses of the terminal's own

-- a general response names the message that it answers, with a result of one octet; and so no order where that message is none
abbrev pub NamesItsMessage : State → Header → Option (AnswerKind × List ℕ) → Type 0
NamesItsMessage s h None = Unit {0}
NamesItsMessage s h (Some (General, octets)) = (result : ℕ) × (result < 2 ^ 8) × (octets ≡ body_octets s.settings.phone.edition (TerminalAck h.serial h.id result))
NamesItsMessage s h (Some (Parameters, octets)) = Unit {0}
NamesItsMessage s h (Some (Position, octets)) = Unit {0}
NamesItsMessage s h (Some (Packets, octets)) = Unit {0}

-- whatever message, refused body or lack of packets it answers
pub record ResponsesName : Type 0 where
  pub message : (s : State) (h : Header) (m : Message) → NamesItsMessage s h (answer_to s h m).says
  pub refused : (s : State) (h : Header) → NamesItsMessage s h (answer_to_refused s h).says
  pub lack : (s : State) (h : Header) (edition : Edition) (first : ℕ) (numbers : List ℕ) → NamesItsMessage s h (answer_to_lack s edition first numbers).says
