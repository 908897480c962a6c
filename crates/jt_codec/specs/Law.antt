-- The laws of bodies and frames. To be believed.
use Rattle.std.specs.Prelude.{◌≡◌, ◌↔◌, ℕ, ◌<◌, ◌^◌, ◌⊎◌, List, ◌++◌, Option, Some, Ok, Err}
use Rattle.std.specs.Int.{w8, w16, to_be_bytes}
use Rattle.jt_value.specs.declared.phone.Edition.{Edition}
use Rattle.jt_value.specs.declared.refusal.Refusal.{Refusal}
use Rattle.jt_value.specs.Octets.{AreOctets}
use Rattle.jt_header.specs.declared.header.Header.{Header}
use Rattle.jt_header.specs.declared.header.Packet.{Packet}
use Rattle.jt_layout.specs.Answer.{IsOneToOne}
use Rattle.jt_codec.specs.Bodies.{Fits, body, body_octets, id_of}
use Rattle.jt_codec.specs.Frames.{Frame, HasMessage, IsRefused, RefusesMessage}
use Rattle.jt_codec.specs.Parsing.{message_read, parse_of}
use Rattle.jt_codec.specs.declared.message.Message.{Message}
use Rattle.jt_codec.specs.declared.message.Message.TheVariants.{TerminalAck, PlatformAck}

-- under each id, octets have exactly one message or exactly one reason, and messages have octets of their own
abbrev pub AreOneToOne : Type 0
AreOneToOne = (edition : Edition) (id : ℕ) → IsOneToOne (body edition id)

-- a message fits under its own id alone
abbrev pub AreUnderTheirIds : Type 0
AreUnderTheirIds = (edition : Edition) (id : ℕ) (message : Message) → (body edition id).Fits message → id_of message ≡ Some id

-- reply, id and result
abbrev pub ack_octets : ℕ → ℕ → ℕ → List ℕ
ack_octets reply id result = to_be_bytes w16 reply ++ (to_be_bytes w16 id ++ to_be_bytes w8 result)

-- the octets of general responses; each fits where its numbers do
pub record AckOctets : Type 0 where
  pub terminal : (edition : Edition) (reply id result : ℕ) → body_octets edition (TerminalAck reply id result) ≡ ack_octets reply id result
  pub platform : (edition : Edition) (reply id result : ℕ) → body_octets edition (PlatformAck reply id result) ≡ ack_octets reply id result
  pub terminal_fits : (edition : Edition) (reply id result : ℕ) → reply < 2 ^ 16 → id < 2 ^ 16 → result < 2 ^ 8 → Fits edition (TerminalAck reply id result)
  pub platform_fits : (edition : Edition) (reply id result : ℕ) → reply < 2 ^ 16 → id < 2 ^ 16 → result < 2 ^ 8 → Fits edition (PlatformAck reply id result)

-- the octets are the content of a frame
abbrev pub HasFrame : List ℕ → Type 0
HasFrame content = (h : Header) × (octets : List ℕ) × (message : Message) × Frame h octets message content

-- the octets are refused
abbrev pub HasRefusal : List ℕ → Type 0
HasRefusal content = (refusal : Refusal) × IsRefused content refusal

abbrev pub IsOneOrTheOther : Type 0
IsOneOrTheOther = (content : List ℕ) → AreOctets content → HasFrame content ⊎ HasRefusal content

abbrev pub IsNeverBoth : Type 0
IsNeverBoth = (content : List ℕ) → HasFrame content → HasRefusal content → ⊥

-- one header, one body and one message
abbrev pub IsOneFrame : Type 0
IsOneFrame =
    (content : List ℕ) (h g : Header) (octets others : List ℕ) (message other : Message)
    → Frame h octets message content → Frame g others other content → (h ≡ g) × (octets ≡ others) × (message ≡ other)

abbrev pub IsOneRefusal : Type 0
IsOneRefusal = (content : List ℕ) (r s : Refusal) → IsRefused content r → IsRefused content s → r ≡ s

-- parsing as a function gives the frame's header and message
abbrev pub IsParsedFrame : Type 0
IsParsedFrame = (content octets : List ℕ) (h : Header) (message : Message) → Frame h octets message content → parse_of content ≡ Ok (h, message)

-- and the refusal
abbrev pub IsParsedRefusal : Type 0
IsParsedRefusal = (content : List ℕ) (refusal : Refusal) → IsRefused content refusal → parse_of content ≡ Err refusal

-- behind every header, reading as a function gives exactly the message
abbrev pub IsMessageRead : Type 0
IsMessageRead =
    (packet : Option Packet) (edition : Edition) (id : ℕ) (octets : List ℕ) (message : Message) → AreOctets octets
    → (message_read packet edition id octets ≡ Ok message) ↔ HasMessage packet edition id octets message

-- and exactly the refusal
abbrev pub IsRefusalRead : Type 0
IsRefusalRead =
    (packet : Option Packet) (edition : Edition) (id : ℕ) (octets : List ℕ) (refusal : Refusal) → AreOctets octets
    → (message_read packet edition id octets ≡ Err refusal) ↔ RefusesMessage packet edition id octets refusal
