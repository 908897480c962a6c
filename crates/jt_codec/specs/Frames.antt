-- The messages of frames, and why contents are refused. To be believed.
use Rattle.std.specs.Prelude.{◌≡◌, ℕ, ◌+◌, ◌⊎◌, false, List, Option, Some, None, Result, Ok, Err}
use Rattle.jt_value.specs.declared.phone.Edition.{Edition}
use Rattle.jt_value.specs.declared.refusal.Refusal.{Refusal}
use Rattle.jt_value.specs.declared.refusal.CodecError.{CodecError}
use Rattle.jt_value.specs.declared.refusal.CodecError.TheVariants as errors
use Rattle.jt_header.specs.Content.{Content, header_len}
use Rattle.jt_header.specs.Fields.{body_at}
use Rattle.jt_header.specs.Reason.{reason}
use Rattle.jt_header.specs.declared.header.Packet.{Packet}
use Rattle.jt_header.specs.declared.header.Header.{Header}
use Rattle.jt_codec.specs.Bodies.{body, HasBody}
use Rattle.jt_codec.specs.declared.message.Message.{Message}
use Rattle.jt_codec.specs.declared.message.Message.TheVariants.{Part}

-- the message of the octets between header and check octet: a packet is kept as a part, and any other body is read
abbrev pub HasMessage : Option Packet → Edition → ℕ → List ℕ → Message → Type 0
HasMessage None edition id octets message = HasBody edition id message octets
HasMessage (Some packet) edition id octets message = message ≡ Part octets

-- the content is that of a frame with this header, this body and this message
pub record Frame (h : Header) (octets : List ℕ) (message : Message) (content : List ℕ) : Type 0 where
  pub is_content : Content h octets content
  pub has_message : HasMessage h.packet h.edition h.id octets message

-- a body's refusal, its place counted in the content, behind a header of this length
abbrev pub in_content : ℕ → Refusal → Refusal
in_content start refusal = record { at = 0; inside = start + refusal.inside; why = refusal.why }

-- the octets between header and check octet, which are no packet's, are refused, the place counted in the content
abbrev pub RefusesMessage : Option Packet → Edition → ℕ → List ℕ → Refusal → Type 0
RefusesMessage None edition id octets refusal = (found : Refusal) × (body edition id).Refuses octets 0 found × (refusal ≡ in_content (header_len edition false) found)
RefusesMessage (Some packet) edition id octets refusal = ⊥

-- header and check octet are good, and the body, which is no packet's, is refused
pub record IsBodyRefused (content : List ℕ) (refusal : Refusal) : Type 0 where
  pub h : Header
  pub octets : List ℕ
  pub is_content : Content h octets content
  pub packet : h.packet ≡ None
  pub found : Refusal
  pub refuses : (body h.edition h.id).Refuses octets 0 found
  pub is : refusal ≡ in_content (header_len h.edition false) found

-- the first reason against the content: the header's, and where it has none the body's
abbrev pub IsRefused : List ℕ → Refusal → Type 0
IsRefused content refusal = (reason content ≡ Some refusal) ⊎ IsBodyRefused content refusal

-- header and message where the content has them, the first reason where it is refused, or want of memory
abbrev pub FrameAnswers : List ℕ → Result (Header × Message) CodecError → Type 0
FrameAnswers content (Ok x) = Frame x.0 (body_at content) x.1 content
FrameAnswers content (Err (errors.Refused refusal)) = IsRefused content refusal
FrameAnswers content (Err errors.Memory) = Unit {0}
