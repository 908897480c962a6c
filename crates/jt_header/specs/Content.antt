-- Contents: a header, a body and a check octet, as the standard's framing and header have them. To be believed.
use Rattle.std.specs.Prelude.{◌≡◌, ℕ, ◌+◌, ◌*◌, ◌^◌, ◌<◌, ◌≤◌, Bool, true, false, List, [], ◌∷◌, ◌++◌, length, Option, Some, None}
use Rattle.std.specs.Int.{w16, to_be_bytes}
use Rattle.jt_value.specs.Phone.{padding, field_of, first_bad}
use Rattle.jt_value.specs.declared.phone.Edition.{Edition}
use Rattle.jt_value.specs.declared.phone.Edition.TheVariants.{E2013, E2019}
use Rattle.jt_value.specs.declared.phone.Phone.{Phone}
use Rattle.jt_escape.specs.Frame.{check_of}
use Rattle.jt_header.specs.declared.header.Packet.{Packet}
use Rattle.jt_header.specs.declared.header.Header.{Header}

-- two octets, the higher first
abbrev pub word : ℕ → List ℕ
word n = to_be_bytes w16 n

abbrev pub bit : Bool → ℕ
bit true = 1
bit false = 0

abbrev pub packet_bit : Option Packet → ℕ
packet_bit None = 0
packet_bit (Some packet) = 1

abbrev pub edition_bit : Edition → ℕ
edition_bit E2013 = 0
edition_bit E2019 = 1

-- Bits 0 to 9 are the body's length, bits 10 to 12 the encryption, which is 0. Bit 13 says that there are packet fields,
-- bit 14 is the edition, and bit 15 is carried.
abbrev pub attributes : Header → ℕ → ℕ
attributes h body_len = body_len + packet_bit h.packet * 2 ^ 13 + edition_bit h.edition * 2 ^ 14 + bit h.bit15 * 2 ^ 15

-- the protocol version, which the header of 2013 has not
abbrev pub version_octets : Edition → ℕ → List ℕ
version_octets E2013 version = []
version_octets E2019 version = version ∷ []

abbrev pub packet_octets : Option Packet → List ℕ
packet_octets None = []
packet_octets (Some packet) = word packet.total ++ word packet.number

-- the octets of the header before a body of this length
abbrev pub header_octets : Header → ℕ → List ℕ
header_octets h body_len =
    word h.id
    ++ word (attributes h body_len)
    ++ version_octets h.edition h.version
    ++ field_of h.phone.edition h.phone.digits
    ++ word h.serial
    ++ packet_octets h.packet

-- how many octets a header has, with packet fields or without
abbrev pub header_len : Edition → Bool → ℕ
header_len E2013 false = 12
header_len E2013 true = 16
header_len E2019 false = 17
header_len E2019 true = 21

-- twenty digits of at most 9, those that the edition's field lacks 0
pub record IsPhone (phone : Phone) : Type 0 where
  pub len : length phone.digits ≡ 10
  pub padded : phone.digits ≡ padding phone.edition ++ field_of phone.edition phone.digits
  pub decimal : first_bad (field_of phone.edition phone.digits) ≡ None

-- the number is from 1 to the total
abbrev pub IsPacket : Option Packet → Type 0
IsPacket None = Unit {0}
IsPacket (Some packet) = (0 < packet.number) × (packet.number ≤ packet.total) × (packet.total < 2 ^ 16)

-- an octet in 2019, and 0 in 2013, where the header has none
abbrev pub IsVersion : Edition → ℕ → Type 0
IsVersion E2013 version = version ≡ 0
IsVersion E2019 version = version < 2 ^ 8

-- numbers within their fields, a phone of the header's edition, and a packet number from 1 to the total
pub record IsHeader (h : Header) : Type 0 where
  pub id : h.id < 2 ^ 16
  pub version : IsVersion h.edition h.version
  pub phone_edition : h.phone.edition ≡ h.edition
  pub phone : IsPhone h.phone
  pub serial : h.serial < 2 ^ 16
  pub packet : IsPacket h.packet

-- what the check octet stands for
abbrev pub checked : Header → List ℕ → List ℕ
checked h body = header_octets h (length body) ++ body

-- the header, the body and the XOR of all their octets
abbrev pub content_of : Header → List ℕ → List ℕ
content_of h body = checked h body ++ check_of (checked h body) ∷ []

-- the octets are the content of this header and this body
pub record Content (h : Header) (body content : List ℕ) : Type 0 where
  pub header : IsHeader h
  pub short : length body < 2 ^ 10
  pub octets : content ≡ content_of h body
