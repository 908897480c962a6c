-- The line of a frame: this project's texts. To be believed.
use Rattle.std.specs.Prelude.{ℕ, Bool, true, false, List, [], ◌++◌, Option, Some, None, codes}
use Rattle.std.specs.Fmt.{decimal}
use Rattle.hex.specs.Hex.{encode_lower}
use Rattle.jt_value.specs.Phone.{field_of}
use Rattle.jt_value.specs.declared.phone.Edition.{Edition}
use Rattle.jt_value.specs.declared.phone.Edition.TheVariants.{E2013, E2019}
use Rattle.jt_header.specs.declared.header.Header.{Header}
use Rattle.jt_header.specs.declared.header.Packet.{Packet}
use Rattle.jt_codec.specs.declared.message.Message.{Message}
use Rattle.jt_text.specs.Values.{word_digits}
use Rattle.jt_text.specs.Names.{name_of}
use Rattle.jt_text.specs.Fields.{fields_of}

-- the edition's year
abbrev pub year : Edition → List ℕ
year E2013 = codes "2013"
year E2019 = codes "2019"

-- the digits of the header's phone field
abbrev pub phone_text : Header → List ℕ
phone_text header = encode_lower (field_of header.phone.edition header.phone.digits)

-- the protocol version, which 2013 has not
abbrev pub version_text : Edition → ℕ → List ℕ
version_text E2013 version = []
version_text E2019 version = codes " version=" ++ decimal version

-- the mark of attribute bit 15, where it is set
abbrev pub bit15_text : Bool → List ℕ
bit15_text true = codes " bit15"
bit15_text false = []

-- a packet's number and how many there are
abbrev pub packet_text : Option Packet → List ℕ
packet_text None = []
packet_text (Some packet) = codes " packet=" ++ decimal packet.number ++ codes "/" ++ decimal packet.total

-- the place of the frame's flag, the edition, the id and the name
unfoldable pub frame_start : ℕ → Header → List ℕ → List ℕ
frame_start place header name = decimal place ++ codes " " ++ year header.edition ++ codes " 0x" ++ word_digits header.id ++ codes " " ++ name

-- the phone, the serial, what the header has besides, and how many octets the body has
unfoldable pub header_fields : Header → ℕ → List ℕ
header_fields header body_len =
    codes " phone=" ++ phone_text header ++ codes " serial=" ++ decimal header.serial ++ version_text header.edition header.version
    ++ bit15_text header.bit15 ++ packet_text header.packet ++ codes " body=" ++ decimal body_len

-- the line of a frame
unfoldable pub view_line : ℕ → Header → Message → ℕ → List ℕ
view_line place header message body_len =
    frame_start place header (name_of header message) ++ header_fields header body_len ++ fields_of message ++ codes "\n"
