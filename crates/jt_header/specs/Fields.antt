-- What stands where in a content, as the standard's header has it. To be believed.
use Rattle.std.specs.Prelude.{ℕ, ◌+◌, ◌-◌, ◌*◌, ◌/◌, ◌%◌, ◌^◌, Bool, true, ◌==◌, if◌then◌else◌, List, length, take, drop, Option, Some, None, slice_index, slice_range}
use Rattle.jt_value.specs.Phone.{digits_of, field_len}
use Rattle.jt_value.specs.declared.phone.Edition.{Edition}
use Rattle.jt_value.specs.declared.phone.Edition.TheVariants.{E2013, E2019}
use Rattle.jt_header.specs.Content.{header_len}
use Rattle.jt_header.specs.declared.header.Packet.{Packet}
use Rattle.jt_header.specs.declared.header.Header.{Header}

-- the number of two octets, the higher first
abbrev pub word_at : ℕ → List ℕ → ℕ
word_at place content = slice_index content place * 256 + slice_index content (place + 1)

abbrev pub attributes_at : List ℕ → ℕ
attributes_at content = word_at 2 content

-- bits 0 to 9, the body's length
abbrev pub length_bits : ℕ → ℕ
length_bits attributes = attributes % 2 ^ 10

-- bits 10 to 12
abbrev pub encryption_bits : ℕ → ℕ
encryption_bits attributes = attributes / 2 ^ 10 % 2 ^ 3

abbrev pub bit_at : ℕ → ℕ → ℕ
bit_at place attributes = attributes / 2 ^ place % 2

-- bit 13
abbrev pub has_packet : ℕ → Bool
has_packet attributes = bit_at 13 attributes == 1

-- bit 14
abbrev pub edition_in : ℕ → Edition
edition_in attributes = if bit_at 14 attributes == 1 then E2019 else E2013

abbrev pub has_bit15 : ℕ → Bool
has_bit15 attributes = bit_at 15 attributes == 1

-- the length of the header that the attributes speak of
abbrev pub header_len_in : ℕ → ℕ
header_len_in attributes = header_len (edition_in attributes) (has_packet attributes)

-- the octets between the header and the check octet
abbrev pub body_len_at : List ℕ → ℕ
body_len_at content = length content - header_len_in (attributes_at content) - 1

abbrev pub phone_place : Edition → ℕ
phone_place E2013 = 4
phone_place E2019 = 5

abbrev pub phone_at : Edition → List ℕ → List ℕ
phone_at edition content = take (field_len edition) (drop (phone_place edition) content)

abbrev pub serial_place : Edition → ℕ
serial_place edition = phone_place edition + field_len edition

-- packet fields are the header's last four octets
abbrev pub packet_place : Edition → ℕ
packet_place edition = header_len edition true - 4

unfoldable pub packet_at : Edition → List ℕ → Option Packet
packet_at edition content =
    if has_packet (attributes_at content)
    then Some (record { total = word_at (packet_place edition) content; number = word_at (packet_place edition + 2) content })
    else None

abbrev pub version_at : Edition → List ℕ → ℕ
version_at E2013 content = 0
version_at E2019 content = slice_index content 4

-- the header of this edition that stands at the front
unfoldable pub header_in : Edition → List ℕ → Header
header_in edition content =
    record {
      edition = edition;
      id = word_at 0 content;
      bit15 = has_bit15 (attributes_at content);
      version = version_at edition content;
      phone = record { edition = edition; digits = digits_of edition (phone_at edition content) };
      serial = word_at (serial_place edition) content;
      packet = packet_at edition content;
    }

abbrev pub header_at : List ℕ → Header
header_at content = header_in (edition_in (attributes_at content)) content

-- the octets between the header and the check octet
abbrev pub body_at : List ℕ → List ℕ
body_at content = slice_range content (header_len_in (attributes_at content)) (length content - 1)
