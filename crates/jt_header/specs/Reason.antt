-- Why octets are no content: the first row of a table that holds. The table is this project's, over the standard's header.
-- To be believed.
use Rattle.std.specs.Prelude.{◌≡◌, ℕ, ◌+◌, ◌-◌, Bool, not, ◌||◌, nat_lt, ◌==◌, if◌then◌else◌, List, [], ◌∷◌, length, take, Option, Some, None, slice_index, option_map, MatchResult, Result}
use Rattle.jt_value.specs.Phone.{first_bad}
use Rattle.jt_value.specs.declared.phone.Edition.{Edition}
use Rattle.jt_value.specs.declared.refusal.Why.{Why}
use Rattle.jt_value.specs.declared.refusal.Why.TheVariants as why
use Rattle.jt_value.specs.declared.refusal.Refusal.{Refusal}
use Rattle.jt_escape.specs.Frame.{check_of}
use Rattle.jt_header.specs.Fields.{attributes_at, encryption_bits, length_bits, edition_in, header_len_in, body_len_at, phone_place, phone_at, packet_place, packet_at, header_at, body_at}
use Rattle.jt_header.specs.declared.header.Packet.{Packet}
use Rattle.jt_header.specs.declared.header.Header.{Header}

-- a refusal at an offset in the content
abbrev pub refusal : ℕ → Why → Refusal
refusal inside why = record { at = 0; inside = inside; why = why }

-- a row of the table
abbrev pub when : Bool → Refusal → Option Refusal
when test refusal = if test then Some refusal else None

-- the octets end before a header and a check octet do
unfoldable pub too_short : List ℕ → Option Refusal
too_short content =
    when (nat_lt (length content) 5 || nat_lt (length content) (header_len_in (attributes_at content) + 1)) (refusal (length content) why.TooShort)

-- the last octet is not the XOR of the others
unfoldable pub check_mismatch : List ℕ → Option Refusal
check_mismatch content =
    let last = length content - 1 in
    let computed = check_of (take last content) in
    let found = slice_index content last in
    when (not (computed == found)) (refusal last (why.CheckMismatch computed found))

unfoldable pub encrypted : ℕ → Option Refusal
encrypted attributes = when (not (encryption_bits attributes == 0)) (refusal 2 why.Encrypted)

-- the length in the attributes is not that of the body
unfoldable pub length_mismatch : ℕ → ℕ → Option Refusal
length_mismatch attributes actual =
    when (not (length_bits attributes == actual)) (refusal 2 (why.LengthMismatch (length_bits attributes) actual))

-- a digit above 9, at its octet
unfoldable pub phone_digit : Edition → List ℕ → Option Refusal
phone_digit edition phone = option_map (λ offset. refusal (phone_place edition + offset) why.PhoneDigit) (first_bad phone)

-- the number is not from 1 to the total
unfoldable pub bad_packet_number : Edition → Option Packet → Option Refusal
bad_packet_number edition None = None
bad_packet_number edition (Some packet) =
    when ((packet.total == 0) || (packet.number == 0) || nat_lt packet.total packet.number) (refusal (packet_place edition) why.BadPacketNumber)

-- the first of the rows that holds
abbrev pub first_of : List (Option Refusal) → Option Refusal
first_of [] = None
first_of (None ∷ rows) = first_of rows
first_of (Some refusal ∷ rows) = Some refusal

-- why the octets are no content, if they are none
unfoldable pub reason : List ℕ → Option Refusal
reason content =
    let attributes = attributes_at content in
    let edition = edition_in attributes in
    first_of (
    too_short content
    ∷ check_mismatch content
    ∷ encrypted attributes
    ∷ length_mismatch attributes (body_len_at content)
    ∷ phone_digit edition (phone_at edition content)
    ∷ bad_packet_number edition (packet_at edition content)
    ∷ [])

-- the octets have no reason, and this header and this body stand in them
pub record Reads (content : List ℕ) (read : Header) (body : List ℕ) : Type 0 where
  pub no_reason : reason content ≡ None
  pub header : read ≡ header_at content
  pub body_is : body ≡ body_at content

-- an Ok where the row does not hold, and otherwise its refusal
abbrev pub Rejects : {T : Type 0} → Result T Refusal → Option Refusal → Type 0
Rejects result row = MatchResult result (λ _. row ≡ None) (λ refusal. row ≡ Some refusal)
