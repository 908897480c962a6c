-- What the values of options tell: this project's own forms. To be believed.
use Rattle.std.specs.Prelude.{ℕ, ◌==◌, ◌&&◌, ◌||◌, not, nat_le, Bool, if◌then◌else◌, List, length, slice_index, codes, Option, Some, None}
use Rattle.std.specs.List.{list_all}
use Rattle.std.specs.Char.{is_ascii_alphanumeric}
use Rattle.std.specs.Str.{bytes_eq}
use Rattle.jt_report_command.specs.declared.readers.TheConstants.{HOST_LIMIT}
use Rattle.jt_value.specs.declared.limits.TheConstants.{PLATE_LIMIT}
use Rattle.hex.specs.Hex.{decode_of}
use Rattle.jt_value.specs.declared.phone.Edition.{Edition}
use Rattle.jt_value.specs.declared.phone.Edition.TheVariants.{E2013, E2019}
use Rattle.jt_words.specs.PhoneDigits.{some_of}

-- an ASCII letter or digit, a full stop, a hyphen or a colon
abbrev pub is_host_octet : ℕ → Bool
is_host_octet octet = is_ascii_alphanumeric octet || (octet == 46 || (octet == 45 || octet == 58))

-- from 1 to 255 such octets; the first is no hyphen
abbrev pub is_host : List ℕ → Bool
is_host host = (nat_le 1 (length host) && nat_le (length host) HOST_LIMIT) && (not (slice_index host 0 == 45) && list_all is_host_octet host)

-- `2013` or `2019`, and 2013 where the option is missing
abbrev pub edition_in : Option (List ℕ) → Option Edition
edition_in None = Some E2013
edition_in (Some text) = if bytes_eq text (codes "2013") then Some E2013 else if bytes_eq text (codes "2019") then Some E2019 else None

-- the octets that pairs of hexadecimal digits of either case write, from 1 to so many
unfoldable pub octets_in : ℕ → List ℕ → Option (List ℕ)
octets_in most text = some_of (λ octets. nat_le 1 (length octets) && nat_le (length octets) most) (decode_of text)

-- the most octets of a plate
abbrev pub plate_most : ℕ
plate_most = PLATE_LIMIT

-- the most octets of a terminal id
abbrev pub terminal_most : Edition → ℕ
terminal_most E2013 = 7
terminal_most E2019 = 30
