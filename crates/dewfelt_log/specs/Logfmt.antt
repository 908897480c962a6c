-- Lines of fields in logfmt: this project's own form. To be believed.
use Rattle.std.specs.Prelude.{◌≡◌, ℕ, ◌+◌, ◌/◌, ◌%◌, Bool, true, false, ◌==◌, ◌&&◌, ◌||◌, nat_lt, nat_le, if◌then◌else◌, List, [], ◌∷◌, ◌++◌, flat_map, map, length, take, slice_index, not, min, ◌^◌, ◌-◌, ◌⊎◌, ◌≤◌, codes}
use Rattle.dewfelt_log.specs.Time.{Tells}

-- a letter of a key: a to z and _
abbrev pub is_letter : ℕ → Bool
is_letter octet = (nat_le 97 octet && nat_le octet 122) || octet == 95

-- an octet of a value that has no quotes: no control character and no space, and none of " = \
abbrev pub is_bare : ℕ → Bool
is_bare octet =
    if nat_le octet 32 then false else if octet == 127 then false else if octet == 34 then false
    else if octet == 61 then false else if octet == 92 then false else true

-- where a reader of lines stands: before a line, in a key, behind its =, in a value without quotes, in one with quotes, behind a \
-- there, behind a value with quotes, behind a space between two fields; or it has read what no line has
pub data Stand : Type 0 where
  Before : Stand
  InKey : Stand
  AtValue : Stand
  InBare : Stand
  InQuotes : Stand
  Escaped : Stand
  Behind : Stand
  Between : Stand
  Lost : Stand

-- a letter of a key, and nothing else
abbrev pub begin_key : ℕ → Stand
begin_key octet = if is_letter octet then InKey else Lost

-- behind a value: a space and another field, or the end of the line
abbrev pub end_value : ℕ → Stand
end_value octet = if octet == 32 then Between else if octet == 10 then Before else Lost

-- where the reader stands behind one octet more. No octet below 32 has a place but the line feed at the end of a line.
abbrev pub step : Stand → ℕ → Stand
step Before octet = begin_key octet
step Between octet = begin_key octet
step InKey octet = if is_letter octet then InKey else if octet == 61 then AtValue else Lost
step AtValue octet = if octet == 34 then InQuotes else if is_bare octet then InBare else Lost
step InBare octet = if is_bare octet then InBare else end_value octet
step InQuotes octet =
    if octet == 34 then Behind else if octet == 92 then Escaped
    else if nat_le 32 octet then InQuotes else Lost
step Escaped octet = if nat_le 32 octet then InQuotes else Lost
step Behind octet = end_value octet
step Lost octet = Lost

abbrev pub after : Stand → List ℕ → Stand
after stand [] = stand
after stand (octet ∷ octets) = after (step stand octet) octets

-- whole lines, each of them one field or more, and its line feed
abbrev pub AreLines : List ℕ → Type 0
AreLines octets = after Before octets ≡ Before

abbrev pub ends_field : Stand → Bool
ends_field InBare = true
ends_field Behind = true
ends_field _ = false

-- fields of a line that goes on, or may end here
abbrev pub are_fields : List ℕ → Bool
are_fields octets = ends_field (after Before octets)

-- a hexadecimal digit
abbrev pub digit : ℕ → ℕ
digit number = if nat_lt number 10 then 48 + number else 87 + number

-- an octet between quotes: " and \ behind a \, a control character as \x and two digits, any other as it is
abbrev pub escaped : ℕ → List ℕ
escaped octet =
    if octet == 34 then 92 ∷ 34 ∷ []
    else if octet == 92 then 92 ∷ 92 ∷ []
    else if nat_lt octet 32 then 92 ∷ 120 ∷ digit (octet / 16) ∷ digit (octet % 16) ∷ []
    else if octet == 127 then 92 ∷ 120 ∷ 55 ∷ 102 ∷ []
    else octet ∷ []

abbrev pub all_bare : List ℕ → Bool
all_bare [] = true
all_bare (octet ∷ octets) = if is_bare octet then all_bare octets else false

abbrev pub is_empty : List ℕ → Bool
is_empty [] = true
is_empty (_ ∷ _) = false

-- a value: as it is, where all its octets may stand so and there is one, else between quotes
abbrev pub shown : List ℕ → List ℕ
shown value =
    if is_empty value then 34 ∷ 34 ∷ []
    else if all_bare value then value
    else 34 ∷ (flat_map escaped value ++ 34 ∷ [])

-- an octet of a key that is none of its letters becomes _
abbrev pub letter : ℕ → ℕ
letter octet = if is_letter octet then octet else 95

-- a key has one letter at least
abbrev pub key_text : List ℕ → List ℕ
key_text key = if is_empty key then 95 ∷ [] else map letter key

-- a field
abbrev pub field : List ℕ → List ℕ → List ℕ
field key value = key_text key ++ (61 ∷ shown value)

-- an octet that goes on a character that began before it, in UTF-8
abbrev pub goes_on : ℕ → Bool
goes_on octet = nat_le 128 octet && nat_lt octet 192

-- how many octets of a value are shown: 64, or up to three fewer where a character in UTF-8 would be cut apart
abbrev pub shown_length : List ℕ → ℕ
shown_length value =
    if nat_le (length value) 64 then length value
    else if not (goes_on (slice_index value 64)) then 64
    else if not (goes_on (slice_index value 63)) then 63
    else if not (goes_on (slice_index value 62)) then 62
    else 61

-- the front of a value that is shown
abbrev pub front : List ℕ → List ℕ
front value = take (shown_length value) value

-- the time of a line and its event, with which it begins
abbrev pub Begins : ℕ → List ℕ → List ℕ → Type 0
Begins seconds event line =
    (time : List ℕ) × Tells seconds time
    × (line ≡ field (codes "time") time ++ 32 ∷ field (codes "event") (front event))

-- where the line is whole then, a field came to it behind a space
abbrev pub Adds : List ℕ → List ℕ → Bool → List ℕ → List ℕ → Type 0
Adds key value is_whole old new = is_whole ≡ true → new ≡ old ++ 32 ∷ field key (front value)

-- a line that is whole and has room came to the lines that wait, with its line feed; or a line was let go, and counted: memory
-- may be refused at any time, so that any line may be lost
abbrev pub Puts : List ℕ → Bool → List ℕ → ℕ → List ℕ → ℕ → Type 0
Puts line is_whole old lost new lost_then =
    ((is_whole ≡ true) × (length new ≤ 2 ^ 18) × (new ≡ old ++ (line ++ 10 ∷ [])) × (lost_then ≡ lost))
    ⊎ ((new ≡ old) × (lost_then ≡ min (lost + 1) (2 ^ 64 - 1)))

-- two hexadecimal digits
abbrev pub two_hex : ℕ → List ℕ
two_hex octet = digit (octet / 16) ∷ digit (octet % 16) ∷ []
