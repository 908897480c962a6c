-- Phones in the texts of requests: this project's own form. To be believed.
use Rattle.std.specs.Prelude.{◌≡◌, ℕ, true, List, ◌++◌, codes, length}
use Rattle.dewfelt_settings.specs.Phones.{are_digits, digits_text}

-- the octets of a phone, which are written as twenty decimal digits
abbrev pub IsWritten : List ℕ → Type 0
IsWritten octets = (length octets ≡ 10) × (are_digits (digits_text octets) ≡ true)

-- the text of a request to forget the phone of these octets
abbrev pub forget_text_of : List ℕ → List ℕ
forget_text_of octets = codes "forget " ++ (digits_text octets ++ codes "\n")
