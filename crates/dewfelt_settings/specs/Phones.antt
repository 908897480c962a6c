-- Phones as decimal digits: this project's own form. To be believed.
use Rattle.std.specs.Prelude.{◌≡◌, ◌≤◌, ℕ, ◌+◌, ◌-◌, ◌/◌, ◌%◌, ◌&&◌, nat_le, Bool, true, List, [], ◌∷◌, ◌++◌, flat_map, length, replicate}
use Rattle.std.specs.List.{list_all}

-- the two digits of an octet
abbrev pub two_digits : ℕ → List ℕ
two_digits octet = (48 + octet / 16) ∷ (48 + octet % 16) ∷ []

-- the digits of a phone
abbrev pub digits_text : List ℕ → List ℕ
digits_text digits = flat_map two_digits digits

-- twenty digits, of which a text has the last ones and the others are zeros
abbrev pub filled : List ℕ → List ℕ
filled text = replicate (20 - length text) 48 ++ text

-- a decimal digit
abbrev pub is_digit : ℕ → Bool
is_digit octet = nat_le 48 octet && nat_le octet 57

-- decimal digits alone
abbrev pub are_digits : List ℕ → Bool
are_digits text = list_all is_digit text

-- 1 to 20 decimal digits
abbrev pub IsPhoneText : List ℕ → Type 0
IsPhoneText text = (1 ≤ length text) × (length text ≤ 20) × (are_digits text ≡ true)
