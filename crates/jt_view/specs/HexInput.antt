-- Octets that are written as hexadecimal digits, and what a reader of them stands for. To be believed.
use Rattle.std.specs.Prelude.{◌≡◌, ◌≤◌, ℕ, ◌+◌, ◌*◌, ◌%◌, ◌==◌, Bool, ◌||◌, not, List, [], ◌∷◌, ◌++◌, length, filter, Option, Some, None, unwrap_or, position}
use Rattle.std.specs.List.{take_while}
use Rattle.hex.specs.Hex.{hex_digit_value, is_hex_digit}

-- space, tab, LF and CR, which may stand anywhere between digits
abbrev pub is_blank : ℕ → Bool
is_blank c = c == 0x20 || c == 0x09 || c == 0x0A || c == 0x0D

-- neither a blank nor a digit in either case
abbrev pub is_wrong : ℕ → Bool
is_wrong c = not (is_blank c || is_hex_digit c)

-- the place of the first wrong octet, if there is one
unfoldable pub first_wrong : List ℕ → Option ℕ
first_wrong text = position is_wrong text

-- the digits before the first wrong octet, or all digits where there is none
unfoldable pub digits : List ℕ → List ℕ
digits text = filter is_hex_digit (take_while (λ c. not (is_wrong c)) text)

-- the octet of two digits, the higher one first
abbrev pub octet_of : ℕ → ℕ → ℕ
octet_of high low = unwrap_or (hex_digit_value high) 0 * 16 + unwrap_or (hex_digit_value low) 0

-- the octets of digits, two an octet; an odd last digit is none
unfoldable pub octets_of_digits : List ℕ → List ℕ
octets_of_digits [] = []
octets_of_digits (digit ∷ []) = []
octets_of_digits (high ∷ low ∷ rest) = octet_of high low ∷ octets_of_digits rest

-- the number of digits is odd
abbrev pub IsOdd : List ℕ → Type 0
IsOdd digits = length digits % 2 ≡ 1

-- the last digit, where the number of digits is odd
unfoldable pub unpaired : List ℕ → Option ℕ
unpaired [] = None
unpaired (digit ∷ []) = Some digit
unpaired (high ∷ low ∷ rest) = unpaired rest

-- A reader in which this digit waits for its second, or none does, has read this input, in which no octet is wrong.
pub record StandsFor (waiting : Option ℕ) (seen : List ℕ) : Type 0 where
  pub right : first_wrong seen ≡ None
  pub waits : waiting ≡ unpaired (digits seen)

-- A reader took a further piece of its input, and put the octets that the piece completed after the old ones: whatever
-- input it stood for, these are the next octets of that input and then the piece.
pub record Completes (waiting : Option ℕ) (piece old new : List ℕ) : Type 0 where
  pub more : List ℕ
  pub appended : new ≡ old ++ more
  pub few : 2 * length more ≤ length piece + 1
  pub octets : (seen : List ℕ) → StandsFor waiting seen → octets_of_digits (digits (seen ++ piece)) ≡ octets_of_digits (digits seen) ++ more
