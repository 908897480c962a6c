-- Values as text: this project's texts. To be believed.
use Rattle.std.specs.Prelude.{ℕ, List, [], ◌∷◌, codes}
use Rattle.std.specs.Int.{w16, w32, to_be_bytes}
use Rattle.hex.specs.Hex.{encode_lower}

-- octets as lower-case hexadecimal digits, and no octets as `-`
abbrev pub octets_text : List ℕ → List ℕ
octets_text [] = codes "-"
octets_text (octet ∷ more) = encode_lower (octet ∷ more)

-- the two digits of an octet
abbrev pub byte_digits : ℕ → List ℕ
byte_digits n = encode_lower (n ∷ [])

-- the four digits of a number of two octets
abbrev pub word_digits : ℕ → List ℕ
word_digits n = encode_lower (to_be_bytes w16 n)

-- the eight digits of a number of four octets
abbrev pub dword_digits : ℕ → List ℕ
dword_digits n = encode_lower (to_be_bytes w32 n)
