-- Check octets, escapes and frames, as the standard's framing has them. To be believed.
use Rattle.std.specs.Prelude.{ℕ, List, [], ◌∷◌, ◌++◌, ◌==◌, if◌then◌else◌, fold, bit_xor}
use Rattle.std.specs.List.{flat_map}

-- the XOR of all octets, 0 for none
abbrev pub check_of : List ℕ → ℕ
check_of octets = fold bit_xor 0 octets

-- a flag and an escape are two octets on the line, and each other octet is itself
abbrev pub escaped_octet : ℕ → List ℕ
escaped_octet octet = if octet == 0x7E then 0x7D ∷ 0x02 ∷ [] else if octet == 0x7D then 0x7D ∷ 0x01 ∷ [] else octet ∷ []

-- the octets of a content on the line
abbrev pub escaped : List ℕ → List ℕ
escaped content = flat_map escaped_octet content

-- the frame of a content: a flag, the escaped content, a flag
abbrev pub framed : List ℕ → List ℕ
framed content = 0x7E ∷ escaped content ++ 0x7E ∷ []
