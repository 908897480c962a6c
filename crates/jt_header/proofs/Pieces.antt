-- The pieces of a list, words of two octets, and the bits of the attributes.
use Rattle.std.proofs.Common.{◌≡◌, ℕ, ◌+◌, ◌-◌, ◌*◌, ◌/◌, ◌%◌, ◌^◌, ◌<◌, ◌≤◌, List, [], ◌∷◌, ◌++◌, length, get_or, take, drop, sym, ap, ◌∙◌, refl, arith, add-zero, length-take, length-drop, get_or-drop, get_or-take}
use Rattle.std.proofs.lemmas.List.{take_more, take_all}
use Rattle.std.proofs.lemmas.Nat.{be_bytes_2}
use Rattle.jt_header.specs.Content.{word}
use Rattle.jt_header.specs.Fields.{word_at}
use Rattle.jt_value.specs.Octets.{AreOctets}
use Rattle.jt_value.proofs.OctetLists.{AreOctets-drop, AreOctets-take}

-- a word of a list is two octets of it
pub word_piece : (c : List ℕ) (i : ℕ) → AreOctets c → i + 2 ≤ length c → word (word_at i c) ≡ take 2 (drop i c)
word_piece c i are le =
    let first : get_or (take 2 (drop i c)) 0 0 ≡ get_or c i 0 = rw (get_or-take 2 (drop i c) 0 0 (omega arith), get_or-drop, add-zero) refl in
    let second : get_or (take 2 (drop i c)) 1 0 ≡ get_or c (i + 1) 0 = rw (get_or-take 2 (drop i c) 1 0 (omega arith), get_or-drop) refl in
    be_bytes_2 (take 2 (drop i c)) (word_at i c) (omega (arith, length-take 2 (drop i c), length-drop i c)) (AreOctets-take 2 (drop i c) (AreOctets-drop i c are)) (omega (arith, first, second))

-- a list is what stands before its last octet, and that octet
pub last_cut : (c : List ℕ) → 0 < length c → c ≡ take (length c - 1) c ++ get_or c (length c - 1) 0 ∷ []
last_cut c some =
    let n : (length c - 1) + 1 ≡ length c = omega arith in
    sym (take_all (length c) c (omega arith)) ∙ ap (λ (k : ℕ). take k c) (sym n) ∙ take_more c (length c - 1) 0 (omega arith)

-- attributes are the sum of their bits
pub bits_sum : (a len p e b : ℕ) → a < 2 ^ 16 → a % 2 ^ 10 ≡ len → a / 2 ^ 10 % 2 ^ 3 ≡ 0 → a / 2 ^ 13 % 2 ≡ p → a / 2 ^ 14 % 2 ≡ e → a / 2 ^ 15 % 2 ≡ b
    → len + p * 2 ^ 13 + e * 2 ^ 14 + b * 2 ^ 15 ≡ a
bits_sum a len p e b lt e10 e12 e13 e14 e15 = omega arith

-- such a sum has these bits
pub record Bits (a len p e b : ℕ) : Type 0 where
  pub fits : a < 2 ^ 16
  pub len_bits : a % 2 ^ 10 ≡ len
  pub plain : a / 2 ^ 10 % 2 ^ 3 ≡ 0
  pub bit13 : a / 2 ^ 13 % 2 ≡ p
  pub bit14 : a / 2 ^ 14 % 2 ≡ e
  pub bit15 : a / 2 ^ 15 % 2 ≡ b

pub bits_of_sum : (len p e b : ℕ) → len < 2 ^ 10 → p < 2 → e < 2 → b < 2 → Bits (len + p * 2 ^ 13 + e * 2 ^ 14 + b * 2 ^ 15) len p e b
bits_of_sum len p e b short one two other = record { fits = omega arith; len_bits = omega arith; plain = omega arith; bit13 = omega arith; bit14 = omega arith; bit15 = omega arith }
