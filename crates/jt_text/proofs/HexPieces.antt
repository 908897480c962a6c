-- Digits of octets that are printed piece by piece.
use Rattle.std.proofs.Common.{◌≡◌, ℕ, suc, lit<, true, length, List, [], ◌∷◌, ◌++◌, refl, sym, ap, ◌∙◌, append_assoc}
use Rattle.std.specs.Prelude.{◌==◌, codes}
use Rattle.std.proofs.lemmas.Bool.{eqb-true}
use Rattle.std.proofs.lemmas.List.{append-nil}
use Rattle.std.specs.Str.{IsAscii, IsUtf8}
use Rattle.std.proofs.lemmas.Str.{IsUtf8-from_ascii}
use Rattle.std.proofs.lemmas.Str.Ascii.{IsAscii-nil, IsAscii-cons}
use Rattle.hex.specs.Hex.{encode_with, encode_lower, lower_digits}
use Rattle.hex.proofs.HexLemmas.{IsAscii-encode_with}

pub encode-append : (a b : List ℕ) → encode_lower (a ++ b) ≡ encode_lower a ++ encode_lower b
unfolding encode_with
encode-append [] b = refl
encode-append (x ∷ a) b = rw (encode-append a b) refl

ascii_table : IsAscii lower_digits
ascii_table = IsAscii-cons 48 (codes "123456789abcdef") (lit< tt) (IsAscii-cons 49 (codes "23456789abcdef") (lit< tt) (IsAscii-cons 50 (codes "3456789abcdef") (lit< tt) (IsAscii-cons 51 (codes "456789abcdef") (lit< tt) (IsAscii-cons 52 (codes "56789abcdef") (lit< tt) (IsAscii-cons 53 (codes "6789abcdef") (lit< tt) (IsAscii-cons 54 (codes "789abcdef") (lit< tt) (IsAscii-cons 55 (codes "89abcdef") (lit< tt) (IsAscii-cons 56 (codes "9abcdef") (lit< tt) (IsAscii-cons 57 (codes "abcdef") (lit< tt) (IsAscii-cons 97 (codes "bcdef") (lit< tt) (IsAscii-cons 98 (codes "cdef") (lit< tt) (IsAscii-cons 99 (codes "def") (lit< tt) (IsAscii-cons 100 (codes "ef") (lit< tt) (IsAscii-cons 101 (codes "f") (lit< tt) (IsAscii-cons 102 [] (lit< tt) IsAscii-nil)))))))))))))))

pub utf8_digits : (octets : List ℕ) → IsUtf8 (encode_lower octets)
utf8_digits octets = IsUtf8-from_ascii (encode_lower octets) (IsAscii-encode_with lower_digits octets ascii_table)

-- a piece is printed, and the others are left
pub printed : (old text after piece others : List ℕ) (whole left : List ℕ) → text ++ encode_lower left ≡ old ++ encode_lower whole → left ≡ piece ++ others → after ≡ text ++ encode_lower piece → after ++ encode_lower others ≡ old ++ encode_lower whole
printed old text after piece others whole left so_far split put =
    rw put (append_assoc text (encode_lower piece) (encode_lower others)) ∙ ap (λ (t : List ℕ). text ++ t) (sym (ap encode_lower split ∙ encode-append piece others)) ∙ so_far

pub all_printed : (old text whole left : List ℕ) → text ++ encode_lower left ≡ old ++ encode_lower whole → left ≡ [] → text ≡ old ++ encode_lower whole
unfolding encode_with
all_printed old text whole left so_far none = sym (append-nil text) ∙ rw none at so_far

pub is_nil : (xs : List ℕ) → (length xs == 0) ≡ true → xs ≡ []
is_nil [] e = refl
is_nil (x ∷ xs) e = absurd (let n : suc (length xs) ≡ 0 = eqb-true (suc (length xs)) 0 e in cc)
