-- A number that is put behind its name in one room.
use Rattle.std.proofs.Common.{◌≡◌, ℕ, ◌+◌, ◌-◌, ◌^◌, ◌<◌, ◌≤◌, length, take, drop, List, [], ◌++◌, refl, sym, ap, ◌∙◌, arith, length-append, length-take-le, length-drop, take_all, drop-drop}
use Rattle.std.specs.Str.{IsUtf8}
use Rattle.std.specs.Fmt.{decimal}
use Rattle.std.proofs.Math.Seq.{drop-append_seam}
use Rattle.std.proofs.lemmas.Fmt.{IsAscii-decimal, length-decimal-le}
use Rattle.std.proofs.lemmas.List.{append-nil}
use Rattle.std.proofs.lemmas.Str.{IsUtf8-append, IsUtf8-from_ascii}
use borrow.Rule.Slice.PartMut.{put_mid, post_of}

pub utf8_number : (name : List ℕ) (n : ℕ) → IsUtf8 name → n < 2 ^ 64 → IsUtf8 (name ++ decimal n)
utf8_number name n text fits = IsUtf8-append name (decimal n) text (IsUtf8-from_ascii (decimal n) (IsAscii-decimal n fits))

pub short_number : (n : ℕ) → n < 2 ^ 64 → length (decimal n) ≤ 20
short_number n fits = length-decimal-le 20 n (omega arith) (omega (arith, fits)) fits

pub passed : (start at : ℕ) (xs : List ℕ) → start + (at - start) ≡ at → drop (at - start) (drop start xs) ≡ drop at xs
passed start at xs total = drop-drop (at - start) start xs ∙ ap (λ (k : ℕ). drop k xs) total

-- the room before a number
pub room_for : (len at : ℕ) (buf : List ℕ) → len ≤ at → at ≤ length buf → length (take (at - (at - len)) (drop (at - len) buf)) ≡ len
room_for len at buf fits within = length-take-le (at - (at - len)) (drop (at - len) buf) (omega (arith, fits, within, length-drop (at - len) buf)) ∙ omega (arith, fits)

-- a number behind a name, in a room of so many octets that ends with the number
pub number_behind : (name copied buf rest : List ℕ) (n at room : ℕ) → copied ≡ name → length name ≤ at → at + length (decimal n) ≡ room → length buf ≡ room → drop at buf ≡ decimal n ++ rest → rest ≡ []
    → take (room - (at - length name)) (drop (at - length name) (put_mid (at - length name) (at - (at - length name)) buf copied)) ≡ name ++ decimal n
number_behind name copied buf rest n at room same fits ends long digits none =
    let start : ℕ = at - length name in
    let front : length (take start buf) ≡ start = length-take-le start buf (omega (arith, ends, long)) in
    let total : start + (at - start) ≡ at = omega (arith, fits) in
    let moved : drop (at - start) (drop start buf) ≡ drop at buf = passed start at buf total in
    let behind : post_of start (at - start) buf ≡ decimal n = moved ∙ digits ∙ ap (λ (xs : List ℕ). decimal n ++ xs) none ∙ append-nil (decimal n) in
    let whole : drop start (put_mid start (at - start) buf copied) ≡ name ++ decimal n =
    ap (λ (k : ℕ). drop k (take start buf ++ (copied ++ post_of start (at - start) buf))) (sym front) ∙ drop-append_seam (take start buf) (copied ++ post_of start (at - start) buf)
    ∙ rw (same, behind) refl in
    rw whole (take_all (room - start) (name ++ decimal n) (omega (arith, length-append name (decimal n), ends, fits)))
