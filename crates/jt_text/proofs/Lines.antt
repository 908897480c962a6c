-- A text that is put together from its end, in one room.
use Rattle.std.proofs.Common.{◌≡◌, ℕ, ◌+◌, ◌-◌, ◌*◌, ◌^◌, ◌<◌, ◌≤◌, length, take, drop, set, List, [], ◌∷◌, ◌++◌, refl, sym, ap, subst, ◌∙◌, arith, length-take-le, length-drop, length-set, slice_index, take_all, zero, suc, Bool, true, IsTrue, inl, inr, eqb, eq-zero-or-pos}
use Rattle.std.specs.Prelude.{◌/◌, ◌%◌, ◌&&◌}
use Rattle.std.proofs.lemmas.Bool.{and_parts, eqb-true}
use Rattle.std.specs.Str.{IsUtf8}
use Rattle.std.specs.Fmt.{decimal}
use Rattle.std.proofs.Math.ListN.{drop_of_length-le}
use Rattle.std.proofs.Math.Seq.{drop-append_seam, drop-length}
use Rattle.std.proofs.lemmas.Fmt.{IsAscii-decimal}
use Rattle.std.proofs.lemmas.List.{set_comm, drop-set, drop_more}
use Rattle.std.proofs.lemmas.Str.{IsUtf8-nil, IsUtf8-append, IsUtf8-from_ascii, IsUtf8-had}
use Rattle.hex.specs.Hex.{encode_lower, encode_with, lower_digits}
use Rattle.jt_text.specs.declared.line.TheConstants.{PAIRS}
use Rattle.jt_text.proofs.NamedValues.{passed}
use borrow.Rule.Slice.PartMut.{put_mid, post_of}

-- a text that is copied to the place before an end
pub put_in_front : (octets text : List ℕ) (start end : ℕ) → start + length text ≡ end → end ≤ length octets → drop start (put_mid start (end - start) octets text) ≡ text ++ drop end octets
put_in_front octets text start end ends within =
    let front : length (take start octets) ≡ start = length-take-le start octets (omega arith) in
    ap (λ (k : ℕ). drop k (take start octets ++ (text ++ post_of start (end - start) octets))) (sym front)
    ∙ drop-append_seam (take start octets) (text ++ post_of start (end - start) octets)
    ∙ ap (λ (rest : List ℕ). text ++ rest) (passed start end octets (omega arith))

-- two octets that are written there
pub two_in_front : (octets : List ℕ) (start end high low : ℕ) → start + 2 ≡ end → end ≤ length octets → drop start (set (set octets start high) (start + 1) low) ≡ high ∷ low ∷ drop end octets
two_in_front octets start end high low ends within =
    let e : start + 1 + 1 ≡ end = omega arith in
    rw (set_comm octets start (start + 1) high low (λ x. omega arith), drop-set (set octets (start + 1) low) start high (omega (arith, length-set octets (start + 1) low)), drop-set octets (start + 1) low (omega arith), e) refl

-- a text in front of a text
pub utf8_in_front : (text old new : List ℕ) → new ≡ text ++ old → IsUtf8 text → ∥ IsUtf8 old ∥₁ → ∥ IsUtf8 new ∥₁
utf8_in_front text old new e front behind = ∣ subst IsUtf8 (sym e) (IsUtf8-append text old front (IsUtf8-had old behind)) ∣₁

pub utf8_decimal : (n : ℕ) → n < 2 ^ 64 → IsUtf8 (decimal n)
utf8_decimal n fits = IsUtf8-from_ascii (decimal n) (IsAscii-decimal n fits)

-- the room before a text
pub room_before : (start : ℕ) (octets text : List ℕ) → length octets ≡ 512 → start ≤ 512 → drop start octets ≡ text → start + length text ≡ 512
room_before start octets text long within e = omega (arith, length-drop start octets, ap length e)

-- the room with no text
pub no_text : (octets : List ℕ) → length octets ≡ 512 → drop 512 octets ≡ []
no_text octets long = drop_of_length-le octets {i = 512} (omega (arith, long))

pub utf8_none : (octets : List ℕ) → length octets ≡ 512 → ∥ IsUtf8 (drop 512 octets) ∥₁
utf8_none octets long = ∣ subst IsUtf8 (sym (no_text octets long)) IsUtf8-nil ∣₁

-- the digits of an octet that are written there
pub octet_in_front : (octets : List ℕ) (start octet : ℕ) → 2 ≤ start → start ≤ length octets
    → drop (start - 2) (set (set octets (start - 2) (slice_index lower_digits (octet / 16))) (start - 2 + 1) (slice_index lower_digits (octet % 16))) ≡ encode_lower (octet ∷ []) ++ drop start octets
unfolding encode_with
octet_in_front octets start octet two within = two_in_front octets (start - 2) start (slice_index lower_digits (octet / 16)) (slice_index lower_digits (octet % 16)) (omega arith) within

-- the table has the digits of the first octets
abbrev is_pair : ℕ → Bool
is_pair octet = eqb (slice_index PAIRS (octet * 2)) (slice_index lower_digits (octet / 16)) && eqb (slice_index PAIRS (octet * 2 + 1)) (slice_index lower_digits (octet % 16))

abbrev are_pairs : ℕ → Bool
are_pairs zero = true
are_pairs (suc n) = is_pair n && are_pairs n

below : (n octet : ℕ) → IsTrue (are_pairs n) → octet < n → (slice_index PAIRS (octet * 2) ≡ slice_index lower_digits (octet / 16)) × (slice_index PAIRS (octet * 2 + 1) ≡ slice_index lower_digits (octet % 16))
below zero octet t h = absurd (omega arith)
below (suc n) octet t h =
    let parts : IsTrue (is_pair n) × IsTrue (are_pairs n) = and_parts (is_pair n) (are_pairs n) t in
    elim (eq-zero-or-pos (n - octet)) [
      | inl z ↦ let e : octet ≡ n = omega arith in let two = and_parts _ _ parts.0 in rw e (eqb-true _ _ two.0, eqb-true _ _ two.1)
      | inr g ↦ below n octet parts.1 (omega arith)
    ]

pub pair_at : (octet : ℕ) → octet < 256 → (slice_index PAIRS (octet * 2) ≡ slice_index lower_digits (octet / 16)) × (slice_index PAIRS (octet * 2 + 1) ≡ slice_index lower_digits (octet % 16))
pair_at octet h = below 256 octet refl h

-- no octets are written yet
pub none_written : (text behind : List ℕ) → behind ≡ drop (length text) text ++ behind
none_written text behind = rw (drop-length text) refl

-- the octet before those that are written
pub one_written : (text room behind : List ℕ) (at left : ℕ) → 0 < at → at ≤ length room → 0 < left → left ≤ length text → drop at room ≡ drop left text ++ behind
    → drop (at - 1) (set room (at - 1) (slice_index text (left - 1))) ≡ drop (left - 1) text ++ behind
one_written text room behind at left some within more short so_far =
    let octet : ℕ = slice_index text (left - 1) in
    let back : at - 1 + 1 ≡ at = omega arith in
    let back_text : left - 1 + 1 ≡ left = omega arith in
    let cut : drop (left - 1) text ≡ octet ∷ drop left text = drop_more text (left - 1) 0 (omega arith) ∙ ap (λ (k : ℕ). octet ∷ drop k text) back_text in
    drop-set room (at - 1) octet (omega arith) ∙ ap (λ (k : ℕ). octet ∷ drop k room) back ∙ ap (λ (xs : List ℕ). octet ∷ xs) so_far ∙ sym (ap (λ (xs : List ℕ). xs ++ behind) cut)

-- no octets are put yet
pub no_digits : (octets old : List ℕ) → old ≡ encode_lower (drop (length octets) octets) ++ old
unfolding encode_with
no_digits octets old = rw (drop-length octets) refl

-- the octet before those that are put
pub one_more : (octets old last new : List ℕ) (left : ℕ) → 0 < left → left ≤ length octets → last ≡ encode_lower (drop left octets) ++ old → new ≡ encode_lower (slice_index octets (left - 1) ∷ []) ++ last
    → new ≡ encode_lower (drop (left - 1) octets) ++ old
unfolding encode_with
one_more octets old last new left some within so_far put =
    let octet : ℕ = slice_index octets (left - 1) in
    let back : left - 1 + 1 ≡ left = omega arith in
    let cut : drop (left - 1) octets ≡ octet ∷ drop left octets = drop_more octets (left - 1) 0 (omega arith) ∙ ap (λ (k : ℕ). octet ∷ drop k octets) back in
    put ∙ ap (λ (xs : List ℕ). encode_lower (octet ∷ []) ++ xs) so_far ∙ sym (ap (λ (xs : List ℕ). encode_lower xs ++ old) cut)

-- the text is all that is behind its start
pub utf8_taken : (start : ℕ) (octets : List ℕ) → length octets ≡ 512 → ∥ IsUtf8 (drop start octets) ∥₁ → IsUtf8 (take (512 - start) (drop start octets))
utf8_taken start octets long is = subst IsUtf8 (sym (take_all (512 - start) (drop start octets) (omega (arith, length-drop start octets)))) (IsUtf8-had (drop start octets) is)
