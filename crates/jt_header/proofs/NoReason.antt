-- Octets with no reason are a content.
use Rattle.std.proofs.Common.{◌≡◌, ◌≢◌, ℕ, zero, suc, ◌+◌, ◌-◌, ◌^◌, ◌<◌, ◌≤◌, Bool, true, false, cond, eqb, ltb, ◌||◌, List, [], ◌∷◌, ◌++◌, length, get_or, take, drop, Some, None, refl, sym, ap, subst, ◌∙◌, append_assoc, arith, inl, inr, length-take, length-drop}
use Rattle.std.specs.Prelude.{slice_range}
use Rattle.std.proofs.lemmas.Bool.{cases_eq, eq-eqb, ne_eqb, eqb-true, eqb-false, ltb-false, or_parts}
use Rattle.std.proofs.lemmas.List.{append-nil, take_more}
use Rattle.std.proofs.Math.Seq.{take-add}
use Rattle.jt_value.specs.Phone.{padding, field_len, field_of, first_bad}
use Rattle.jt_value.specs.declared.phone.Edition.{Edition}
use Rattle.jt_value.specs.declared.phone.Edition.TheVariants.{E2013, E2019}
use Rattle.jt_escape.specs.Frame.{check_of}
use Rattle.jt_header.specs.declared.header.Header.{Header}
use Rattle.jt_header.specs.Content.{word, bit, packet_bit, edition_bit, attributes, version_octets, packet_octets, header_octets, header_len, IsVersion, IsPacket, Content, checked}
use Rattle.jt_header.specs.Fields.{word_at, attributes_at, bit_at, edition_in, has_packet, has_bit15, header_len_in, length_bits, encryption_bits, phone_place, phone_at, serial_place, packet_place, packet_at, version_at, header_in, header_at, body_at}
use Rattle.jt_value.specs.Octets.{AreOctets}
use Rattle.jt_header.specs.Reason.{too_short, check_mismatch, encrypted, length_mismatch, phone_digit, bad_packet_number, reason, Reads}
use Rattle.jt_header.proofs.Pieces.{word_piece, last_cut, bits_sum}
use Rattle.jt_header.proofs.Rows.{no_row, when_none, map_none, not_false}

two_bits : (b : ℕ) → b < 2 → bit (eqb b 1) ≡ b
two_bits zero lt = refl
two_bits (suc zero) lt = refl
two_bits (suc (suc b)) lt = absurd (omega arith)

packet_bit_at : (e : Edition) (c : List ℕ) → packet_bit (packet_at e c) ≡ bit_at 13 (attributes_at c)
unfolding packet_at
packet_bit_at e c =
    elim (cases_eq (bit_at 13 (attributes_at c)) 1) [
      | inl is ↦ rw (eq-eqb _ _ is) (sym is)
      | inr ne ↦ rw (ne_eqb _ _ ne) (omega (arith, ne))
    ]

edition_bit_at : (bits : ℕ) → edition_bit (edition_in bits) ≡ bit_at 14 bits
edition_bit_at bits =
    elim (cases_eq (bit_at 14 bits) 1) [
      | inl is ↦ rw (eq-eqb _ _ is) (sym is)
      | inr ne ↦ rw (ne_eqb _ _ ne) (omega (arith, ne))
    ]

field_back : (e : Edition) (field : List ℕ) → field_of e (padding e ++ field) ≡ field
field_back E2013 field = refl
field_back E2019 field = refl

-- what stands before the phone
lead : (e : Edition) (c a b : List ℕ) → phone_place e ≤ length c → a ≡ take 2 c → b ≡ take 2 (drop 2 c) → a ++ b ++ version_octets e (version_at e c) ≡ take (phone_place e) c
lead E2013 c a b le x y = rw (x, y, ← take-add 2 2 c) (append-nil (take 4 c))
lead E2019 c a b le x y = rw (x, y, ← take-add 2 2 c) (sym (take_more c 4 0 (omega (arith, le))))

-- what stands before the packet fields
before_packet : (e : Edition) (c a b f s : List ℕ) → phone_place e ≤ length c → a ≡ take 2 c → b ≡ take 2 (drop 2 c) → f ≡ phone_at e c → s ≡ take 2 (drop (serial_place e) c)
    → a ++ b ++ version_octets e (version_at e c) ++ f ++ s ≡ take (serial_place e + 2) c
before_packet e c a b f s le x y z w =
    ap (λ (xs : List ℕ). xs ++ f ++ s) (lead e c a b le x y)
    ∙ ap (λ (xs : List ℕ). take (phone_place e) c ++ xs ++ s) z
    ∙ ap (λ (xs : List ℕ). xs ++ s) (sym (take-add (phone_place e) (field_len e) c))
    ∙ ap (λ (xs : List ℕ). take (serial_place e) c ++ xs) w
    ∙ sym (take-add (serial_place e) 2 c)

two_words : (c : List ℕ) (i : ℕ) → AreOctets c → i + 4 ≤ length c → take i c ++ (word (word_at i c) ++ word (word_at (i + 2) c)) ≡ take (i + 2 + 2) c
two_words c i are le =
    let joined : take i c ++ (take 2 (drop i c) ++ take 2 (drop (i + 2) c)) ≡ take (i + 2 + 2) c =
    sym (append_assoc (take i c) (take 2 (drop i c)) (take 2 (drop (i + 2) c))) ∙ rw (← take-add i 2 c) (sym (take-add (i + 2) 2 c)) in
    ap (λ (xs : List ℕ). take i c ++ (xs ++ word (word_at (i + 2) c))) (word_piece c i are (omega arith))
    ∙ ap (λ (xs : List ℕ). take i c ++ (take 2 (drop i c) ++ xs)) (word_piece c (i + 2) are (omega arith)) ∙ joined

packet_piece : (e : Edition) (flag : Bool) (c : List ℕ) → AreOctets c → header_len e flag < length c
    → take (serial_place e + 2) c ++ packet_octets (cond flag (Some (record { total = word_at (packet_place e) c; number = word_at (packet_place e + 2) c })) None) ≡ take (header_len e flag) c
packet_piece E2013 true c are lt = two_words c 12 are (omega arith)
packet_piece E2019 true c are lt = two_words c 17 are (omega arith)
packet_piece E2013 false c are lt = append-nil (take 12 c)
packet_piece E2019 false c are lt = append-nil (take 17 c)

-- a header has room for its fields
room : (e : Edition) (flag : Bool) → (4 ≤ phone_place e) × (serial_place e + 2 ≤ header_len e flag)
room E2013 true = (omega arith, omega arith)
room E2013 false = (omega arith, omega arith)
room E2019 true = (omega arith, omega arith)
room E2019 false = (omega arith, omega arith)

-- a header that is read from the front has the front's octets
front : (e : Edition) (c : List ℕ) (n : ℕ) → AreOctets c → header_len e (has_packet (attributes_at c)) < length c → attributes (header_in e c) n ≡ attributes_at c
    → header_octets (header_in e c) n ≡ take (header_len e (has_packet (attributes_at c))) c
unfolding header_in packet_at
front e c n are lt same =
    let space = room e (has_packet (attributes_at c)) in
    ap (λ (xs : List ℕ). xs ++ packet_octets (packet_at e c))
    (before_packet e c (word (word_at 0 c)) (word (attributes (header_in e c) n)) (field_of e (padding e ++ phone_at e c)) (word (word_at (serial_place e) c)) (omega (arith, lt, space.1))
    (word_piece c 0 are (omega (arith, lt, space.0, space.1))) (ap word same ∙ word_piece c 2 are (omega (arith, lt, space.0, space.1))) (field_back e (phone_at e c))
    (word_piece c (serial_place e) are (omega (arith, lt, space.1))))
    ∙ packet_piece e (has_packet (attributes_at c)) c are lt

packet_good : (e : Edition) (flag : Bool) (total number : ℕ) → total < 2 ^ 16 → bad_packet_number e (cond flag (Some (record { total = total; number = number })) None) ≡ None
    → IsPacket (cond flag (Some (record { total = total; number = number })) None)
unfolding bad_packet_number
packet_good e false total number fits none = tt
packet_good e true total number fits none =
    let ors = or_parts ((eqb total 0) || (eqb number 0)) (ltb total number) (when_none _ _ none) in
    let zeros = or_parts (eqb total 0) (eqb number 0) ors.0 in
    let some : number ≢ 0 = eqb-false number 0 zeros.1 in
    (omega (arith, some), ltb-false total number ors.1, fits)

version_good : (e : Edition) (c : List ℕ) → AreOctets c → IsVersion e (version_at e c)
version_good E2013 c are = refl
version_good E2019 c are = are 4

phone_len : (e : Edition) (c : List ℕ) → serial_place e ≤ length c → length (padding e ++ phone_at e c) ≡ 10
phone_len E2013 c le = omega (arith, le, length-take 6 (drop 4 c), length-drop 4 c)
phone_len E2019 c le = omega (arith, le, length-take 10 (drop 5 c), length-drop 5 c)

found_in : (e : Edition) (c : List ℕ) (start : ℕ) → AreOctets c → edition_in (attributes_at c) ≡ e → header_len e (has_packet (attributes_at c)) ≡ start → reason c ≡ None
    → Content (header_in e c) (slice_range c start (length c - 1)) c
unfolding too_short check_mismatch encrypted length_mismatch phone_digit header_in packet_at
found_in e c start are edition len_is none =
    let bits : ℕ = attributes_at c in
    let rows = no_row c e edition none in
    let start_is : header_len_in (attributes_at c) ≡ start = ap (λ (x : Edition). header_len x (has_packet (attributes_at c))) edition ∙ len_is in
    let s = or_parts (ltb (length c) 5) (ltb (length c) (header_len_in (attributes_at c) + 1)) (when_none _ _ rows.short) in
    let least : header_len_in (attributes_at c) + 1 ≤ length c = ltb-false _ _ s.1 in
    let long : start < length c = omega (arith, least, start_is) in
    let some : 0 < length c = omega arith in
    let good : check_of (take (length c - 1) c) ≡ get_or c (length c - 1) 0 = eqb-true _ _ (not_false _ (when_none _ _ rows.check)) in
    let plain : encryption_bits (attributes_at c) ≡ 0 = eqb-true _ _ (not_false _ (when_none _ _ rows.encrypted)) in
    let len : length_bits (attributes_at c) ≡ length c - start - 1 = eqb-true _ _ (not_false _ (when_none _ _ rows.len)) ∙ ap (λ (n : ℕ). length c - n - 1) start_is in
    let digits : first_bad (phone_at e c) ≡ None = map_none _ _ rows.digit in
    let body : length (slice_range c start (length c - 1)) ≡ length c - start - 1 = omega (arith, length-take (length c - 1 - start) (drop start c), length-drop start c) in
    let space = room e (has_packet (attributes_at c)) in
    let fits : attributes_at c < 2 ^ 16 = omega (arith, are 2, are 3) in
    let same : attributes (header_in e c) (length c - start - 1) ≡ attributes_at c =
    bits_sum (attributes_at c) (length c - start - 1) (packet_bit (packet_at e c)) (edition_bit e) (bit (has_bit15 (attributes_at c))) fits len plain (sym (packet_bit_at e c))
    (sym (edition_bit_at (attributes_at c)) ∙ ap edition_bit edition) (sym (two_bits _ (omega arith))) in
    let octets : header_octets (header_in e c) (length (slice_range c start (length c - 1))) ≡ take start c =
    ap (header_octets (header_in e c)) body ∙ front e c (length c - start - 1) are (omega (arith, len_is, long)) same ∙ ap (λ (n : ℕ). take n c) len_is in
    let joined : checked (header_in e c) (slice_range c start (length c - 1)) ≡ take (length c - 1) c =
    ap (λ (xs : List ℕ). xs ++ slice_range c start (length c - 1)) octets ∙ sym (take-add start (length c - 1 - start) c) ∙ ap (λ (n : ℕ). take n c) (omega arith) in
    record {
      header = record {
        id = omega (arith, are 0, are 1);
        version = version_good e c are;
        phone_edition = refl;
        phone = record {
          len = phone_len e c (omega (arith, long, len_is, space.1));
          padded = sym (ap (λ (xs : List ℕ). padding e ++ xs) (field_back e (phone_at e c)));
          decimal = ap first_bad (field_back e (phone_at e c)) ∙ digits;
        };
        serial = omega (arith, are (serial_place e), are (serial_place e + 1));
        packet = packet_good e (has_packet (attributes_at c)) (word_at (packet_place e) c) (word_at (packet_place e + 2) c) (omega (arith, are (packet_place e), are (packet_place e + 1))) rows.packet;
      };
      short = omega (arith, body, len);
      octets = last_cut c some ∙ ap (λ (x : ℕ). take (length c - 1) c ++ x ∷ []) (sym good) ∙ ap (λ (xs : List ℕ). xs ++ check_of xs ∷ []) (sym joined);
    }

pub found : (c : List ℕ) → AreOctets c → reason c ≡ None → Content (header_at c) (body_at c) c
found c are none = found_in (edition_in (attributes_at c)) c (header_len_in (attributes_at c)) are refl refl none

pub as_content : (c : List ℕ) (h : Header) (body : List ℕ) → AreOctets c → Reads c h body → Content h body c
as_content c h body are r =
    subst (λ (x : Header). Content x body c) (sym r.header) (subst (λ (b : List ℕ). Content (header_at c) b c) (sym r.body_is) (found c are r.no_reason))
