-- A content has no reason, and its header and body stand in it.
use Rattle.std.proofs.Common.{◌≡◌, ◌≢◌, ℕ, ◌+◌, ◌-◌, ◌*◌, ◌^◌, ◌<◌, ◌≤◌, Bool, true, false, eqb, ltb, not, List, [], ◌∷◌, ◌++◌, length, get_or, take, drop, Option, Some, None, refl, sym, ap, subst, ◌∙◌, arith, length-append, length-drop}
use Rattle.std.specs.Prelude.{is_some}
use Rattle.std.proofs.lemmas.Bool.{eq-eqb, ne_eqb, or_from, le-ltb}
use Rattle.std.proofs.lemmas.List.{take_at, get_or_push}
use Rattle.jt_value.specs.Phone.{padding, field_len, field_of, first_bad}
use Rattle.jt_value.specs.declared.phone.Edition.{Edition}
use Rattle.jt_value.specs.declared.phone.Edition.TheVariants.{E2013, E2019}
use Rattle.jt_value.specs.declared.refusal.Refusal.{Refusal}
use Rattle.jt_escape.specs.Frame.{check_of}
use Rattle.jt_header.specs.declared.header.Packet.{Packet}
use Rattle.jt_header.specs.declared.header.Header.{Header}
use Rattle.jt_header.specs.Content.{bit, packet_bit, edition_bit, header_len, IsVersion, IsPacket, Content, checked, content_of}
use Rattle.jt_header.specs.Fields.{word_at, attributes_at, bit_at, edition_in, has_packet, header_len_in, length_bits, encryption_bits, body_len_at, phone_at, serial_place, packet_at, version_at, header_in}
use Rattle.jt_header.specs.Reason.{Reads, too_short, check_mismatch, encrypted, length_mismatch, phone_digit, bad_packet_number, reason}
use Rattle.jt_header.proofs.Pieces.{Bits, bits_of_sum}
use Rattle.jt_header.proofs.Rows.{no_reason, none_when}

record IsSix (six : List ℕ) : Type 0 where
  a : ℕ
  b : ℕ
  c : ℕ
  d : ℕ
  e : ℕ
  f : ℕ
  is : six ≡ a ∷ b ∷ c ∷ d ∷ e ∷ f ∷ []

six_cells : (six : List ℕ) → length six ≡ 6 → IsSix six
six_cells [] h = absurd (omega (arith, h))
six_cells (a ∷ []) h = absurd (omega (arith, h))
six_cells (a ∷ b ∷ []) h = absurd (omega (arith, h))
six_cells (a ∷ b ∷ c ∷ []) h = absurd (omega (arith, h))
six_cells (a ∷ b ∷ c ∷ d ∷ []) h = absurd (omega (arith, h))
six_cells (a ∷ b ∷ c ∷ d ∷ e ∷ []) h = absurd (omega (arith, h))
six_cells (a ∷ b ∷ c ∷ d ∷ e ∷ f ∷ []) h = record { a = a; b = b; c = c; d = d; e = e; f = f; is = refl }
six_cells (a ∷ b ∷ c ∷ d ∷ e ∷ f ∷ g ∷ more) h = absurd (omega (arith, h))

record IsTen (ten : List ℕ) : Type 0 where
  a : ℕ
  b : ℕ
  c : ℕ
  d : ℕ
  e : ℕ
  f : ℕ
  g : ℕ
  h : ℕ
  i : ℕ
  j : ℕ
  is : ten ≡ a ∷ b ∷ c ∷ d ∷ e ∷ f ∷ g ∷ h ∷ i ∷ j ∷ []

ten_cells : (ten : List ℕ) → length ten ≡ 10 → IsTen ten
ten_cells [] e = absurd (omega (arith, e))
ten_cells (x0 ∷ []) e = absurd (omega (arith, e))
ten_cells (x0 ∷ x1 ∷ []) e = absurd (omega (arith, e))
ten_cells (x0 ∷ x1 ∷ x2 ∷ []) e = absurd (omega (arith, e))
ten_cells (x0 ∷ x1 ∷ x2 ∷ x3 ∷ []) e = absurd (omega (arith, e))
ten_cells (x0 ∷ x1 ∷ x2 ∷ x3 ∷ x4 ∷ []) e = absurd (omega (arith, e))
ten_cells (x0 ∷ x1 ∷ x2 ∷ x3 ∷ x4 ∷ x5 ∷ []) e = absurd (omega (arith, e))
ten_cells (x0 ∷ x1 ∷ x2 ∷ x3 ∷ x4 ∷ x5 ∷ x6 ∷ []) e = absurd (omega (arith, e))
ten_cells (x0 ∷ x1 ∷ x2 ∷ x3 ∷ x4 ∷ x5 ∷ x6 ∷ x7 ∷ []) e = absurd (omega (arith, e))
ten_cells (x0 ∷ x1 ∷ x2 ∷ x3 ∷ x4 ∷ x5 ∷ x6 ∷ x7 ∷ x8 ∷ []) e = absurd (omega (arith, e))
ten_cells (x0 ∷ x1 ∷ x2 ∷ x3 ∷ x4 ∷ x5 ∷ x6 ∷ x7 ∷ x8 ∷ x9 ∷ []) e = record { a = x0; b = x1; c = x2; d = x3; e = x4; f = x5; g = x6; h = x7; i = x8; j = x9; is = refl }
ten_cells (x0 ∷ x1 ∷ x2 ∷ x3 ∷ x4 ∷ x5 ∷ x6 ∷ x7 ∷ x8 ∷ x9 ∷ x10 ∷ more) e = absurd (omega (arith, e))

abbrev made : Edition → ℕ → ℕ → ℕ → Bool → List ℕ → Option Packet → Header
made e v id serial b field p = record { edition = e; id = id; bit15 = b; version = v; phone = record { edition = e; digits = padding e ++ field }; serial = serial; packet = p }

-- what stands where in a content
record Stands (e : Edition) (v id serial : ℕ) (b : Bool) (field : List ℕ) (p : Option Packet) (body c : List ℕ) : Type 0 where
  len : length c ≡ header_len e (is_some p) + length body + 1
  bits : attributes_at c ≡ length body + packet_bit p * 2 ^ 13 + edition_bit e * 2 ^ 14 + bit b * 2 ^ 15
  id_at : word_at 0 c ≡ id
  version_is : version_at e c ≡ v
  serial_at : word_at (serial_place e) c ≡ serial
  phone_is : phone_at e c ≡ field
  body_is : take (length body) (drop (header_len e (is_some p)) c) ≡ body
  flag_is : has_packet (attributes_at c) ≡ is_some p
  packet_is : packet_at e c ≡ p

bit_below : (b : Bool) → bit b < 2
bit_below true = omega arith
bit_below false = omega arith

abbrev some_packet : ℕ → ℕ → Option Packet
some_packet total number = Some (record { total = total; number = number })

packet_same : (a b c d : ℕ) → a ≡ c → b ≡ d → some_packet a b ≡ some_packet c d
packet_same a b c d e f = cc

stands_2013 : (v id serial : ℕ) (b : Bool) (s0 s1 s2 s3 s4 s5 : ℕ) (p : Option Packet) (body : List ℕ) (y : ℕ) → IsVersion E2013 v → id < 2 ^ 16 → serial < 2 ^ 16 → length body < 2 ^ 10 → IsPacket p
    → Stands E2013 v id serial b (s0 ∷ s1 ∷ s2 ∷ s3 ∷ s4 ∷ s5 ∷ []) p body (checked (made E2013 v id serial b (s0 ∷ s1 ∷ s2 ∷ s3 ∷ s4 ∷ s5 ∷ []) p) body ++ y ∷ [])
unfolding packet_at
stands_2013 v id serial b s0 s1 s2 s3 s4 s5 None body y version f g short is =
    let flag = bit_below b in
    let c = checked (made E2013 v id serial b (s0 ∷ s1 ∷ s2 ∷ s3 ∷ s4 ∷ s5 ∷ []) None) body ++ y ∷ [] in
    let none : bit_at 13 (attributes_at c) ≢ 1 = λ e. omega (arith, e) in
    record {
      len = omega (arith, length-append body (y ∷ []));
      bits = omega arith;
      id_at = omega arith;
      version_is = sym version;
      serial_at = omega arith;
      phone_is = refl;
      body_is = take_at body (y ∷ []) (length body) refl;
      flag_is = rw (ne_eqb (bit_at 13 (attributes_at c)) 1 none) refl;
      packet_is = rw (ne_eqb (bit_at 13 (attributes_at c)) 1 none) refl;
    }
stands_2013 v id serial b s0 s1 s2 s3 s4 s5 (Some p) body y version f g short is =
    let flag = bit_below b in
    let c = checked (made E2013 v id serial b (s0 ∷ s1 ∷ s2 ∷ s3 ∷ s4 ∷ s5 ∷ []) (Some p)) body ++ y ∷ [] in
    let one : bit_at 13 (attributes_at c) ≡ 1 = omega arith in
    record {
      len = omega (arith, length-append body (y ∷ []));
      bits = omega arith;
      id_at = omega arith;
      version_is = sym version;
      serial_at = omega arith;
      phone_is = refl;
      body_is = take_at body (y ∷ []) (length body) refl;
      flag_is = rw (eq-eqb (bit_at 13 (attributes_at c)) 1 one) refl;
      packet_is = rw (eq-eqb (bit_at 13 (attributes_at c)) 1 one) (packet_same _ _ p.total p.number (omega (arith, is.2)) (omega (arith, is.1, is.2)));
    }

stands_2019 : (v id serial : ℕ) (b : Bool) (s0 s1 s2 s3 s4 s5 s6 s7 s8 s9 : ℕ) (p : Option Packet) (body : List ℕ) (y : ℕ) → IsVersion E2019 v → id < 2 ^ 16 → serial < 2 ^ 16 → length body < 2 ^ 10 → IsPacket p
    → Stands E2019 v id serial b (s0 ∷ s1 ∷ s2 ∷ s3 ∷ s4 ∷ s5 ∷ s6 ∷ s7 ∷ s8 ∷ s9 ∷ []) p body (checked (made E2019 v id serial b (s0 ∷ s1 ∷ s2 ∷ s3 ∷ s4 ∷ s5 ∷ s6 ∷ s7 ∷ s8 ∷ s9 ∷ []) p) body ++ y ∷ [])
unfolding packet_at
stands_2019 v id serial b s0 s1 s2 s3 s4 s5 s6 s7 s8 s9 None body y version f g short is =
    let flag = bit_below b in
    let c = checked (made E2019 v id serial b (s0 ∷ s1 ∷ s2 ∷ s3 ∷ s4 ∷ s5 ∷ s6 ∷ s7 ∷ s8 ∷ s9 ∷ []) None) body ++ y ∷ [] in
    let none : bit_at 13 (attributes_at c) ≢ 1 = λ e. omega (arith, e) in
    record {
      len = omega (arith, length-append body (y ∷ []));
      bits = omega arith;
      id_at = omega arith;
      version_is = refl;
      serial_at = omega arith;
      phone_is = refl;
      body_is = take_at body (y ∷ []) (length body) refl;
      flag_is = rw (ne_eqb (bit_at 13 (attributes_at c)) 1 none) refl;
      packet_is = rw (ne_eqb (bit_at 13 (attributes_at c)) 1 none) refl;
    }
stands_2019 v id serial b s0 s1 s2 s3 s4 s5 s6 s7 s8 s9 (Some p) body y version f g short is =
    let flag = bit_below b in
    let c = checked (made E2019 v id serial b (s0 ∷ s1 ∷ s2 ∷ s3 ∷ s4 ∷ s5 ∷ s6 ∷ s7 ∷ s8 ∷ s9 ∷ []) (Some p)) body ++ y ∷ [] in
    let one : bit_at 13 (attributes_at c) ≡ 1 = omega arith in
    record {
      len = omega (arith, length-append body (y ∷ []));
      bits = omega arith;
      id_at = omega arith;
      version_is = refl;
      serial_at = omega arith;
      phone_is = refl;
      body_is = take_at body (y ∷ []) (length body) refl;
      flag_is = rw (eq-eqb (bit_at 13 (attributes_at c)) 1 one) refl;
      packet_is = rw (eq-eqb (bit_at 13 (attributes_at c)) 1 one) (packet_same _ _ p.total p.number (omega (arith, is.2)) (omega (arith, is.1, is.2)));
    }

stands : (e : Edition) (v id serial : ℕ) (b : Bool) (field : List ℕ) (p : Option Packet) (body : List ℕ) (y : ℕ) → length field ≡ field_len e → IsVersion e v → id < 2 ^ 16 → serial < 2 ^ 16 → length body < 2 ^ 10
    → IsPacket p → Stands e v id serial b field p body (checked (made e v id serial b field p) body ++ y ∷ [])
stands E2013 v id serial b field p body y len version f g short is =
    let x = six_cells field len in
    subst (λ (xs : List ℕ). Stands E2013 v id serial b xs p body (checked (made E2013 v id serial b xs p) body ++ y ∷ [])) (sym x.is) (stands_2013 v id serial b x.a x.b x.c x.d x.e x.f p body y version f g short is)
stands E2019 v id serial b field p body y len version f g short is =
    let x = ten_cells field len in
    subst (λ (xs : List ℕ). Stands E2019 v id serial b xs p body (checked (made E2019 v id serial b xs p) body ++ y ∷ [])) (sym x.is) (stands_2019 v id serial b x.a x.b x.c x.d x.e x.f x.g x.h x.i x.j p body y version f g short is)

packet_row : (e : Edition) (p : Option Packet) → IsPacket p → bad_packet_number e p ≡ None
unfolding bad_packet_number
packet_row e None is = refl
packet_row e (Some p) is =
    let t : p.total ≢ 0 = λ z. omega (arith, z, is.0, is.1) in
    let n : p.number ≢ 0 = λ z. omega (arith, z, is.0) in
    rw (ne_eqb p.total 0 t, ne_eqb p.number 0 n, le-ltb p.total p.number is.1) refl

bit_back : (b : Bool) → eqb (bit b) 1 ≡ b
bit_back true = refl
bit_back false = refl

edition_back : (e : Edition) (bits : ℕ) → bit_at 14 bits ≡ edition_bit e → edition_in bits ≡ e
edition_back E2013 bits is = rw is refl
edition_back E2019 bits is = rw is refl

edition_bit_below : (e : Edition) → edition_bit e < 2
edition_bit_below E2013 = omega arith
edition_bit_below E2019 = omega arith

header_len_bounds : (e : Edition) (p : Option Packet) → (12 ≤ header_len e (is_some p)) × (header_len e (is_some p) ≤ 21)
header_len_bounds E2013 None = (omega arith, omega arith)
header_len_bounds E2013 (Some p) = (omega arith, omega arith)
header_len_bounds E2019 None = (omega arith, omega arith)
header_len_bounds E2019 (Some p) = (omega arith, omega arith)

header_same : (e : Edition) (v w i j s t : ℕ) (a b : Bool) (x y : List ℕ) (p q : Option Packet) → v ≡ w → i ≡ j → s ≡ t → a ≡ b → x ≡ y → p ≡ q → made e v i s a x p ≡ made e w j t b y q
header_same e v w i j s t a b x y p q e0 e1 e2 e3 e4 e5 = cc

packet_bit_below : (p : Option Packet) → packet_bit p < 2
packet_bit_below None = omega arith
packet_bit_below (Some p) = omega arith

reads : (e : Edition) (v id serial : ℕ) (b : Bool) (field : List ℕ) (p : Option Packet) (body c front : List ℕ) → c ≡ front ++ check_of front ∷ [] → Stands e v id serial b field p body c
    → first_bad field ≡ None → length body < 2 ^ 10 → IsPacket p → Reads c (made e v id serial b field p) body
unfolding too_short check_mismatch encrypted length_mismatch phone_digit header_in
reads e v id serial b field p body c front whole st digits short is =
    let sums : Bits (attributes_at c) (length body) (packet_bit p) (edition_bit e) (bit b) =
    subst (λ (a : ℕ). Bits a (length body) (packet_bit p) (edition_bit e) (bit b)) (sym st.bits) (bits_of_sum (length body) (packet_bit p) (edition_bit e) (bit b) short (packet_bit_below p) (edition_bit_below e) (bit_below b)) in
    let edition : edition_in (attributes_at c) ≡ e = edition_back e (attributes_at c) sums.bit14 in
    let start : header_len_in (attributes_at c) ≡ header_len e (is_some p) = ap (λ (x : Edition). header_len x (has_packet (attributes_at c))) edition ∙ ap (header_len e) st.flag_is in
    let bounds = header_len_bounds e p in
    let long : (5 ≤ length c) × (header_len_in (attributes_at c) + 1 ≤ length c) = (omega (arith, st.len, bounds.0), omega (arith, st.len, start)) in
    let rest : body_len_at c ≡ length body = omega (arith, st.len, start) in
    let last : length front ≡ length c - 1 = omega (arith, ap length whole, length-append front (check_of front ∷ [])) in
    let before : take (length c - 1) c ≡ front = ap (λ (k : ℕ). take k c) (sym last) ∙ ap (take (length front)) whole ∙ take_at front (check_of front ∷ []) (length front) refl in
    let octet : get_or c (length c - 1) 0 ≡ check_of front = ap (λ (k : ℕ). get_or c k 0) (sym last) ∙ ap (λ (xs : List ℕ). get_or xs (length front) 0) whole ∙ get_or_push front (check_of front) 0 (length front) refl in
    let size : (length c - 1) - header_len_in (attributes_at c) ≡ length body = omega (arith, st.len, start) in
    record {
      no_reason = no_reason c e edition (record {
        short = none_when _ _ (or_from (ltb (length c) 5) (ltb (length c) (header_len_in (attributes_at c) + 1)) (le-ltb _ _ long.0) (le-ltb _ _ long.1));
        check = none_when _ _ (ap not (eq-eqb (check_of (take (length c - 1) c)) (get_or c (length c - 1) 0) (ap check_of before ∙ sym octet)));
        encrypted = none_when _ _ (ap not (eq-eqb (encryption_bits (attributes_at c)) 0 sums.plain));
        len = none_when _ _ (ap not (eq-eqb (length_bits (attributes_at c)) (body_len_at c) (sums.len_bits ∙ sym rest)));
        digit = rw (st.phone_is, digits) refl;
        packet = rw st.packet_is (packet_row e p is);
      });
      header = sym (ap (λ (x : Edition). header_in x c) edition
          ∙ header_same e _ v _ id _ serial _ b _ field _ p st.version_is st.id_at st.serial_at (ap (λ (n : ℕ). eqb n 1) sums.bit15 ∙ bit_back b) st.phone_is st.packet_is);
      body_is = sym (ap (λ (k : ℕ). take k (drop (header_len_in (attributes_at c)) c)) size ∙ ap (λ (k : ℕ). take (length body) (drop k c)) start ∙ st.body_is);
    }

abbrev whole_header : Edition → ℕ → Bool → ℕ → Edition → List ℕ → ℕ → Option Packet → Header
whole_header e id b v pe digits serial p = record { edition = e; id = id; bit15 = b; version = v; phone = record { edition = pe; digits = digits }; serial = serial; packet = p }

phone_same : (e f : Edition) (v id serial : ℕ) (x y : List ℕ) (b : Bool) (p : Option Packet) → e ≡ f → x ≡ y
    → whole_header e id b v e x serial p ≡ whole_header e id b v f y serial p
phone_same e f v id serial x y b p e1 e2 = cc

-- the field of a header's phone
record Field (e : Edition) (digits : List ℕ) : Type 0 where
  len : length (field_of e digits) ≡ field_len e
  padded : digits ≡ padding e ++ field_of e digits
  decimal : first_bad (field_of e digits) ≡ None

field : (e : Edition) (digits : List ℕ) → length digits ≡ 10 → digits ≡ padding e ++ field_of e digits → first_bad (field_of e digits) ≡ None → Field e digits
field E2013 digits len padded decimal = record { len = omega (arith, length-drop 4 digits, len); padded = padded; decimal = decimal }
field E2019 digits len padded decimal = record { len = len; padded = padded; decimal = decimal }

-- a content with its parts in view
record Parts (h : Header) (body c : List ℕ) : Type 0 where
  digits : List ℕ
  same : made h.edition h.version h.id h.serial h.bit15 digits h.packet ≡ h
  decimal : first_bad digits ≡ None
  front : List ℕ
  whole : c ≡ front ++ check_of front ∷ []
  stand : Stands h.edition h.version h.id h.serial h.bit15 digits h.packet body c

parts : (h : Header) (body c : List ℕ) → Content h body c → Parts h body c
parts h body c k =
    let phone : Field h.edition h.phone.digits =
    subst (λ (e : Edition). Field e h.phone.digits) k.header.phone_edition (field h.phone.edition h.phone.digits k.header.phone.len k.header.phone.padded k.header.phone.decimal) in
    let digits : List ℕ = field_of h.edition h.phone.digits in
    let same : made h.edition h.version h.id h.serial h.bit15 digits h.packet ≡ h =
    phone_same h.edition h.phone.edition h.version h.id h.serial (padding h.edition ++ digits) h.phone.digits h.bit15 h.packet (sym k.header.phone_edition) (sym phone.padded) in
    let front : List ℕ = checked (made h.edition h.version h.id h.serial h.bit15 digits h.packet) body in
    let whole : c ≡ front ++ check_of front ∷ [] = k.octets ∙ ap (λ (x : Header). content_of x body) (sym same) in
    let stand : Stands h.edition h.version h.id h.serial h.bit15 digits h.packet body (front ++ check_of front ∷ []) =
    stands h.edition h.version h.id h.serial h.bit15 digits h.packet body (check_of front) phone.len k.header.version k.header.id k.header.serial k.short k.header.packet in
    record {
      digits = digits;
      same = same;
      decimal = phone.decimal;
      front = front;
      whole = whole;
      stand = subst (Stands h.edition h.version h.id h.serial h.bit15 digits h.packet body) (sym whole) stand;
    }

pub only : (h : Header) (body c : List ℕ) → Content h body c → Reads c h body
only h body c k =
    let p = parts h body c k in
    subst (λ (x : Header). Reads c x body) p.same
    (reads h.edition h.version h.id h.serial h.bit15 p.digits h.packet body c p.front p.whole p.stand p.decimal k.short k.header.packet)

pub same_reading : (c : List ℕ) (h g : Header) (body other : List ℕ) → Reads c h body → Reads c g other → (g ≡ h) × (other ≡ body)
same_reading c h g body other x y = (y.header ∙ sym x.header, y.body_is ∙ sym x.body_is)

none_some : (r : Refusal) → None ≡ Some r → ⊥
none_some r e = cc

pub refuted : (c : List ℕ) (h : Header) (body : List ℕ) (r : Refusal) → Reads c h body → reason c ≡ Some r → ⊥
refuted c h body r x e = absurd (none_some r (sym x.no_reason ∙ e))

pub content_len : (h : Header) (body c : List ℕ) → Content h body c → (length c ≡ header_len h.edition (is_some h.packet) + length body + 1) × (length c ≤ 1045)
content_len h body c k =
    let st = (parts h body c k).stand in
    (st.len, omega (arith, st.len, k.short, (header_len_bounds h.edition h.packet).1))
