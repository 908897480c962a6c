-- The packets of one message, in any order and with repeats, are joined to it.
use Rattle.std.proofs.Common.{◌≡◌, ℕ, zero, suc, ◌+◌, ◌-◌, ◌≤◌, ◌<◌, ◌%◌, ◌^◌, Bool, true, false, cond, not, eqb, ltb, ◌||◌, ◌&&◌, List, [], ◌∷◌, ◌++◌, length, drop, Option, Some, None, refl, sym, ap, subst, ◌∙◌, arith, inl, inr}
use Rattle.std.specs.FinMap.{get, insert, empty, contains_key, get-empty}
use Rattle.std.specs.List.{filter, list_any, AllByRecursion}
use Rattle.std.specs.Option.{unwrap_or, is_some}
use Rattle.std.specs.Ordering.{nat_cmp}
use Rattle.std.proofs.lemmas.Bool.{cond-true, cond-false, eqb-true, eq-eqb, ne_eqb, cases_Bool, cases_eq, cond_both, both_ways, or_left, or_right, le-ltb}
use Rattle.std.proofs.lemmas.List.{append-nil, length_push}
use Rattle.std.proofs.lemmas.List.Concat.{flat_map-append}
use Rattle.std.proofs.lemmas.Option.{none-some}
use Rattle.jt_header.specs.declared.header.Header.{Header}
use Rattle.jt_header.specs.declared.header.Packet.{Packet}
use Rattle.jt_subpacket.specs.declared.key.PartKey.{PartKey}
use Rattle.jt_subpacket.specs.declared.taken.Fate.{Fate}
use Rattle.jt_subpacket.specs.declared.taken.Fate.TheVariants.{TooMany, Whole, Resend, Repeat, Kept}
use Rattle.jt_subpacket.specs.Parts.{Message}
use Rattle.jt_subpacket.specs.Partials.{Partial, Pieces, first_serial, octets_joined, key_of, kept_of, missing, numbers, piece, same_key, with_pieces, with_piece, without}
use Rattle.jt_subpacket.specs.Fates.{Taken, begins, goes_on, left, left_over, taken_as, taken_by, taken_by_fields, taken_in, packet_fate, unfinished}
use Rattle.jt_subpacket.specs.Joining.{AreAllThere, IsJoinedOnce, IsKey, IsNamedByItsPackets, IsPacketOf, IsWhole, fate_after, number_in, number_of, whole_body}
use Rattle.jt_subpacket.proofs.Maps.{get_put}
use Rattle.jt_subpacket.proofs.Missing.{passing_more}
use Rattle.jt_subpacket.proofs.Places.{reach}
use Rattle.jt_subpacket.proofs.Fates.{told_some}
use Rattle.jt_subpacket.proofs.Kept.{none_in}

-- ---- numbers that are there

abbrev has : List Message → ℕ → Bool
has packets number = list_any (λ q. eqb (number_of q) number) packets

none_pushed : (xs : List ℕ) (x : ℕ) → xs ++ x ∷ [] ≡ [] → ⊥
none_pushed xs x e = absurd (omega (arith, length_push xs x, ap length e))

nil_all : (t : ℕ → Bool) (total : ℕ) → filter (λ n. not (t n)) (numbers total) ≡ [] → (n : ℕ) → 1 ≤ n → n ≤ total → t n ≡ true
nil_all t zero e n low high = absurd (omega arith)
nil_all t (suc k) e n low high =
    elim (cases_Bool (t (suc k))) [
      | inl here ↦
          elim (cases_eq n (suc k)) [
            | inl same ↦ ap t same ∙ here
            | inr apart ↦
                let below : n ≤ k = omega arith in
                nil_all t k (sym (passing_more t k ∙ cond-true (t (suc k)) _ _ here) ∙ e) n low below
          ]
      | inr none ↦ absurd (none_pushed _ (suc k) (sym (passing_more t k ∙ cond-false (t (suc k)) _ _ none) ∙ e))
    ]

all_nil : (t : ℕ → Bool) (total : ℕ) → ((n : ℕ) → 1 ≤ n → n ≤ total → t n ≡ true) → filter (λ n. not (t n)) (numbers total) ≡ []
all_nil t zero all = refl
all_nil t (suc k) all =
    passing_more t k ∙ cond-true (t (suc k)) _ _ (all (suc k) (omega arith) (omega arith))
    ∙ all_nil t k (λ n low high. all n low (omega arith))

-- ---- pieces

some_if : (b : Bool) (octets : List ℕ) → is_some (cond b (Some octets) None) ≡ b
some_if true octets = refl
some_if false octets = refl

piece_if : (b : Bool) (octets : List ℕ) → b ≡ true → unwrap_or (cond b (Some octets) None) [] ≡ octets
piece_if true octets e = refl
piece_if false octets e = absurd cc

-- the pieces are those of the packets
abbrev AreOf : (ℕ → List ℕ) → List Message → Pieces → Type 0
AreOf octets packets m = (n : ℕ) → get m n ≡ cond (has packets n) (Some (octets n)) None

module _ (octets : ℕ → List ℕ) where
  contains_is : (packets : List Message) (m : Pieces) → AreOf octets packets m → (n : ℕ) → contains_key m n ≡ has packets n
  contains_is packets m are n = ap is_some (are n) ∙ some_if (has packets n) (octets n)

  of_with : (packets : List Message) (q : Message) (m : Pieces) → q.1 ≡ octets (number_of q) → AreOf octets packets m → AreOf octets (q ∷ packets) (with_piece m (number_of q) q.1)
  of_with packets q m body are k =
      let n = number_of q in
      elim (cases_Bool (contains_key m n)) [
        | inl there ↦
            ap (λ (p : Pieces). get p k) (cond-true (contains_key m n) m (insert m n q.1) there) ∙ are k
            ∙ elim (cases_eq n k) [
              | inl same ↦
                  let had : has packets k ≡ true = ap (has packets) (sym same) ∙ sym (contains_is packets m are n) ∙ there in
                  cond-true (has packets k) _ _ had ∙ sym (cond-true (eqb n k || has packets k) _ _ (or_left (eqb n k) (has packets k) (eq-eqb n k same)))
              | inr apart ↦ ap (λ b. cond (b || has packets k) (Some (octets k)) None) (sym (ne_eqb n k apart))
            ]
        | inr absent ↦
            ap (λ (p : Pieces). get p k) (cond-false (contains_key m n) m (insert m n q.1) absent) ∙ get_put m n q.1 k
            ∙ elim (cases_eq n k) [
              | inl same ↦
                  cond-true (eqb k n) _ _ (eq-eqb k n (sym same)) ∙ ap (λ o. Some o) (body ∙ ap octets same)
                  ∙ sym (cond-true (eqb n k || has packets k) _ _ (or_left (eqb n k) (has packets k) (eq-eqb n k same)))
              | inr apart ↦
                  cond-false (eqb k n) _ _ (ne_eqb k n (λ e. apart (sym e))) ∙ are k
                  ∙ ap (λ b. cond (b || has packets k) (Some (octets k)) None) (sym (ne_eqb n k apart))
            ]
      ]

  nil_there : (total : ℕ) (packets : List Message) (m : Pieces) → AreOf octets packets m → missing total m ≡ [] → AreAllThere total packets
  nil_there total packets m are e n low high = sym (contains_is packets m are n) ∙ nil_all (contains_key m) total e n low high

  there_nil : (total : ℕ) (packets : List Message) (m : Pieces) → AreOf octets packets m → AreAllThere total packets → missing total m ≡ []
  there_nil total packets m are all = all_nil (contains_key m) total (λ n low high. contains_is packets m are n ∙ all n low high)

  joined_same : (m : Pieces) (total : ℕ) → ((n : ℕ) → 1 ≤ n → n ≤ total → piece m n ≡ octets n) → octets_joined total m ≡ whole_body total octets
  joined_same m zero same = refl
  joined_same m (suc k) same =
      flat_map-append (piece m) (numbers k) (suc k ∷ [])
      ∙ ap (λ xs. xs ++ (piece m (suc k) ++ [])) (joined_same m k (λ n low high. same n low (omega arith)))
      ∙ ap (λ xs. whole_body k octets ++ (xs ++ [])) (same (suc k) (omega arith) (omega arith))
      ∙ sym (flat_map-append octets (numbers k) (suc k ∷ []))

  joined_there : (total : ℕ) (packets : List Message) (m : Pieces) → AreOf octets packets m → AreAllThere total packets → octets_joined total m ≡ whole_body total octets
  joined_there total packets m are all =
      joined_same m total (λ n low high. ap (λ (o : Option (List ℕ)). unwrap_or o []) (are n) ∙ piece_if (has packets n) (octets n) (all n low high))

-- ---- the message among the partial ones

module _ (key : PartKey) where
  same_self : same_key key key ≡ true
  same_self = ap (λ b. b && eqb key.first key.first && eqb key.total key.total) (eq-eqb key.id key.id refl) ∙ ap (λ b. b && eqb key.total key.total) (eq-eqb key.first key.first refl) ∙ eq-eqb key.total key.total refl

  none_later : (p : Partial) (ps : List Partial) → kept_of key (p ∷ ps) ≡ None → (same_key p.key key ≡ false) × (kept_of key ps ≡ None)
  none_later p ps e =
      elim (cases_Bool (same_key p.key key)) [
        | inl same ↦ absurd (none-some p.pieces (sym e ∙ cond-true (same_key p.key key) _ _ same))
        | inr apart ↦ (apart, sym (cond-false (same_key p.key key) (Some p.pieces) (kept_of key ps) apart) ∙ e)
      ]

  without_none : (ps : List Partial) → kept_of key ps ≡ None → without key ps ≡ ps
  without_none [] e = refl
  without_none (p ∷ ps) e =
      let parts = none_later p ps e in
      cond-false (same_key p.key key) ps (p ∷ without key ps) parts.0 ∙ ap (λ l. p ∷ l) (without_none ps parts.1)

  drop_none : (ps : List Partial) → kept_of key ps ≡ None → kept_of key (drop 1 ps) ≡ None
  drop_none [] e = refl
  drop_none (p ∷ ps) e = (none_later p ps e).1

  push_kept : (ps : List Partial) (m : Pieces) → kept_of key ps ≡ None → kept_of key (ps ++ record { key = key; pieces = m } ∷ []) ≡ Some m
  push_kept [] m e = cond-true (same_key key key) _ _ same_self
  push_kept (p ∷ ps) m e = let parts = none_later p ps e in cond-false (same_key p.key key) _ _ parts.0 ∙ push_kept ps m parts.1

  push_without : (ps : List Partial) (m : Pieces) → kept_of key ps ≡ None → without key (ps ++ record { key = key; pieces = m } ∷ []) ≡ ps
  push_without [] m e = cond-true (same_key key key) _ _ same_self
  push_without (p ∷ ps) m e = let parts = none_later p ps e in cond-false (same_key p.key key) _ _ parts.0 ∙ ap (λ l. p ∷ l) (push_without ps m parts.1)

  updated_kept : (ps : List Partial) (was m : Pieces) → kept_of key ps ≡ Some was → (kept_of key (with_pieces key m ps) ≡ Some m) × (without key (with_pieces key m ps) ≡ without key ps)
  updated_kept [] was m e = absurd (none-some was e)
  updated_kept (p ∷ ps) was m e =
      elim (cases_Bool (same_key p.key key)) [
        | inl same ↦
            let is : with_pieces key m (p ∷ ps) ≡ record { key = p.key; pieces = m } ∷ ps = cond-true (same_key p.key key) _ _ same in (
              ap (kept_of key) is ∙ cond-true (same_key p.key key) _ _ same,
              ap (without key) is ∙ cond-true (same_key p.key key) ps _ same ∙ sym (cond-true (same_key p.key key) ps _ same),
            )
        | inr apart ↦
            let is : with_pieces key m (p ∷ ps) ≡ p ∷ with_pieces key m ps = cond-false (same_key p.key key) _ _ apart in
            let rest = updated_kept ps was m (sym (cond-false (same_key p.key key) _ _ apart) ∙ e) in (
              ap (kept_of key) is ∙ cond-false (same_key p.key key) _ _ apart ∙ rest.0,
              ap (without key) is ∙ cond-false (same_key p.key key) _ _ apart ∙ ap (λ l. p ∷ l) rest.1 ∙ sym (cond-false (same_key p.key key) _ _ apart),
            )
      ]

-- ---- one packet more

resend_apart : (first id serial : ℕ) (missing body : List ℕ) → Resend first missing ≡ Whole id serial body → ⊥
resend_apart first id serial missing body e = cc

repeat_apart : (id serial : ℕ) (body : List ℕ) → Repeat ≡ Whole id serial body → ⊥
repeat_apart id serial body e = cc

kept_apart : (id serial : ℕ) (body : List ℕ) → Kept ≡ Whole id serial body → ⊥
kept_apart id serial body e = cc

not_whole : (key : PartKey) (number : ℕ) (was now : Pieces) → IsWhole (unfinished key number was now) → ⊥
not_whole key number was now =
    cond_both (eqb number key.total) _ _ (λ (f : Fate). IsWhole f → ⊥) (λ _ w. resend_apart _ _ _ _ _ w.3) (λ _.
    cond_both (contains_key was number) _ _ (λ (f : Fate). IsWhole f → ⊥) (λ _ w. repeat_apart _ _ _ w.3) (λ _ w. kept_apart _ _ _ w.3))

left_some : (key : PartKey) (now : Pieces) (ps : List Partial) (ms : List ℕ) → (ms ≡ [] → ⊥) → left key now ms ps ≡ with_pieces key now ps
left_some key now ps [] some = absurd (some refl)
left_some key now ps (n ∷ ns) some = refl

-- what an assembler keeps of a message once packets of it have come
record Holds (key : PartKey) (octets : ℕ → List ℕ) (packets : List Message) (ps : List Partial) : Type 0 where
  pieces : AreOf octets packets (unwrap_or (kept_of key ps) empty)
  one : kept_of key (without key ps) ≡ None

-- what a packet of the message is told and leaves
record Steps (key : PartKey) (octets : ℕ → List ℕ) (packets : List Message) (answer : Taken) : Type 0 where
  whole : AreAllThere key.total packets → (answer.fate ≡ Whole key.id key.first (whole_body key.total octets)) × (kept_of key answer.partial ≡ None)
  before : (AreAllThere key.total packets → ⊥) → (IsWhole answer.fate → ⊥) × Holds key octets packets answer.partial

module _ (key : PartKey) (octets : ℕ → List ℕ) where
  starts : (ps : List Partial) → kept_of key ps ≡ None → Holds key octets [] ps
  starts ps e = record {
    pieces = λ n. ap (λ (o : Option Pieces). get (unwrap_or o empty) n) e ∙ get-empty nat_cmp n;
    one = ap (kept_of key) (without_none key ps e) ∙ e;
  }

  going : (ps : List Partial) (packets : List Message) (q : Message) (was : Pieces) → kept_of key ps ≡ Some was → Holds key octets packets ps → q.1 ≡ octets (number_of q)
      → Steps key octets (q ∷ packets) (goes_on ps key (number_of q) q.1 was)
  going ps packets q was e holds body =
      let n = number_of q in
      let now = with_piece was n q.1 in
      let old : AreOf octets packets was = λ k. ap (λ (o : Option Pieces). get (unwrap_or o empty) k) (sym e) ∙ holds.pieces k in
      let are : AreOf octets (q ∷ packets) now = of_with octets packets q was body old in
      let kept = updated_kept key ps was now e in
      record {
        whole = λ all.
            let nil : missing key.total now ≡ [] = there_nil octets key.total (q ∷ packets) now are all in (
              ap (packet_fate key n was now) nil ∙ ap (Whole key.id key.first) (joined_there octets key.total (q ∷ packets) now are all),
              ap (λ ms. kept_of key (left key now ms ps)) nil ∙ holds.one,
            );
        before = λ some.
            let more : missing key.total now ≡ [] → ⊥ = λ nil. some (nil_there octets key.total (q ∷ packets) now are nil) in
            let stays : left key now (missing key.total now) ps ≡ with_pieces key now ps = left_some key now ps (missing key.total now) more in (
              λ w. not_whole key n was now (subst IsWhole (told_some key n was now (missing key.total now) more) w),
              record {
                pieces = λ k. ap (λ l. get (unwrap_or (kept_of key l) empty) k) stays ∙ ap (λ (o : Option Pieces). get (unwrap_or o empty) k) kept.0 ∙ are k;
                one = ap (λ l. kept_of key (without key l)) stays ∙ ap (kept_of key) kept.1 ∙ holds.one;
              },
            );
      }

  pushed : (ps : List Partial) (packets : List Message) (m : Pieces) → kept_of key ps ≡ None → AreOf octets packets m → Holds key octets packets (ps ++ record { key = key; pieces = m } ∷ [])
  pushed ps packets m e are = record {
    pieces = λ k. ap (λ (o : Option Pieces). get (unwrap_or o empty) k) (push_kept key ps m e) ∙ are k;
    one = ap (kept_of key) (push_without key ps m e) ∙ e;
  }

  lone : (n k : ℕ) (b : Bool) → (n ≡ k → ⊥) → b ≡ false → (eqb n k || b) ≡ true → ⊥
  lone n k b apart none e = both_ways b none (sym (ap (λ c. c || b) (ne_eqb n k apart)) ∙ e)

  -- one number is not all of two or more
  not_all : (packets : List Message) (q : Message) → 2 ≤ key.total → AreOf octets packets empty → AreAllThere key.total (q ∷ packets) → ⊥
  not_all packets q several are all =
      let none : (k : ℕ) → has packets k ≡ false = λ k. sym (contains_is octets packets empty are k) ∙ none_in k in
      elim (cases_eq (number_of q) 1) [
        | inl same ↦ lone (number_of q) 2 (has packets 2) (λ e. absurd (omega arith)) (none 2) (all 2 (omega arith) several)
        | inr apart ↦ lone (number_of q) 1 (has packets 1) apart (none 1) (all 1 (omega arith) (omega arith))
      ]

  beginning : (ps : List Partial) (packets : List Message) (q : Message) → 2 ≤ key.total → kept_of key ps ≡ None → Holds key octets packets ps → q.1 ≡ octets (number_of q)
      → Steps key octets (q ∷ packets) (begins ps key (number_of q) q.1)
  beginning ps packets q several e holds body =
      let n = number_of q in
      let now = with_piece empty n q.1 in
      let old : AreOf octets packets empty = λ k. ap (λ (o : Option Pieces). get (unwrap_or o empty) k) (sym e) ∙ holds.pieces k in
      let are : AreOf octets (q ∷ packets) now = of_with octets packets q empty body old in
      record {
        whole = λ all. absurd (not_all packets q several old all);
        before = λ _. cond_both (ltb (length ps) 4) _ _ (λ (t : Taken). (IsWhole t.fate → ⊥) × Holds key octets (q ∷ packets) t.partial)
            (λ _. (not_whole key n empty now, pushed ps (q ∷ packets) now e are))
            (λ _. (not_whole key n empty now, pushed (drop 1 ps) (q ∷ packets) now (drop_none key ps e) are));
      }

  stepped : (ps : List Partial) (packets : List Message) (q : Message) (was : Option Pieces) → kept_of key ps ≡ was → 2 ≤ key.total → Holds key octets packets ps → q.1 ≡ octets (number_of q)
      → Steps key octets (q ∷ packets) (taken_in ps key (number_of q) q.1 was)
  stepped ps packets q None e several holds body = beginning ps packets q several e holds body
  stepped ps packets q (Some was) e several holds body = going ps packets q was e holds body

  -- ---- the packet's key

  first_back : (first n : ℕ) → first < 2 ^ 16 → 1 ≤ n → n ≤ 256 → ((first + (n - 1)) % 65536 + 65536 - (n - 1)) % 65536 ≡ first
  first_back first n small low high = omega arith

  key_is : (q : Message) → IsKey key → IsPacketOf key octets q → key_of q.0 (record { total = key.total; number = number_of q }) ≡ key
  key_is q is of =
      let few = is.few in
      let low = of.low in
      let high = of.high in
      let first : first_serial q.0.serial (number_of q) ≡ key.first = ap (λ s. first_serial s (number_of q)) of.serial ∙ first_back key.first (number_of q) is.first of.low (omega arith) in
      let id = of.id in
      λ i. record { id = id i; first = first i; total = key.total }

  told_is : (ps : List Partial) (q : Message) → IsKey key → IsPacketOf key octets q → 2 ≤ key.total → taken_by ps q.0 q.1 ≡ taken_in ps key (number_of q) q.1 (kept_of key ps)
  told_is ps q is of several =
      ap (taken_by_fields ps q.0 q.1) of.packet
      ∙ reach ps q.0 q.1 (record { total = key.total; number = number_of q }) is.few (λ e. absurd (omega arith))
      ∙ ap (λ (k : PartKey). taken_in ps k (number_of q) q.1 (kept_of k ps)) (key_is q is of)

  one_step : (ps : List Partial) (packets : List Message) (q : Message) → IsKey key → IsPacketOf key octets q → 2 ≤ key.total → Holds key octets packets ps → Steps key octets (q ∷ packets) (taken_by ps q.0 q.1)
  one_step ps packets q is of several holds =
      subst (Steps key octets (q ∷ packets)) (sym (told_is ps q is of several)) (stepped ps packets q (kept_of key ps) refl several holds of.body)

  more_there : (q : Message) (packets : List Message) → AreAllThere key.total packets → AreAllThere key.total (q ∷ packets)
  more_there q packets all n low high = or_right (eqb (number_of q) n) (has packets n) (all n low high)

  -- what is kept while a number is missing
  after : (ps : List Partial) (packets : List Message) → IsKey key → 2 ≤ key.total → kept_of key ps ≡ None → AllByRecursion (IsPacketOf key octets) packets → (AreAllThere key.total packets → ⊥) → Holds key octets packets (left_over ps packets)
  after ps [] is several e are some = starts ps e
  after ps (q ∷ packets) is several e are some =
      let holds = after ps packets is several e are.1 (λ all. some (more_there q packets all)) in
      ((one_step (left_over ps packets) packets q is are.0 several holds).before some).1

  -- ---- a message of one packet

  only_there : (q : Message) (packets : List Message) → key.total ≡ 1 → IsPacketOf key octets q → AreAllThere key.total (q ∷ packets)
  only_there q packets one of n low high =
      let first = of.low in
      let last = of.high in
      or_left (eqb (number_of q) n) (has packets n) (eq-eqb (number_of q) n (omega arith))

  only_told : (ps : List Partial) (q : Message) → IsKey key → key.total ≡ 1 → IsPacketOf key octets q → taken_by ps q.0 q.1 ≡ record { dropped = None; fate = Whole q.0.id q.0.serial q.1; partial = ps }
  only_told ps q is one of =
      ap (taken_by_fields ps q.0 q.1) of.packet
      ∙ cond-false (ltb 256 key.total) _ _ (le-ltb 256 key.total is.few)
      ∙ cond-true (eqb key.total 1) _ _ (eq-eqb key.total 1 one)

  only_whole : (q : Message) → IsKey key → key.total ≡ 1 → IsPacketOf key octets q → Whole q.0.id q.0.serial q.1 ≡ Whole key.id key.first (whole_body key.total octets)
  only_whole q is one of =
      let low = of.low in
      let high = of.high in
      let small = is.first in
      let number : number_of q ≡ 1 = omega arith in
      let serial : q.0.serial ≡ key.first = of.serial ∙ omega arith in
      let body : q.1 ≡ whole_body key.total octets = of.body ∙ ap octets number ∙ sym (append-nil (octets 1)) ∙ ap (λ t. whole_body t octets) (sym one) in
      let id = of.id in
      λ i. Whole (id i) (serial i) (body i)

  nothing_yet : (packets : List Message) → key.total ≡ 1 → AllByRecursion (IsPacketOf key octets) packets → (AreAllThere key.total packets → ⊥) → packets ≡ []
  nothing_yet [] one are some = refl
  nothing_yet (q ∷ packets) one are some = absurd (some (only_there q packets one are.0))

  -- ---- the law

  law_whole : (ps : List Partial) (packets : List Message) (q : Message) → IsKey key → kept_of key ps ≡ None → AllByRecursion (IsPacketOf key octets) (q ∷ packets)
      → (AreAllThere key.total packets → ⊥) → AreAllThere key.total (q ∷ packets)
      → (fate_after ps packets q ≡ Whole key.id key.first (whole_body key.total octets)) × (kept_of key (left_over ps (q ∷ packets)) ≡ None)
  law_whole ps packets q is e are some all =
      elim (cases_eq key.total 1) [
        | inl one ↦
            let told_only = only_told (left_over ps packets) q is one are.0 in (
              ap (λ (t : Taken). t.fate) told_only ∙ only_whole q is one are.0,
              ap (λ (t : Taken). kept_of key t.partial) told_only ∙ ap (λ l. kept_of key (left_over ps l)) (nothing_yet packets one are.1 some) ∙ e,
            )
        | inr several ↦
            let low = is.some in
            let two : 2 ≤ key.total = omega arith in
            (one_step (left_over ps packets) packets q is are.0 two (after ps packets is two e are.1 some)).whole all
      ]

  law_before : (ps : List Partial) (packets : List Message) (q : Message) → IsKey key → kept_of key ps ≡ None → AllByRecursion (IsPacketOf key octets) (q ∷ packets)
      → (AreAllThere key.total (q ∷ packets) → ⊥) → IsWhole (fate_after ps packets q) → ⊥
  law_before ps packets q is e are some =
      elim (cases_eq key.total 1) [
        | inl one ↦ absurd (some (only_there q packets one are.0))
        | inr several ↦
            let low = is.some in
            let two : 2 ≤ key.total = omega arith in
            ((one_step (left_over ps packets) packets q is are.0 two (after ps packets is two e are.1 (λ all. some (more_there q packets all)))).before some).0
      ]

pub joined_once : IsJoinedOnce
joined_once = record {
  before = λ key octets ps packets q is e are some. law_before key octets ps packets q is e are some;
  whole = λ key octets ps packets q is e are some all. (law_whole key octets ps packets q is e are some all).0;
  gone = λ key octets ps packets q is e are some all. (law_whole key octets ps packets q is e are some all).1;
}

-- ---- the id and the serial of a whole message

whole_parts : (a b d e : ℕ) (c f : List ℕ) → Whole a b c ≡ Whole d e f → (d ≡ a) × (e ≡ b)
whole_parts a b d e c f same = (cc, cc)

too_many_apart : (n id serial : ℕ) (body : List ℕ) → TooMany n ≡ Whole id serial body → ⊥
too_many_apart n id serial body e = cc

module _ (id serial : ℕ) (whole : List ℕ) where
  -- an answer that is this whole message names it so
  abbrev Names : PartKey → Fate → Type 0
  Names key fate = fate ≡ Whole id serial whole → (id ≡ key.id) × (serial ≡ key.first)

  names_none : (key : PartKey) (number : ℕ) (was now : Pieces) → Names key (unfinished key number was now)
  names_none key number was now e = absurd (not_whole key number was now (id, serial, whole, e))

  names_told : (key : PartKey) (number : ℕ) (was now : Pieces) (ms : List ℕ) → Names key (packet_fate key number was now ms)
  names_told key number was now [] e = whole_parts key.id key.first id serial _ whole e
  names_told key number was now (n ∷ ns) e = names_none key number was now e

  names_in : (ps : List Partial) (key : PartKey) (number : ℕ) (body : List ℕ) (was : Option Pieces) → Names key (taken_in ps key number body was).fate
  names_in ps key number body None =
      cond_both (ltb (length ps) 4) _ _ (λ (t : Taken). Names key t.fate) (λ _. names_none key number empty (with_piece empty number body)) (λ _. names_none key number empty (with_piece empty number body))
  names_in ps key number body (Some was) = names_told key number was (with_piece was number body) (missing key.total (with_piece was number body))

  only_serial : (s number total : ℕ) → s < 2 ^ 16 → 1 ≤ number → number ≤ total → total ≡ 1 → s ≡ first_serial s number
  only_serial s number total small low high one = omega arith

  names_as : (ps : List Partial) (h : Header) (body : List ℕ) (packet : Packet) → h.serial < 2 ^ 16 → 1 ≤ packet.number → packet.number ≤ packet.total → Names (key_of h packet) (taken_as ps h body packet).fate
  names_as ps h body packet small low high =
      cond_both (ltb 256 packet.total) _ _ (λ (t : Taken). Names (key_of h packet) t.fate) (λ _ e. absurd (too_many_apart packet.total id serial whole e)) (λ _.
      cond_both (eqb packet.total 1) _ _ (λ (t : Taken). Names (key_of h packet) t.fate)
      (λ one e.
      let parts = whole_parts h.id h.serial id serial body whole e in
      (parts.0, parts.1 ∙ only_serial h.serial packet.number packet.total small low high (eqb-true packet.total 1 one)))
      (λ _. names_in ps (key_of h packet) packet.number body (kept_of (key_of h packet) ps)))

pub named : IsNamedByItsPackets
named ps h body whole id serial small low packet is high e =
    let number : number_in h.packet ≡ packet.number = ap number_in is in
    let parts = names_as id serial whole ps h body packet small (subst (λ n. 1 ≤ n) number low) high (sym (ap (λ o. (taken_by_fields ps h body o).fate) is) ∙ e) in
    (parts.0, parts.1 ∙ ap (first_serial h.serial) (sym number))
