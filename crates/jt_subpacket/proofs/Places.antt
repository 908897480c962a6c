-- The place of a message among the partial ones.
use Rattle.std.proofs.Common.{◌≡◌, ℕ, zero, suc, ◌+◌, ◌≤◌, ◌<◌, Bool, true, false, cond, not, eqb, ltb, List, [], ◌∷◌, length, Option, Some, None, refl, sym, ap, subst, ◌∙◌, arith}
use Rattle.std.specs.Prelude.{IfSome, slice_get, slice_set}
use Rattle.std.specs.List.{position, position_or_len, remove}
use Rattle.std.proofs.lemmas.Bool.{cond-true, cond-false, eqb-true, ltb-true, ltb-false, le-ltb, ne_eqb, and_parts}
use Rattle.std.proofs.lemmas.Option.{cond_some, same_Some}
use Rattle.jt_header.specs.declared.header.Header.{Header}
use Rattle.jt_header.specs.declared.header.Packet.{Packet}
use Rattle.jt_subpacket.specs.declared.key.PartKey.{PartKey}
use Rattle.jt_subpacket.specs.declared.taken.Fate.{Fate}
use Rattle.jt_subpacket.specs.Partials.{Partial, Pieces, key_of, kept_of, missing, same_key, with_pieces, with_piece, without}
use Rattle.jt_subpacket.specs.Fates.{Taken, begins, goes_on, left, taken_as, taken_in, packet_fate}
use Rattle.jt_subpacket.specs.Steps.{AnswersPacket, AreKept, IsPartial, left_there}

pub same_key_is : (a b : PartKey) → same_key a b ≡ true → a ≡ b
same_key_is a b e =
    let parts = and_parts _ _ e in
    let front = and_parts _ _ parts.0 in
    let id = eqb-true a.id b.id front.0 in
    let first = eqb-true a.first b.first front.1 in
    let total = eqb-true a.total b.total parts.1 in
    λ i. record { id = id i; first = first i; total = total i }

-- what stands at the place of a message
pub record At (key : PartKey) (ps : List Partial) (place : ℕ) : Type 0 where
  pub message : Partial
  pub there : slice_get ps place ≡ Some message
  pub same : message.key ≡ key
  pub kept : kept_of key ps ≡ Some message.pieces
  pub update : (pieces : Pieces) → with_pieces key pieces ps ≡ slice_set ps place (record { key = message.key; pieces = pieces })
  pub out : without key ps ≡ remove ps place

module _ (key : PartKey) where
  abbrev is_it : Partial → Bool
  is_it p = same_key p.key key

  at_first : (p : Partial) (ps : List Partial) → same_key p.key key ≡ true → At key (p ∷ ps) zero
  at_first p ps e = record {
    message = p;
    there = refl;
    same = same_key_is p.key key e;
    kept = cond-true (same_key p.key key) _ _ e;
    update = λ pieces. cond-true (same_key p.key key) _ _ e;
    out = cond-true (same_key p.key key) _ _ e;
  }

  at_later : (p : Partial) (ps : List Partial) (place : ℕ) → same_key p.key key ≡ false → At key ps place → At key (p ∷ ps) (suc place)
  at_later p ps place e a = record {
    message = a.message;
    there = a.there;
    same = a.same;
    kept = cond-false (same_key p.key key) _ _ e ∙ a.kept;
    update = λ pieces. cond-false (same_key p.key key) _ _ e ∙ ap (λ l. p ∷ l) (a.update pieces);
    out = cond-false (same_key p.key key) _ _ e ∙ ap (λ l. p ∷ l) a.out;
  }

  at_step : (p : Partial) (ps : List Partial) (b : Bool) → same_key p.key key ≡ b → (position_or_len is_it ps < length ps → At key ps (position_or_len is_it ps))
      → cond (not b) (1 + position_or_len is_it ps) 0 < length (p ∷ ps) → At key (p ∷ ps) (cond (not b) (1 + position_or_len is_it ps) 0)
  at_step p ps true e rest lt = at_first p ps e
  at_step p ps false e rest lt =
      let one : suc (position_or_len is_it ps) ≡ 1 + position_or_len is_it ps = omega arith in
      subst (At key (p ∷ ps)) one (at_later p ps (position_or_len is_it ps) e (rest (omega arith)))

  found_at : (ps : List Partial) → position_or_len is_it ps < length ps → At key ps (position_or_len is_it ps)
  found_at [] lt = absurd (omega arith)
  found_at (p ∷ ps) lt = at_step p ps (same_key p.key key) refl (found_at ps) lt

  absent_step : (p : Partial) (ps : List Partial) (b : Bool) → same_key p.key key ≡ b → (length ps ≤ position_or_len is_it ps → kept_of key ps ≡ None)
      → length (p ∷ ps) ≤ cond (not b) (1 + position_or_len is_it ps) 0 → kept_of key (p ∷ ps) ≡ None
  absent_step p ps true e rest le = absurd (omega arith)
  absent_step p ps false e rest le = cond-false (same_key p.key key) _ _ e ∙ rest (omega arith)

  absent_from : (ps : List Partial) → length ps ≤ position_or_len is_it ps → kept_of key ps ≡ None
  absent_from [] le = refl
  absent_from (p ∷ ps) le = absent_step p ps (same_key p.key key) refl (absent_from ps) le

  pub at_place : (ps : List Partial) (place : ℕ) → position is_it ps ≡ Some place → At key ps place
  at_place ps place e =
      let parts = cond_some (ltb (position_or_len is_it ps) (length ps)) (position_or_len is_it ps) place e in
      subst (At key ps) parts.1 (found_at ps (ltb-true _ _ parts.0))

  no_some : (b : Bool) (n : ℕ) → cond b (Some n) None ≡ None → b ≡ false
  no_some true n e = absurd cc
  no_some false n e = refl

  pub no_place : (ps : List Partial) → position is_it ps ≡ None → kept_of key ps ≡ None
  no_place ps e = absent_from ps (ltb-false _ _ (no_some (ltb (position_or_len is_it ps) (length ps)) (position_or_len is_it ps) e))

-- ---- what the packet of a message is told

-- what a packet of two or more is told, over what is kept of its message
pub reach : (ps : List Partial) (h : Header) (body : List ℕ) (packet : Packet) → packet.total ≤ 256 → (packet.total ≡ 1 → ⊥) → taken_as ps h body packet ≡ taken_in ps (key_of h packet) packet.number body (kept_of (key_of h packet) ps)
reach ps h body packet few several = cond-false (ltb 256 packet.total) _ _ (le-ltb _ _ few) ∙ cond-false (eqb packet.total 1) _ _ (ne_eqb _ _ several)

left_is : (key : PartKey) (ps : List Partial) (place : ℕ) (a : At key ps place) (now : Pieces) (ms : List ℕ) → left_there ps place (record { key = a.message.key; pieces = now }) ms ≡ left key now ms ps
left_is key ps place a now [] = sym a.out
left_is key ps place a now (n ∷ ns) = sym (a.update now)

-- what a call answered and left is what the definition says
pub record Told (answer : Taken) (dropped : Option PartKey) (fate : Fate) (now : List Partial) : Type 0 where
  pub dropped_is : dropped ≡ answer.dropped
  pub fate_is : fate ≡ answer.fate
  pub now_is : now ≡ answer.partial

went_on : (ps : List Partial) (key : PartKey) (number : ℕ) (body : List ℕ) (place : ℕ) (fate : Fate) (now : List Partial) (a : At key ps place) → AnswersPacket ps place number body fate now a.message → Told (goes_on ps key number body a.message.pieces) None fate now
went_on ps key number body place fate now a answers =
    let p = a.message in
    let after = with_piece p.pieces number body in
    record {
      dropped_is = refl;
      fate_is = answers.fate_is ∙ ap (λ (k : PartKey). packet_fate k number p.pieces after (missing k.total after)) a.same;
      now_is = answers.now_is ∙ left_is key ps place a after (missing p.key.total after) ∙ ap (λ (k : PartKey). left key after (missing k.total after) ps) a.same;
    }

pub goes_on_told : (ps : List Partial) (h : Header) (body : List ℕ) (packet : Packet) (key : PartKey) (place : ℕ) (fate : Fate) (now : List Partial)
    → packet.total ≤ 256 → (packet.total ≡ 1 → ⊥) → key ≡ key_of h packet → position (λ p. same_key p.key key) ps ≡ Some place
    → IfSome (slice_get ps place) (AnswersPacket ps place packet.number body fate now) → Told (taken_as ps h body packet) None fate now
goes_on_told ps h body packet key place fate now few several same at answers =
    let k = key_of h packet in
    let a : At k ps place = subst (λ (q : PartKey). At q ps place) same (at_place key ps place at) in
    let told_in : Told (goes_on ps k packet.number body a.message.pieces) None fate now = went_on ps k packet.number body place fate now a (subst (λ o. IfSome o (AnswersPacket ps place packet.number body fate now)) a.there answers) in
    subst (λ answer. Told answer None fate now) (sym (reach ps h body packet few several ∙ ap (taken_in ps k packet.number body) a.kept)) told_in

pub begins_told : (ps : List Partial) (h : Header) (body : List ℕ) (packet : Packet) (key : PartKey)
    → packet.total ≤ 256 → (packet.total ≡ 1 → ⊥) → key ≡ key_of h packet → position (λ p. same_key p.key key) ps ≡ None
    → begins ps key packet.number body ≡ taken_as ps h body packet
begins_told ps h body packet key few several same at =
    ap (λ (q : PartKey). begins ps q packet.number body) same
    ∙ ap (taken_in ps (key_of h packet) packet.number body) (sym (subst (λ (q : PartKey). kept_of q ps ≡ None) same (no_place key ps at)))
    ∙ sym (reach ps h body packet few several)

-- the message at the place is the packet's
pub place_kept : (ps : List Partial) (h : Header) (packet : Packet) (key : PartKey) (place : ℕ) → AreKept ps → 1 ≤ packet.number → packet.number ≤ packet.total → key ≡ key_of h packet → position (λ p. same_key p.key key) ps ≡ Some place
    → (p : Partial) → slice_get ps place ≡ Some p → IsPartial p × (1 ≤ packet.number) × (packet.number ≤ p.key.total)
place_kept ps h packet key place kept low high same at p there =
    let a = at_place key ps place at in
    let is : a.message ≡ p = same_Some a.message p (sym a.there ∙ there) in
    let total : p.key.total ≡ packet.total = ap (λ (q : Partial). q.key.total) (sym is) ∙ ap (λ (k : PartKey). k.total) (a.same ∙ same) in
    (kept.each place p there, low, omega arith)
