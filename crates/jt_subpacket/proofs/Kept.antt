-- What holds of all that an assembler keeps goes on to hold, and bounds it.
use Rattle.std.proofs.Common.{◌≡◌, ℕ, zero, suc, ◌+◌, ◌*◌, ◌≤◌, ◌<◌, Bool, true, false, cond, eqb, ltb, List, [], ◌∷◌, ◌++◌, length, drop, Option, Some, None, refl, sym, ap, subst, ◌∙◌, arith, inl, inr}
use Rattle.std.specs.Prelude.{slice_get}
use Rattle.std.specs.Cmp.{nat_cmp_total}
use Rattle.std.specs.FinMap.{get, len, insert, empty, contains_key, get-empty, len-insert, len-empty}
use Rattle.std.specs.Option.{unwrap_or, is_some}
use Rattle.std.specs.Ordering.{nat_cmp}
use Rattle.std.proofs.lemmas.Bool.{cond-true, cond-false, eqb-true, cases_Bool, cond_both, eqb-false, ltb-false, ltb-true}
use Rattle.std.proofs.lemmas.List.{length-append, length_push, append-nil}
use Rattle.std.proofs.lemmas.List.Concat.{flat_map-append}
use Rattle.std.proofs.lemmas.Option.{same_Some, none-some}
use Rattle.jt_header.specs.declared.header.Header.{Header}
use Rattle.jt_header.specs.declared.header.Packet.{Packet}
use Rattle.jt_subpacket.specs.declared.key.PartKey.{PartKey}
use Rattle.jt_subpacket.specs.Partials.{IsBounded, Partial, Pieces, all_octets_kept, octets_joined, key_of, kept_of, missing, numbers, octets_kept, piece, same_key, with_pieces, with_piece, without}
use Rattle.jt_subpacket.specs.Fates.{Taken, begins, goes_on, left, taken_as, taken_in}
use Rattle.jt_subpacket.specs.Steps.{AreKept, IsPartial}
use Rattle.jt_subpacket.proofs.Maps.{get_put, missing_with}
use Rattle.jt_subpacket.proofs.Missing.{count_beside, count_more}
use Rattle.jt_subpacket.proofs.Places.{same_key_is}

-- ---- the pieces of one message

-- what holds of pieces, whole or not
pub record AreSound (total : ℕ) (m : Pieces) : Type 0 where
  pub count : len m + length (missing total m) ≡ total
  pub own : (number : ℕ) (octets : List ℕ) → get m number ≡ Some octets → (1 ≤ number) × (number ≤ total)
  pub short : (number : ℕ) (octets : List ℕ) → get m number ≡ Some octets → length octets ≤ 1023

pub none_in : (number : ℕ) → contains_key (empty {X = List ℕ} {R = nat_cmp}) number ≡ false
none_in number = ap is_some (get-empty nat_cmp number)

all_missing : (total : ℕ) → length (missing total empty) ≡ total
all_missing zero = refl
all_missing (suc n) =
    let more = count_more (contains_key (empty {X = List ℕ} {R = nat_cmp})) n ∙ ap (λ b. length (missing n empty) + cond b 0 1) (none_in (suc n)) in
    omega (arith, more, all_missing n)

pub sound_empty : (total : ℕ) → AreSound total empty
sound_empty total = record {
  count = omega (arith, all_missing total, len-empty nat_cmp (List ℕ));
  own = λ number octets e. absurd (none-some octets (sym (get-empty nat_cmp number) ∙ e));
  short = λ number octets e. absurd (none-some octets (sym (get-empty nat_cmp number) ∙ e));
}

-- one piece more
at_put : (m : Pieces) (number : ℕ) (body : List ℕ) (P : ℕ → List ℕ → Type 0) → P number body → ((other : ℕ) (octets : List ℕ) → get m other ≡ Some octets → P other octets)
    → (other : ℕ) (octets : List ℕ) → get (insert m number body) other ≡ Some octets → P other octets
at_put m number body P here rest other octets e =
    elim (cases_Bool (eqb other number)) [
      | inl same ↦
          let is : body ≡ octets = same_Some body octets (sym (get_put m number body other ∙ cond-true (eqb other number) _ _ same) ∙ e) in
          subst (λ o. P other o) is (subst (λ n. P n body) (sym (eqb-true other number same)) here)
      | inr apart ↦ rest other octets (sym (get_put m number body other ∙ cond-false (eqb other number) _ _ apart) ∙ e)
    ]

sound_put : (total : ℕ) (m : Pieces) (number : ℕ) (body : List ℕ) → AreSound total m → contains_key m number ≡ false → 1 ≤ number → number ≤ total → length body ≤ 1023 → with_piece m number body ≡ insert m number body → AreSound total (insert m number body)
sound_put total m number body sound none low high small is =
    let more = len-insert nat_cmp_total m number body ∙ cond-false (contains_key m number) _ _ none in
    let less = count_beside m number total none low high in
    let same = ap length (sym (ap (missing total) is) ∙ missing_with total m number body) in
    let was = sound.count in
    record {
      count = omega (arith, more, less, same, was);
      own = at_put m number body (λ n octets. (1 ≤ n) × (n ≤ total)) (low, high) sound.own;
      short = at_put m number body (λ n octets. length octets ≤ 1023) small sound.short;
    }

pub sound_with : (total : ℕ) (m : Pieces) (number : ℕ) (body : List ℕ) → AreSound total m → 1 ≤ number → number ≤ total → length body ≤ 1023 → AreSound total (with_piece m number body)
sound_with total m number body sound low high small =
    elim (cases_Bool (contains_key m number)) [
      | inl has ↦ subst (AreSound total) (sym (cond-true (contains_key m number) m (insert m number body) has)) sound
      | inr none ↦
          let is : with_piece m number body ≡ insert m number body = cond-false (contains_key m number) m (insert m number body) none in
          subst (AreSound total) (sym is) (sound_put total m number body sound none low high small is)
    ]

pub sound_of : (p : Partial) → IsPartial p → AreSound p.key.total p.pieces
sound_of p kept = record { count = kept.count; own = kept.own; short = kept.short }

partial_of : (key : PartKey) (m : Pieces) → 2 ≤ key.total → key.total ≤ 256 → AreSound key.total m → 0 < length (missing key.total m) → IsPartial (record { key = key; pieces = m })
partial_of key m several few sound some =
    let count = sound.count in
    record { several = several; few = few; count = sound.count; unfinished = omega arith; own = sound.own; short = sound.short }

-- ---- the messages

abbrev Each : List Partial → Type 0
Each ps = (place : ℕ) (p : Partial) → slice_get ps place ≡ Some p → IsPartial p

each_tail : (p : Partial) (ps : List Partial) → Each (p ∷ ps) → Each ps
each_tail p ps each place q e = each (suc place) q e

each_cons : (p : Partial) (ps : List Partial) → IsPartial p → Each ps → Each (p ∷ ps)
each_cons p ps first rest zero q e = subst IsPartial (same_Some p q e) first
each_cons p ps first rest (suc place) q e = rest place q e

each_nil : Each []
each_nil place p e = absurd (none-some p e)

each_push : (ps : List Partial) (p : Partial) → Each ps → IsPartial p → Each (ps ++ p ∷ [])
each_push [] p each kept = each_cons p [] kept each_nil
each_push (q ∷ ps) p each kept = each_cons q (ps ++ p ∷ []) (each zero q refl) (each_push ps p (each_tail q ps each) kept)

each_drop : (ps : List Partial) → Each ps → Each (drop 1 ps)
each_drop [] each = each
each_drop (p ∷ ps) each = each_tail p ps each

length_drop : (ps : List Partial) → length ps ≤ 4 → 4 ≤ length ps → length (drop 1 ps) ≡ 3
length_drop [] few full = absurd (omega arith)
length_drop (p ∷ ps) few full = omega arith

each_cond : (b : Bool) (xs ys : List Partial) → Each xs → Each ys → Each (cond b xs ys)
each_cond true xs ys first other = first
each_cond false xs ys first other = other

length_cond : (b : Bool) (xs ys : List Partial) (n : ℕ) → length xs ≤ n → length ys ≤ n → length (cond b xs ys) ≤ n
length_cond true xs ys n first other = first
length_cond false xs ys n first other = other

module _ (key : PartKey) where
  each_without : (ps : List Partial) → Each ps → Each (without key ps)
  each_without [] each = each
  each_without (p ∷ ps) each = each_cond (same_key p.key key) ps (p ∷ without key ps) (each_tail p ps each) (each_cons p (without key ps) (each zero p refl) (each_without ps (each_tail p ps each)))

  length_without : (ps : List Partial) → length (without key ps) ≤ length ps
  length_without [] = omega arith
  length_without (p ∷ ps) = let rest = length_without ps in length_cond (same_key p.key key) ps (p ∷ without key ps) (suc (length ps)) (omega arith) (omega arith)

  each_updated : (now : Pieces) → IsPartial (record { key = key; pieces = now }) → (ps : List Partial) → Each ps → Each (with_pieces key now ps)
  each_updated now kept [] each = each
  each_updated now kept (p ∷ ps) each =
      elim (cases_Bool (same_key p.key key)) [
        | inl same ↦ subst Each (sym (cond-true (same_key p.key key) (record { key = p.key; pieces = now } ∷ ps) (p ∷ with_pieces key now ps) same))
            (each_cons _ ps (subst (λ (k : PartKey). IsPartial (record { key = k; pieces = now })) (sym (same_key_is p.key key same)) kept) (each_tail p ps each))
        | inr apart ↦ subst Each (sym (cond-false (same_key p.key key) (record { key = p.key; pieces = now } ∷ ps) (p ∷ with_pieces key now ps) apart))
            (each_cons p (with_pieces key now ps) (each zero p refl) (each_updated now kept ps (each_tail p ps each)))
      ]

  length_updated : (now : Pieces) (ps : List Partial) → length (with_pieces key now ps) ≤ length ps
  length_updated now [] = omega arith
  length_updated now (p ∷ ps) = let rest = length_updated now ps in length_cond (same_key p.key key) (record { key = p.key; pieces = now } ∷ ps) (p ∷ with_pieces key now ps) (suc (length ps)) (omega arith) (omega arith)

  pub kept_partial : (ps : List Partial) (was : Pieces) → Each ps → kept_of key ps ≡ Some was → IsPartial (record { key = key; pieces = was })
  kept_partial [] was each e = absurd (none-some was e)
  kept_partial (p ∷ ps) was each e =
      elim (cases_Bool (same_key p.key key)) [
        | inl same ↦
            let pieces : p.pieces ≡ was = same_Some p.pieces was (sym (cond-true (same_key p.key key) (Some p.pieces) (kept_of key ps) same) ∙ e) in
            let keys = same_key_is p.key key same in
            let is : p ≡ record { key = key; pieces = was } = λ i. record { key = keys i; pieces = pieces i } in
            subst IsPartial is (each zero p refl)
        | inr apart ↦ kept_partial ps was (each_tail p ps each) (sym (cond-false (same_key p.key key) (Some p.pieces) (kept_of key ps) apart) ∙ e)
      ]

kept_left : (key : PartKey) (ps : List Partial) (now : Pieces) (ms : List ℕ) → AreKept ps → (0 < length ms → IsPartial (record { key = key; pieces = now })) → AreKept (left key now ms ps)
kept_left key ps now [] kept partial =
    let few = kept.few in
    record { few = omega (arith, length_without key ps); each = each_without key ps kept.each }
kept_left key ps now (n ∷ ns) kept partial =
    let few = kept.few in
    record { few = omega (arith, length_updated key now ps); each = each_updated key now (partial (omega arith)) ps kept.each }

kept_goes_on : (ps : List Partial) (key : PartKey) (number : ℕ) (body : List ℕ) (was : Pieces) → AreKept ps → kept_of key ps ≡ Some was → 1 ≤ number → number ≤ key.total → length body ≤ 1023 → AreKept (goes_on ps key number body was).partial
kept_goes_on ps key number body was kept is low high small =
    let old = kept_partial key ps was kept.each is in
    let now = with_piece was number body in
    kept_left key ps now (missing key.total now) kept (λ some. partial_of key now old.several old.few (sound_with key.total was number body (sound_of _ old) low high small) some)

kept_begins : (ps : List Partial) (key : PartKey) (number : ℕ) (body : List ℕ) → AreKept ps → 2 ≤ key.total → key.total ≤ 256 → 1 ≤ number → number ≤ key.total → length body ≤ 1023 → AreKept (begins ps key number body).partial
kept_begins ps key number body kept several few low high small =
    let now = with_piece empty number body in
    let less = count_beside empty number key.total (none_in number) low high in
    let same = ap length (missing_with key.total empty number body) in
    let all = all_missing key.total in
    let new : IsPartial (record { key = key; pieces = now }) = partial_of key now several few (sound_with key.total empty number body (sound_empty key.total) low high small) (omega arith) in
    let few_kept = kept.few in
    cond_both (ltb (length ps) 4) _ _ (λ (t : Taken). AreKept t.partial)
    (λ e. let room = ltb-true (length ps) 4 e in record { few = omega (arith, length_push ps (record { key = key; pieces = now })); each = each_push ps _ kept.each new })
    (λ e. let full = ltb-false (length ps) 4 e in
    record { few = omega (arith, length_push (drop 1 ps) (record { key = key; pieces = now }), length_drop ps kept.few full); each = each_push (drop 1 ps) _ (each_drop ps kept.each) new })

kept_in : (ps : List Partial) (key : PartKey) (number : ℕ) (body : List ℕ) (was : Option Pieces) → kept_of key ps ≡ was → AreKept ps → 2 ≤ key.total → key.total ≤ 256 → 1 ≤ number → number ≤ key.total → length body ≤ 1023 → AreKept (taken_in ps key number body was).partial
kept_in ps key number body None is kept several few low high small = kept_begins ps key number body kept several few low high small
kept_in ps key number body (Some was) is kept several few low high small = kept_goes_on ps key number body was kept is low high small

-- what a packet leaves is kept well
pub kept_taken : (ps : List Partial) (h : Header) (body : List ℕ) (packet : Packet) → AreKept ps → 1 ≤ packet.number → packet.number ≤ packet.total → length body ≤ 1023 → AreKept (taken_as ps h body packet).partial
kept_taken ps h body packet kept low high small =
    cond_both (ltb 256 packet.total) _ _ (λ (t : Taken). AreKept t.partial) (λ _. kept) (λ few.
    cond_both (eqb packet.total 1) _ _ (λ (t : Taken). AreKept t.partial) (λ _. kept) (λ several.
    let at_most = ltb-false 256 packet.total few in
    let more = eqb-false packet.total 1 several in
    kept_in ps (key_of h packet) packet.number body (kept_of (key_of h packet) ps) refl kept (omega arith) at_most low high small))

-- ---- the bound

length_piece : (o : Option (List ℕ)) → ((octets : List ℕ) → o ≡ Some octets → length octets ≤ 1023) → length (unwrap_or o []) ≤ 1023
length_piece None short = omega arith
length_piece (Some octets) short = short octets refl

pub length_joined : (m : Pieces) (n : ℕ) → ((number : ℕ) (octets : List ℕ) → get m number ≡ Some octets → length octets ≤ 1023) → length (octets_joined n m) ≤ n * 1023
length_joined m zero short = omega arith
length_joined m (suc n) short =
    let split = ap length (flat_map-append (piece m) (numbers n) (suc n ∷ []) ∙ ap (λ xs. octets_joined n m ++ xs) (append-nil (piece m (suc n)))) ∙ length-append (octets_joined n m) (piece m (suc n)) in
    omega (arith, split, length_joined m n short, length_piece (get m (suc n)) (short (suc n)))

octets_bound : (p : Partial) → IsPartial p → octets_kept p ≤ 261888
octets_bound p kept = let few = kept.few in omega (arith, length_joined p.pieces p.key.total kept.short)

all_bound : (ps : List Partial) → Each ps → all_octets_kept ps ≤ length ps * 261888
all_bound [] each = omega arith
all_bound (p ∷ ps) each = omega (arith, octets_bound p (each zero p refl), all_bound ps (each_tail p ps each))

pub bounded : (ps : List Partial) → AreKept ps → IsBounded ps
bounded ps kept =
    let few = kept.few in
    record {
      messages = kept.few;
      packets = λ place p e. ((kept.each place p e).own, (kept.each place p e).few);
      octets = omega (arith, all_bound ps kept.each);
    }
