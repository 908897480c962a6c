-- What a packet is told is within the limits.
use Rattle.std.proofs.Common.{◌≡◌, ℕ, ◌≤◌, ◌<◌, true, eqb, ltb, List, [], ◌∷◌, length, Option, Some, None, refl, ap, ◌∙◌, arith, inl, inr}
use Rattle.std.specs.FinMap.{len, empty, contains_key, empty_of_len}
use Rattle.std.proofs.lemmas.Bool.{cases_lt, cond_both, eq-eqb, ltb-false, or_left, both_ways}
use Rattle.jt_header.specs.declared.header.Header.{Header}
use Rattle.jt_header.specs.declared.header.Packet.{Packet}
use Rattle.jt_subpacket.specs.declared.key.PartKey.{PartKey}
use Rattle.jt_subpacket.specs.Partials.{Partial, Pieces, key_of, kept_of, missing, with_piece}
use Rattle.jt_subpacket.specs.Fates.{IsWithinLimits, Taken, taken_as, taken_in, packet_fate, unfinished}
use Rattle.jt_subpacket.specs.Steps.{AreKept}
use Rattle.jt_subpacket.proofs.Maps.{has_with}
use Rattle.jt_subpacket.proofs.Kept.{AreSound, kept_partial, length_joined, none_in, sound_empty, sound_of, sound_with}

-- octets under a number are kept once they have come
some_kept : (m : Pieces) (number : ℕ) (body : List ℕ) → 0 < len (with_piece m number body)
some_kept m number body =
    elim (cases_lt 0 (len (with_piece m number body))) [
      | inl some ↦ some
      | inr none ↦
          let there : contains_key (with_piece m number body) number ≡ true = has_with m number body (contains_key m number) refl number ∙ or_left (eqb number number) (contains_key m number) (eq-eqb number number refl) in
          let nothing : with_piece m number body ≡ empty = empty_of_len (with_piece m number body) (omega arith) in
          absurd (both_ways (contains_key (with_piece m number body) number) (ap (λ (p : Pieces). contains_key p number) nothing ∙ none_in number) there)
    ]

within_unfinished : (key : PartKey) (number : ℕ) (was now : Pieces) → length (missing key.total now) ≤ 255 → IsWithinLimits (unfinished key number was now)
within_unfinished key number was now few =
    cond_both (eqb number key.total) _ _ IsWithinLimits (λ _. few) (λ _. cond_both (contains_key was number) _ _ IsWithinLimits (λ _. tt) (λ _. tt))

few_missing : (key : PartKey) (m : Pieces) (number : ℕ) (body : List ℕ) → key.total ≤ 256 → AreSound key.total (with_piece m number body) → length (missing key.total (with_piece m number body)) ≤ 255
few_missing key m number body few sound = let count = sound.count in omega (arith, some_kept m number body)

within_told : (key : PartKey) (number : ℕ) (was : Pieces) (body : List ℕ) (ms : List ℕ) → key.total ≤ 256 → AreSound key.total (with_piece was number body) → IsWithinLimits (packet_fate key number was (with_piece was number body) ms)
within_told key number was body [] few sound = omega (arith, length_joined (with_piece was number body) key.total sound.short)
within_told key number was body (n ∷ ns) few sound = within_unfinished key number was (with_piece was number body) (few_missing key was number body few sound)

within_in : (ps : List Partial) (key : PartKey) (number : ℕ) (body : List ℕ) (was : Option Pieces) → kept_of key ps ≡ was → AreKept ps → key.total ≤ 256 → 1 ≤ number → number ≤ key.total → length body ≤ 1023 → IsWithinLimits (taken_in ps key number body was).fate
within_in ps key number body None is kept few low high small =
    let fits = within_unfinished key number empty (with_piece empty number body) (few_missing key empty number body few (sound_with key.total empty number body (sound_empty key.total) low high small)) in
    cond_both (ltb (length ps) 4) _ _ (λ (t : Taken). IsWithinLimits t.fate) (λ _. fits) (λ _. fits)
within_in ps key number body (Some was) is kept few low high small =
    within_told key number was body (missing key.total (with_piece was number body)) few (sound_with key.total was number body (sound_of _ (kept_partial key ps was kept.each is)) low high small)

pub within : (ps : List Partial) (h : Header) (body : List ℕ) (packet : Packet) → AreKept ps → 1 ≤ packet.number → packet.number ≤ packet.total → length body ≤ 1023 → IsWithinLimits (taken_as ps h body packet).fate
within ps h body packet kept low high small =
    cond_both (ltb 256 packet.total) _ _ (λ (t : Taken). IsWithinLimits t.fate) (λ _. tt) (λ few.
    cond_both (eqb packet.total 1) _ _ (λ (t : Taken). IsWithinLimits t.fate) (λ _. omega arith) (λ _.
    within_in ps (key_of h packet) packet.number body (kept_of (key_of h packet) ps) refl kept (ltb-false 256 packet.total few) low high small))
