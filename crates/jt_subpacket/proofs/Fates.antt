-- What a packet is told, and what is left then.
use Rattle.std.proofs.Common.{◌≡◌, ℕ, Bool, true, false, eqb, List, [], ◌∷◌, refl, sym, ap, ◌∙◌, arith}
use Rattle.std.specs.Prelude.{IsTrue, slice_set}
use Rattle.std.specs.List.{remove}
use Rattle.std.specs.FinMap.{contains_key}
use Rattle.std.proofs.lemmas.Bool.{cond-true, eq-eqb, both_ways}
use Rattle.jt_subpacket.specs.declared.key.PartKey.{PartKey}
use Rattle.jt_subpacket.specs.declared.taken.Fate.{Fate}
use Rattle.jt_subpacket.specs.declared.taken.Fate.TheVariants.{Whole, Resend}
use Rattle.jt_subpacket.specs.Partials.{Partial, Pieces, octets_joined, missing, with_piece}
use Rattle.jt_subpacket.specs.Fates.{packet_fate, unfinished}
use Rattle.jt_subpacket.specs.Steps.{AnswersPacket, IsPartial, joined_beside, left_there, missing_beside}
use Rattle.jt_subpacket.proofs.Maps.{missing_with, joined_with}
use Rattle.jt_subpacket.proofs.Missing.{not_nil, same_beside}

-- the last packet asks for those that are missing once it is there
pub asks : (key : PartKey) (p : Partial) (number : ℕ) (numbers : List ℕ) → key ≡ p.key → number ≡ key.total → numbers ≡ missing_beside p.key.total p.pieces number
    → (body : List ℕ) → Resend key.first numbers ≡ unfinished p.key number p.pieces (with_piece p.pieces number body)
asks key p number numbers same is packet_fate body =
    let last : eqb number p.key.total ≡ true = eq-eqb number p.key.total (is ∙ ap (λ (k : PartKey). k.total) same) in
    ap (λ (k : PartKey). Resend k.first numbers) same
    ∙ ap (Resend p.key.first) (packet_fate ∙ sym (missing_with p.key.total p.pieces number body))
    ∙ sym (cond-true (eqb number p.key.total) _ _ last)

-- ---- a packet of a message that is begun

told_none : (key : PartKey) (number : ℕ) (was now : Pieces) (ms : List ℕ) → ms ≡ [] → packet_fate key number was now ms ≡ Whole key.id key.first (octets_joined key.total now)
told_none key number was now ms e = ap (packet_fate key number was now) e

pub told_some : (key : PartKey) (number : ℕ) (was now : Pieces) (ms : List ℕ) → (ms ≡ [] → ⊥) → packet_fate key number was now ms ≡ unfinished key number was now
told_some key number was now [] some = absurd (some refl)
told_some key number was now (n ∷ ns) some = refl

there_some : (ps : List Partial) (place : ℕ) (p : Partial) (ms : List ℕ) → (ms ≡ [] → ⊥) → left_there ps place p ms ≡ slice_set ps place p
there_some ps place p [] some = absurd (some refl)
there_some ps place p (n ∷ ns) some = refl

-- a message that is not whole with the packet stays
pub stays : (ps : List Partial) (place : ℕ) (p : Partial) (number : ℕ) (body : List ℕ) (fate : Fate) (new : Partial) (completed : Bool)
    → (IsTrue completed → missing_beside p.key.total p.pieces number ≡ []) × (missing_beside p.key.total p.pieces number ≡ [] → IsTrue completed) → completed ≡ false
    → fate ≡ unfinished p.key number p.pieces (with_piece p.pieces number body) → new ≡ record { key = p.key; pieces = with_piece p.pieces number body }
    → AnswersPacket ps place number body fate (slice_set ps place new) p
stays ps place p number body fate new completed iff off fate_is new_is =
    let some : missing p.key.total (with_piece p.pieces number body) ≡ [] → ⊥ = λ e. both_ways completed off (iff.1 (sym (missing_with p.key.total p.pieces number body) ∙ e)) in
    record {
      fate_is = fate_is ∙ sym (told_some p.key number p.pieces (with_piece p.pieces number body) _ some);
      now_is = ap (slice_set ps place) new_is ∙ sym (there_some ps place _ _ some);
    }

absent : (p : Partial) (number : ℕ) (had : Bool) → contains_key p.pieces number ≡ had → IsPartial p → missing_beside p.key.total p.pieces number ≡ [] → contains_key p.pieces number ≡ false
absent p number false is kept none = is
absent p number true is kept none = let whole = kept.count in let less = kept.unfinished in absurd (not_nil (missing p.key.total p.pieces) (omega arith) (sym (same_beside p.pieces number p.key.total is) ∙ none))

-- a message that is whole with the packet is gone
pub goes : (ps : List Partial) (place : ℕ) (p : Partial) (number : ℕ) (body octets : List ℕ) (key : PartKey) (now : List Partial) (completed : Bool)
    → IsPartial p → (IsTrue completed → missing_beside p.key.total p.pieces number ≡ []) × (missing_beside p.key.total p.pieces number ≡ [] → IsTrue completed) → completed ≡ true
    → key ≡ p.key → octets ≡ joined_beside p.key.total p.pieces number body → now ≡ remove ps place
    → AnswersPacket ps place number body (Whole key.id key.first octets) now p
goes ps place p number body octets key now completed kept iff on same joins new =
    let none = iff.0 on in
    let nil : missing p.key.total (with_piece p.pieces number body) ≡ [] = missing_with p.key.total p.pieces number body ∙ none in
    record {
      fate_is =
          ap (λ (k : PartKey). Whole k.id k.first octets) same
          ∙ ap (Whole p.key.id p.key.first) (joins ∙ sym (joined_with p.key.total p.pieces number body (absent p number (contains_key p.pieces number) refl kept none)))
          ∙ sym (told_none p.key number p.pieces (with_piece p.pieces number body) _ nil);
      now_is = new ∙ sym (ap (left_there ps place _) nil);
    }
