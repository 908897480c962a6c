-- The packets that are made one after the other are the parts of the message.
use Rattle.std.proofs.Common.{◌≡◌, ℕ, zero, suc, ◌+◌, ◌-◌, ◌*◌, ◌≤◌, ◌<◌, min, List, [], ◌∷◌, ◌++◌, length, take, drop, Some, refl, sym, ap, subst, ◌∙◌, arith, inl, inr}
use Rattle.std.specs.Prelude.{IfSome, slice_get}
use Rattle.std.specs.List.{flat_map}
use Rattle.std.proofs.lemmas.Bool.{cases_lt}
use Rattle.std.proofs.lemmas.List.{length-take, length-drop, length_push, take_min, take_all, append-nil}
use Rattle.std.proofs.lemmas.List.Concat.{flat_map-append}
use Rattle.std.proofs.lemmas.Option.{slice_get_past}
use Rattle.std.proofs.Math.Seq.{take-add}
use Rattle.jt_header.specs.declared.header.Header.{Header}
use Rattle.jt_subpacket.specs.Parts.{Message, packet_header, InPackets, Parts}
use Rattle.jt_subpacket.specs.Steps.{piece_of, front}

-- the range of a piece is the piece
pub short_take : (body : List ℕ) (start stop : ℕ) → stop ≡ min (length body) (start + 1023) → take (stop - start) (drop start body) ≡ take 1023 (drop start body)
short_take body start stop e =
    let is : stop - start ≡ min 1023 (length (drop start body)) = omega (arith, length-drop start body) in
    ap (λ n. take n (drop start body)) is ∙ take_min 1023 (drop start body)

pub get_left : {X : Type 0} (xs : List X) (x : X) (place : ℕ) → place < length xs → slice_get (xs ++ x ∷ []) place ≡ slice_get xs place
get_left [] x place h = absurd (omega arith)
get_left (y ∷ xs) x zero h = refl
get_left (y ∷ xs) x (suc place) h = get_left xs x place (omega arith)

pub get_last : {X : Type 0} (xs : List X) (x : X) → slice_get (xs ++ x ∷ []) (length xs) ≡ Some x
get_last [] x = refl
get_last (y ∷ xs) x = get_last xs x

module _ (h : Header) (total : ℕ) (body : List ℕ) where
  length_front : (n : ℕ) → length (front h total body n) ≡ n
  length_front zero = refl
  length_front (suc n) = omega (arith, length_push (front h total body n) (packet_header h total n, piece_of body n), length_front n)

  abbrev packet_at : ℕ → Message
  packet_at place = (packet_header h total place, piece_of body place)

  front_at : (n place : ℕ) → place < n → slice_get (front h total body n) place ≡ Some (packet_at place)
  front_at zero place lt = absurd (omega arith)
  front_at (suc n) place lt =
      elim (cases_lt place n) [
        | inl below ↦ get_left (front h total body n) (packet_at n) place (omega (arith, length_front n)) ∙ front_at n place below
        | inr above ↦
            let is : place ≡ n = omega arith in
            subst (λ k. slice_get (front h total body (suc n)) k ≡ Some (packet_at place)) (length_front n ∙ sym is)
            (get_last (front h total body n) (packet_at n) ∙ ap (λ k. Some (packet_at k)) (sym is))
      ]

  joined_front : (n : ℕ) → flat_map (λ (p : Message). p.1) (front h total body n) ≡ take (n * 1023) body
  joined_front zero = refl
  joined_front (suc n) =
      let more : suc n * 1023 ≡ n * 1023 + 1023 = omega arith in
      flat_map-append (λ (p : Message). p.1) (front h total body n) (packet_at n ∷ [])
      ∙ ap (λ (xs : List ℕ). xs ++ (piece_of body n ++ [])) (joined_front n)
      ∙ ap (λ (xs : List ℕ). take (n * 1023) body ++ xs) (append-nil (piece_of body n))
      ∙ sym (ap (λ k. take k body) more ∙ take-add (n * 1023) 1023 body)

  length_piece : (place : ℕ) → length (piece_of body place) ≡ min 1023 (length body - place * 1023)
  length_piece place = length-take 1023 (drop (place * 1023) body) ∙ ap (min 1023) (length-drop (place * 1023) body)

  at_header : (n place : ℕ) (P : Message → Type 0) → (place < n → P (packet_at place)) → IfSome (slice_get (front h total body n) place) P
  at_header n place P holds =
      elim (cases_lt place n) [
        | inl below ↦ subst (λ o. IfSome o P) (sym (front_at n place below)) (holds below)
        | inr above ↦ subst (λ o. IfSome o P) (sym (slice_get_past (front h total body n) place (omega (arith, length_front n)))) tt
      ]

in_packets : (h : Header) (body : List ℕ) (total : ℕ) → 0 < total → (total - 1) * 1023 < length body → length body ≤ total * 1023 → InPackets h body (front h total body total)
in_packets h body total some low high = record {
  headers = λ place. at_header h total body total place _ (λ _. ap (λ n. packet_header h n place) (sym (length_front h total body total)));
  joined = joined_front h total body total ∙ take_all (total * 1023) body high;
  full = λ place lt. at_header h total body total place _ (λ _. omega (arith, length_piece h total body place, length_front h total body total));
  last = at_header h total body total _ _ (λ _. (omega (arith, length_piece h total body (length (front h total body total) - 1), length_front h total body total), omega (arith, length_piece h total body (length (front h total body total) - 1))));
}

pub parts_of : (h : Header) (body : List ℕ) (total : ℕ) (packets : List Message) → 1023 < length body → (total - 1) * 1023 < length body → length body ≤ total * 1023 → packets ≡ front h total body total → Parts h body packets
parts_of h body total packets long low high is = record {
  whole = λ short. absurd (omega arith);
  split = λ _. subst (InPackets h body) (sym is) (in_packets h body total (omega arith) low high);
}
