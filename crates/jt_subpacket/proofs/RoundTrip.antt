-- What is split is joined again.
use Rattle.std.proofs.Common.{◌≡◌, ℕ, zero, suc, ◌+◌, ◌-◌, ◌≤◌, ◌<◌, ◌%◌, List, [], ◌∷◌, ◌++◌, length, take, get_or, Option, Some, refl, sym, ap, subst, ◌∙◌, arith, add-one}
use Rattle.std.specs.Prelude.{IfSome, slice_get}
use Rattle.std.specs.List.{flat_map}
use Rattle.std.specs.Option.{option_map, unwrap_or}
use Rattle.std.proofs.lemmas.List.{take_all, take_more}
use Rattle.std.proofs.lemmas.List.Concat.{flat_map-append}
use Rattle.std.proofs.lemmas.Option.{slice_get-get_or, slice_get_within}
use Rattle.jt_header.specs.declared.header.Header.{Header}
use Rattle.jt_subpacket.specs.Parts.{Message, packet_header}
use Rattle.jt_subpacket.specs.Partials.{numbers}
use Rattle.jt_subpacket.specs.Joining.{IsJoinedAgain, IsPacketOf, number_of, octets_in}

abbrev body_of : Message → List ℕ
body_of q = q.1

octets_at : (packets : List Message) (d : Message) (i : ℕ) → i < length packets → octets_in packets (suc i) ≡ body_of (get_or packets i d)
octets_at packets d i lt =
    let back : suc i - 1 ≡ i = omega arith in
    ap (λ n. unwrap_or (option_map body_of (slice_get packets n)) []) back
    ∙ ap (λ o. unwrap_or (option_map body_of o) []) (slice_get-get_or packets i d lt)

joined_front : (packets : List Message) (d : Message) (n : ℕ) → n ≤ length packets → flat_map (octets_in packets) (numbers n) ≡ flat_map body_of (take n packets)
joined_front packets d zero le = refl
joined_front packets d (suc k) le =
    let more : take (suc k) packets ≡ take k packets ++ get_or packets k d ∷ [] = ap (λ n. take n packets) (sym (add-one k)) ∙ take_more packets k d (omega arith) in
    flat_map-append (octets_in packets) (numbers k) (suc k ∷ [])
    ∙ ap (λ xs. xs ++ (octets_in packets (suc k) ++ [])) (joined_front packets d k (omega arith))
    ∙ ap (λ xs. flat_map body_of (take k packets) ++ (xs ++ [])) (octets_at packets d k (omega arith))
    ∙ sym (ap (flat_map body_of) more ∙ flat_map-append body_of (take k packets) (get_or packets k d ∷ []))

packet_of : (h : Header) (packets : List Message) (place : ℕ) (q : Message) → slice_get packets place ≡ Some q → q.0 ≡ packet_header h (length packets) place
    → IsPacketOf (record { id = h.id; first = h.serial; total = length packets }) (octets_in packets) q
packet_of h packets place q there is =
    let number : number_of q ≡ place + 1 = ap (λ (g : Header). number_of (g, q.1)) is in
    let within = slice_get_within packets place q there in
    let back : number_of q - 1 ≡ place = omega arith in
    record {
      id = ap (λ (g : Header). g.id) is;
      packet = ap (λ (g : Header). g.packet) is ∙ ap (λ n. Some (record { total = length packets; number = n })) (sym number);
      low = omega arith;
      high = omega arith;
      serial = ap (λ (g : Header). g.serial) is ∙ ap (λ n. (h.serial + n) % 65536) (sym back);
      body = sym (ap (λ n. unwrap_or (option_map body_of (slice_get packets n)) []) back ∙ ap (λ o. unwrap_or (option_map body_of o) []) there);
    }

pub joined_again : IsJoinedAgain
joined_again h body packets few split = record {
  each = λ place q there. packet_of h packets place q there (subst (λ (o : Option Message). IfSome o (λ p. p.0 ≡ packet_header h (length packets) place)) there (split.headers place));
  whole = joined_front packets (h, []) (length packets) (omega arith) ∙ ap (flat_map body_of) (take_all (length packets) packets (omega arith)) ∙ split.joined;
}
