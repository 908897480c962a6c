-- What stands while a reader of hexadecimal digits goes through a piece of its input.
use Rattle.std.proofs.Common.{◌≡◌, ◌<◌, ◌≤◌, ◌+◌, ℕ, true, false, List, [], ◌∷◌, ◌++◌, Option, Some, None, length, take, drop, get_or, option_to_list, refl, sym, ap, arith, ◌∙◌, length-append, append_assoc, append-nil}
use Rattle.std.proofs.lemmas.List.{take_all, take_more, drop_more, take-append-drop, length-take-le}
use Rattle.hex.specs.Hex.{is_hex_digit}
use Rattle.jt_view.specs.HexInput.{is_blank, first_wrong, digits, octets_of_digits, unpaired, StandsFor, Completes}
use Rattle.jt_view.proofs.HexDigits.{wrong_after, none_after, digits_after, octets_after, octets_half, unpaired_after, blank_alone, digit_alone, wrong_first, digits_few, waiting_one, waiting_alone, waiting_no_octet}

-- the digits of a piece, after the one that waited for its second
abbrev pub given : Option ℕ → List ℕ → List ℕ
given waiting piece = option_to_list waiting ++ digits piece

-- The front of a piece was read, by a reader in which this digit waited first, and now another.
pub record HexSoFar (first now : Option ℕ) (front before octets : List ℕ) : Type 0 where
  pub right : first_wrong front ≡ None
  pub waits : now ≡ unpaired (given first front)
  pub gained : octets ≡ before ++ octets_of_digits (given first front)

nothing_right : (first_wrong [] ≡ None) × (digits [] ≡ [])
unfolding first_wrong digits
nothing_right = (refl, refl)

pub hex_begun : (first : Option ℕ) (piece before : List ℕ) → HexSoFar first first (take 0 piece) before before
hex_begun first piece before = record {
  right = nothing_right.0;
  waits = rw (nothing_right.1) (waiting_alone first);
  gained = rw (nothing_right.1) (waiting_no_octet first before);
}

pub hex_blank : (first now : Option ℕ) (piece before octets : List ℕ) (i c d : ℕ) → i < length piece → c ≡ get_or piece i d
    → is_blank c ≡ true → is_hex_digit c ≡ false → HexSoFar first now (take i piece) before octets → HexSoFar first now (take (i + 1) piece) before octets
hex_blank first now piece before octets i c d h e b x so_far =
    let alone = blank_alone c b x in
    let next : take (i + 1) piece ≡ take i piece ++ c ∷ [] = rw e (take_more piece i d h) in
    let same : digits (take (i + 1) piece) ≡ digits (take i piece) = rw next (digits_after (take i piece) (c ∷ []) so_far.right ∙ ap (λ ds. digits (take i piece) ++ ds) alone.1 ∙ append-nil (digits (take i piece))) in
    record {
      right = rw next (none_after (take i piece) (c ∷ []) so_far.right alone.0);
      waits = rw same so_far.waits;
      gained = rw same so_far.gained;
    }

pub hex_digit : (first now next : Option ℕ) (piece before octets more : List ℕ) (i c d : ℕ) → i < length piece → c ≡ get_or piece i d
    → is_hex_digit c ≡ true → next ≡ unpaired (option_to_list now ++ c ∷ []) → more ≡ octets ++ octets_of_digits (option_to_list now ++ c ∷ [])
    → HexSoFar first now (take i piece) before octets → HexSoFar first next (take (i + 1) piece) before more
hex_digit first now next piece before octets more i c d h e x w o so_far =
    let alone = digit_alone c x in
    let front : take (i + 1) piece ≡ take i piece ++ c ∷ [] = rw e (take_more piece i d h) in
    let grown : given first (take (i + 1) piece) ≡ given first (take i piece) ++ c ∷ [] = rw front (ap (λ ds. option_to_list first ++ ds) (digits_after (take i piece) (c ∷ []) so_far.right ∙ ap (λ ds. digits (take i piece) ++ ds) alone.1) ∙ sym (append_assoc (option_to_list first) (digits (take i piece)) (c ∷ []))) in
    record {
      right = rw front (none_after (take i piece) (c ∷ []) so_far.right alone.0);
      waits = rw grown (w ∙ ap (λ digit. unpaired (option_to_list digit ++ c ∷ [])) so_far.waits ∙ sym (unpaired_after (given first (take i piece)) (c ∷ [])));
      gained = rw grown (o ∙ ap (λ xs. xs ++ octets_of_digits (option_to_list now ++ c ∷ [])) so_far.gained ∙ append_assoc before (octets_of_digits (given first (take i piece))) (octets_of_digits (option_to_list now ++ c ∷ []))
          ∙ ap (λ digit. before ++ (octets_of_digits (given first (take i piece)) ++ octets_of_digits (option_to_list digit ++ c ∷ []))) so_far.waits ∙ ap (λ xs. before ++ xs) (sym (octets_after (given first (take i piece)) (c ∷ []))));
    }

-- a piece was read as far as its digits go
pub hex_completes : (first : Option ℕ) (piece before octets : List ℕ) → octets ≡ before ++ octets_of_digits (given first piece) → Completes first piece before octets
hex_completes first piece before octets e = record {
  more = octets_of_digits (given first piece);
  appended = e;
  few = omega (arith, octets_half (given first piece), digits_few piece, waiting_one first, length-append (option_to_list first) (digits piece));
  octets = λ seen stands. ap octets_of_digits (digits_after seen piece stands.right) ∙ octets_after (digits seen) (digits piece) ∙ ap (λ digit. octets_of_digits (digits seen) ++ octets_of_digits (given digit piece)) (sym stands.waits);
}

-- the next octet is wrong
pub hex_wrong : (first now : Option ℕ) (piece before octets : List ℕ) (i c d : ℕ) → i < length piece → c ≡ get_or piece i d
    → is_blank c ≡ false → is_hex_digit c ≡ false → HexSoFar first now (take i piece) before octets
    → (first_wrong piece ≡ Some i) × (octets ≡ before ++ octets_of_digits (given first piece))
hex_wrong first now piece before octets i c d h e b x so_far =
    let last = wrong_first c (drop (i + 1) piece) b x in
    let cut : piece ≡ take i piece ++ (c ∷ drop (i + 1) piece) = sym (take-append-drop i piece) ∙ ap (λ xs. take i piece ++ xs) (rw e (drop_more piece i d h)) in
    let place = wrong_after (take i piece) (c ∷ drop (i + 1) piece) 0 so_far.right last.0 in
    let same = digits_after (take i piece) (c ∷ drop (i + 1) piece) so_far.right ∙ ap (λ ds. digits (take i piece) ++ ds) last.1 ∙ append-nil (digits (take i piece)) in (
      ap first_wrong cut ∙ place ∙ ap Some (omega (arith, length-take-le i piece (omega arith))),
      so_far.gained ∙ ap (λ ds. before ++ octets_of_digits (option_to_list first ++ ds)) (sym (ap digits cut ∙ same)),
    )

pub wrong_seen : (first : Option ℕ) (piece : List ℕ) (i : ℕ) → first_wrong piece ≡ Some i → (seen : List ℕ) → StandsFor first seen → first_wrong (seen ++ piece) ≡ Some (length seen + i)
wrong_seen first piece i e seen stands = wrong_after seen piece i stands.right e

-- the whole piece was read
pub hex_stands : (first now : Option ℕ) (piece before octets : List ℕ) → HexSoFar first now piece before octets
    → (seen : List ℕ) → StandsFor first seen → StandsFor now (seen ++ piece)
hex_stands first now piece before octets so_far seen stands = record {
  right = none_after seen piece stands.right so_far.right;
  waits = so_far.waits ∙ ap (λ digit. unpaired (given digit piece)) stands.waits ∙ sym (unpaired_after (digits seen) (digits piece)) ∙ ap unpaired (sym (digits_after seen piece stands.right));
}

pub hex_whole : (first now : Option ℕ) (piece before octets : List ℕ) (i : ℕ) → length piece ≤ i
    → HexSoFar first now (take i piece) before octets → HexSoFar first now piece before octets
hex_whole first now piece before octets i h so_far = rw (take_all i piece h) at so_far
