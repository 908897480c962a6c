-- What a cutter's calls do to the texts that it stands for.
use Rattle.std.proofs.Common.{◌≡◌, ◌<◌, ◌≤◌, ◌+◌, ℕ, zero, suc, eqb-true, Bool, true, false, Some, None, List, [], ◌∷◌, ◌++◌, length, take, drop, eqb, leb, refl, sym, ap, subst, ◌∙◌, arith, append_assoc, append-nil, length-append}
use Rattle.std.proofs.lemmas.Bool.{and_right, lt-leb}
use Rattle.std.proofs.lemmas.Grind.{flat_map-append}
use Rattle.std.proofs.lemmas.List.{take-append-drop, take_all}
use Rattle.std.specs.List.{flat_map, position}
use Rattle.jt_input.specs.Text.{IsLine, with_line_feed, Cuts, lines_of, is_within}
use Rattle.jt_input.specs.Cutter.{Held, CutsOctets, IsBegun, IsBeyond, begun_of, begun_line}
use Rattle.jt_input.proofs.Lacking.{Lacks-append, front_before, lacks_all}
use Rattle.jt_input.proofs.Lines.{AreLines-append, lines_of-front, lines_of-unfinished, some_line, long_line}

no_items : (xs : List ℕ) → length xs ≡ 0 → xs ≡ []
no_items [] h = refl
no_items (x ∷ xs) h = absurd (omega arith)

positive : (n : ℕ) → eqb n 0 ≡ false → 0 < n
positive zero e = absurd cc
positive (suc n) e = omega arith

pub cuts_more : (text begun octets : List ℕ) (lines : List (List ℕ)) → Cuts text lines begun → IsLine octets → Cuts (text ++ octets) lines (begun ++ octets)
cuts_more text begun octets lines cuts h = record {
  whole = rw (cuts.whole) (append_assoc (flat_map with_line_feed lines) begun octets);
  each = cuts.each;
  unfinished = Lacks-append 10 begun octets cuts.unfinished h;
}

pub cuts_line : (text begun front : List ℕ) (lines : List (List ℕ)) → Cuts text lines begun → IsLine front
    → Cuts (text ++ with_line_feed front) (lines ++ (begun ++ front) ∷ []) []
cuts_line text begun front lines cuts h = record {
  whole =
      rw (flat_map-append, append-nil) (ap (λ (t : List ℕ). t ++ with_line_feed front) cuts.whole ∙ simp append_assoc);
  each = AreLines-append lines ((begun ++ front) ∷ []) cuts.each (Lacks-append 10 begun front cuts.unfinished h, tt);
  unfinished = tt;
}

-- nothing was taken
pub begun_same : (old new : Held) → begun_of new ≡ begun_of old → new.number ≡ old.number → IsBegun old → IsBegun new
begun_same old new same number begun = rw (same, number) begun

-- a line past the last of the limit
pub late : (held : Held) (octets : List ℕ) → held.number ≡ 10000000 → 0 < length octets → IsBeyond held octets
late held octets last some = λ text rest lines cuts.
    let next = some_line (begun_of held ++ (octets ++ rest)) (omega (arith, length-append (begun_of held) (octets ++ rest), length-append octets rest)) in (
      next.0,
      next.1,
      ap lines_of (append_assoc text octets rest) ∙ lines_of-front text (octets ++ rest) (begun_of held) lines cuts ∙ ap (λ (xs : List (List ℕ)). lines ++ xs) next.2,
      rw last refl,
    )

long_is_beyond : (number : ℕ) (line : List ℕ) → 4096 < length line → is_within number line ≡ false
long_is_beyond number line h = and_right (leb number 10000000) (leb (length line) 4096) (lt-leb (length line) 4096 h)

-- a line past the limit of its octets
pub too_long : (held : Held) (octets part others : List ℕ) → octets ≡ part ++ others → IsLine part → 4096 < length (begun_of held) + length part → IsBeyond held octets
too_long held octets part others is h long = λ text rest lines cuts.
    let next = long_line (begun_of held ++ part) (others ++ rest) (omega (arith, length-append (begun_of held) part)) (Lacks-append 10 (begun_of held) part cuts.unfinished h) in
    let parts : begun_of held ++ (octets ++ rest) ≡ (begun_of held ++ part) ++ (others ++ rest) = rw is (simp append_assoc) in (
      next.0,
      next.1,
      ap lines_of (append_assoc text octets rest) ∙ lines_of-front text (octets ++ rest) (begun_of held) lines cuts ∙ ap (λ (xs : List ℕ). lines ++ lines_of xs) parts
          ∙ ap (λ (xs : List (List ℕ)). lines ++ xs) next.2,
      let longer : length (begun_of held ++ part) ≤ length next.0 = next.3 in long_is_beyond (held.number + 1) next.0 (omega (arith, length-append (begun_of held) part, longer)),
    )

-- further octets of a line
pub takes_more : (old new : Held) (piece : List ℕ) → position (λ x. eqb x 10) piece ≡ None → new.whole ≡ false
    → new.line ≡ begun_of old ++ piece → new.number ≡ old.number → CutsOctets old new (take (length piece) piece) []
takes_more old new piece without begun line number = record {
  cuts = λ text lines cuts.
      let now : begun_of new ≡ begun_of old ++ piece = ap (λ (b : Bool). begun_line b new.line) begun ∙ line in
      rw (now, take_all (length piece) piece (omega arith), append-nil) (cuts_more text (begun_of old) piece lines cuts (lacks_all 10 piece without));
  number = omega arith;
}

-- the rest of a line, and its line feed
pub takes_line : (old new : Held) (piece : List ℕ) (end : ℕ) → position (λ x. eqb x 10) piece ≡ Some end → new.whole ≡ true
    → new.line ≡ begun_of old ++ take end piece → new.number ≡ old.number + 1 → CutsOctets old new (take (end + 1) piece) (new.line ∷ [])
takes_line old new piece end found whole line number =
    let before = front_before 10 piece end found in
    record {
      cuts = λ text lines cuts.
          let now : begun_of new ≡ [] = ap (λ (b : Bool). begun_line b new.line) whole in
          rw (now, line, before.2) (cuts_line text (begun_of old) (take end piece) lines cuts before.1);
      number = number;
    }

-- the rest of a line, which is too long
pub too_long_line : (held : Held) (piece : List ℕ) (end : ℕ) → position (λ x. eqb x 10) piece ≡ Some end
    → 4096 < length (begun_of held) + length (take end piece) → IsBeyond held piece
too_long_line held piece end found long =
    too_long held piece (take end piece) (drop end piece) (sym (take-append-drop end piece)) (front_before 10 piece end found).1 long

-- further octets of a line, which is too long
pub too_long_begun : (held : Held) (piece : List ℕ) → position (λ x. eqb x 10) piece ≡ None
    → 4096 < length (begun_of held) + length piece → IsBeyond held piece
too_long_begun held piece without long = too_long held piece piece [] (sym (append-nil piece)) (lacks_all 10 piece without) long

-- a text that ends behind a whole line
pub ends_whole : (inside held : Held) → inside ≡ held → inside.whole ≡ true → (text : List ℕ) (lines : List (List ℕ)) → Cuts text lines (begun_of held)
    → lines_of text ≡ lines ++ []
ends_whole inside held is whole text lines cuts =
    let none : begun_of held ≡ [] = ap begun_of (sym is) ∙ ap (λ (b : Bool). begun_line b inside.line) whole in
    let all = lines_of-front text [] (begun_of held) lines cuts in
    ap lines_of (sym (append-nil text)) ∙ all ∙ ap (λ (xs : List ℕ). lines ++ lines_of (xs ++ [])) none

-- a text that ends where a line would begin
pub ends_empty : (inside held : Held) → inside ≡ held → inside.whole ≡ false → eqb (length inside.line) 0 ≡ true → (text : List ℕ) (lines : List (List ℕ))
    → Cuts text lines (begun_of held) → lines_of text ≡ lines ++ []
ends_empty inside held is whole empty text lines cuts =
    let none : begun_of held ≡ [] =
    ap begun_of (sym is) ∙ ap (λ (b : Bool). begun_line b inside.line) whole ∙ no_items inside.line (eqb-true (length inside.line) 0 empty) in
    let all = lines_of-front text [] (begun_of held) lines cuts in
    ap lines_of (sym (append-nil text)) ∙ all ∙ ap (λ (xs : List ℕ). lines ++ lines_of (xs ++ [])) none

-- a text that ends in a line that is not ended
pub ends_begun : (inside held : Held) (line : List ℕ) → inside ≡ held → inside.whole ≡ false → eqb (length inside.line) 0 ≡ false → line ≡ inside.line
    → (text : List ℕ) (lines : List (List ℕ)) → Cuts text lines (begun_of held) → lines_of text ≡ lines ++ line ∷ []
ends_begun inside held line is whole some line_is text lines cuts =
    let begun : begun_of held ≡ line =
    ap begun_of (sym is) ∙ ap (λ (b : Bool). begun_line b inside.line) whole ∙ sym line_is in
    let long : 0 < length line = rw line_is (positive (length inside.line) some) in
    let all = lines_of-front text [] (begun_of held) lines cuts in
    ap lines_of (sym (append-nil text)) ∙ all ∙ ap (λ (xs : List ℕ). lines ++ lines_of xs) (append-nil (begun_of held) ∙ begun)
    ∙ ap (λ (xs : List (List ℕ)). lines ++ xs) (lines_of-unfinished line (subst IsLine begun cuts.unfinished) long)
