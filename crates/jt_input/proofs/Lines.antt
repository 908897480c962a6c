-- Texts and their lines.
use Rattle.std.proofs.Common.{◌≡◌, ◌<◌, ◌≤◌, ℕ, List, [], ◌∷◌, ◌++◌, length, eqb, refl, ap, ◌∙◌, inl, inr, arith, append_assoc}
use Rattle.std.proofs.lemmas.Bool.{cases_Bool, ne_eqb}
use Rattle.std.proofs.lemmas.List.Concat.{flat_map-cons}
use Rattle.std.specs.List.{flat_map}
use Rattle.jt_input.specs.Text.{IsLine, AreLines, with_line_feed, Cuts, into_first, lines_of}

pub AreLines-append : (xs ys : List (List ℕ)) → AreLines xs → AreLines ys → AreLines (xs ++ ys)
AreLines-append [] ys h k = k
AreLines-append (x ∷ xs) ys h k = (h.0, AreLines-append xs ys h.1 k)

-- a line with its line feed is the first line
pub lines_of-with_line_feed : (line rest : List ℕ) → IsLine line → lines_of (with_line_feed line ++ rest) ≡ line ∷ lines_of rest
lines_of-with_line_feed [] rest h = refl
lines_of-with_line_feed (x ∷ xs) rest h = rw (ne_eqb x 10 h.0, lines_of-with_line_feed xs rest h.1) refl

-- whole lines are the first lines
pub lines_of-whole : (lines : List (List ℕ)) (rest : List ℕ) → AreLines lines → lines_of (flat_map with_line_feed lines ++ rest) ≡ lines ++ lines_of rest
lines_of-whole [] rest h = refl
lines_of-whole (line ∷ lines) rest h =
    let parts : flat_map with_line_feed (line ∷ lines) ++ rest ≡ with_line_feed line ++ (flat_map with_line_feed lines ++ rest) =
    rw (flat_map-cons with_line_feed line lines) (append_assoc (with_line_feed line) (flat_map with_line_feed lines) rest) in
    ap lines_of parts ∙ lines_of-with_line_feed line (flat_map with_line_feed lines ++ rest) h.0 ∙ ap (λ (xs : List (List ℕ)). line ∷ xs) (lines_of-whole lines rest h.1)

-- what stands behind whole lines
pub lines_of-front : (text rest begun : List ℕ) (lines : List (List ℕ)) → Cuts text lines begun → lines_of (text ++ rest) ≡ lines ++ lines_of (begun ++ rest)
lines_of-front text rest begun lines cuts =
    ap (λ (t : List ℕ). lines_of (t ++ rest)) cuts.whole ∙ ap lines_of (append_assoc (flat_map with_line_feed lines) begun rest)
    ∙ lines_of-whole lines (begun ++ rest) cuts.each

-- an unfinished line is a line
pub lines_of-unfinished : (begun : List ℕ) → IsLine begun → 0 < length begun → lines_of begun ≡ begun ∷ []
lines_of-unfinished [] h k = absurd (omega arith)
lines_of-unfinished (x ∷ []) h k = rw (ne_eqb x 10 h.0) refl
lines_of-unfinished (x ∷ y ∷ ys) h k = rw (ne_eqb x 10 h.0, lines_of-unfinished (y ∷ ys) h.1 (omega arith)) refl

-- the octet is in the first line
into_first_has : (x : ℕ) (lines : List (List ℕ)) → (line : List ℕ) × (more : List (List ℕ)) × (into_first x lines ≡ line ∷ more) × (1 ≤ length line)
into_first_has x [] = (x ∷ [], [], refl, omega arith)
into_first_has x (line ∷ lines) = (x ∷ line, lines, refl, omega arith)

-- a text that has an octet has a line
pub some_line : (xs : List ℕ) → 0 < length xs → (line : List ℕ) × (more : List (List ℕ)) × (lines_of xs ≡ line ∷ more)
some_line [] h = absurd (omega arith)
some_line (x ∷ xs) h = elim (cases_Bool (eqb x 10)) [
  | inl e ↦ ([], lines_of xs, rw e refl)
  | inr e ↦ let first = into_first_has x (lines_of xs) in (first.0, first.1, rw e (first.2))
]

-- the first line is as long as any front of it
pub long_line : (xs rest : List ℕ) → 0 < length xs → IsLine xs
    → (line : List ℕ) × (more : List (List ℕ)) × (lines_of (xs ++ rest) ≡ line ∷ more) × (length xs ≤ length line)
long_line [] rest h k = absurd (omega arith)
long_line (x ∷ []) rest h k = let first = into_first_has x (lines_of rest) in (first.0, first.1, rw (ne_eqb x 10 k.0) (first.2), first.3)
long_line (x ∷ y ∷ ys) rest h k =
    let others = long_line (y ∷ ys) rest (omega arith) k.1 in
    let longer : length (y ∷ ys) ≤ length others.0 = others.3 in
    (x ∷ others.0, others.1, rw (ne_eqb x 10 k.0) (ap (into_first x) others.2), omega (arith, longer))
