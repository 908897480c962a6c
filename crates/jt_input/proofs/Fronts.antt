-- The lines of a text of which some were told, and of what follows it.
use Rattle.std.proofs.Math.Dec.{leb}
use Rattle.std.proofs.lemmas.Bool.{leb-true}
use Rattle.std.proofs.Common.{◌≤◌, ◌&&◌, ◌≡◌, ◌++◌, ℕ, Bool, true, false, List, length, IsTrue, refl, ap, ◌∙◌, append_assoc}
use Rattle.jt_input.specs.Text.{Cuts, lines_of, is_within}
use Rattle.jt_input.specs.Cutter.{begun_of}
use Rattle.jt_input.specs.LineReading.{Reading, HasTold}

-- the lines of a text that was cut, and of what follows it
abbrev pub FrontLaw : Type 0
FrontLaw = (text rest begun : List ℕ) (lines : List (List ℕ)) → Cuts text lines begun → lines_of (text ++ rest) ≡ lines ++ lines_of (begun ++ rest)

-- the lines of a text of which these were told, and of what follows it
pub lines_on : FrontLaw → (reading : Reading) (text : List ℕ) (lines : List (List ℕ)) → HasTold reading text lines → (rest : List ℕ)
    → lines_of (text ++ rest) ≡ lines ++ lines_of (begun_of reading.held ++ (reading.ahead ++ rest))
lines_on law reading text lines told rest =
    ap (λ (t : List ℕ). lines_of (t ++ rest)) told.whole ∙ ap lines_of (append_assoc told.front reading.ahead rest)
    ∙ law told.front (reading.ahead ++ rest) (begun_of reading.held) lines told.cuts

first_holds : (a b : Bool) → (a && b) ≡ true → a ≡ true
first_holds true b h = refl
first_holds false b h = h

-- a line within the limits is one of the first ten million
pub few_lines : (number : ℕ) (line : List ℕ) → IsTrue (is_within number line) → number ≤ 10000000
few_lines number line within = leb-true number 10000000 (first_holds (leb number 10000000) (leb (length line) 4096) within)
