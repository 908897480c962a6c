-- What a cutter of lines holds, and what its calls tell. To be believed.
use Rattle.std.specs.Prelude.{◌≡◌, ℕ, ◌<◌, ◌+◌, ◌-◌, ◌*◌, Bool, true, false, IsTrue, List, [], ◌∷◌, ◌++◌, length}
use Rattle.jt_input.specs.declared.line_cutter.TheConstants.{LINES_LIMIT, LINE_LIMIT}
use Rattle.jt_input.specs.Text.{Cuts, lines_of, is_within}
use Rattle.jt_input.specs.declared.line_cutter.Cut.{Cut}
use Rattle.jt_input.specs.declared.line_cutter.Cut.TheVariants as cut

-- the octets of the line that came last, whether its line feed came, and how many line feeds came
pub record Held : Type 0 where
  pub line : List ℕ
  pub whole : Bool
  pub number : ℕ

abbrev pub begun_line : Bool → List ℕ → List ℕ
begun_line true line = []
begun_line false line = line

-- what there is of a line that is not ended
abbrev pub begun_of : Held → List ℕ
begun_of held = begun_line held.whole held.line

-- what there is of a line that is not ended is within the limits so far
abbrev pub IsBegun : Held → Type 0
IsBegun held = 0 < length (begun_of held) → IsTrue (is_within (held.number + 1) (begun_of held))

-- These octets were taken: whatever text the cutter stood for, it now stands for that text and then the octets, and to the
-- lines of that text these were added.
pub record CutsOctets (old new : Held) (octets : List ℕ) (gained : List (List ℕ)) : Type 0 where
  pub cuts : (text : List ℕ) (lines : List (List ℕ)) → Cuts text lines (begun_of old)
      → Cuts (text ++ octets) (lines ++ gained) (begun_of new)
  pub number : new.number ≡ old.number + length gained

-- the lines that an answer tells of the cutter that the call left
abbrev pub cut_lines : Cut → Held → List (List ℕ)
cut_lines cut.More held = []
cut_lines cut.Line held = held.line ∷ []
cut_lines cut.Bad held = []

-- Whatever text the cutter stands for, and whatever follows it and these octets: the line behind those that were told is
-- beyond the limits.
abbrev pub IsBeyond : Held → List ℕ → Type 0
IsBeyond held octets = (text rest : List ℕ) (lines : List (List ℕ)) → Cuts text lines (begun_of held)
    → (line : List ℕ) × (more : List (List ℕ))
    × (lines_of ((text ++ octets) ++ rest) ≡ lines ++ line ∷ more) × (is_within (held.number + 1) line ≡ false)

-- at most so many octets may come before a line is beyond the limits
abbrev pub room_of : Held → ℕ
room_of held = (LINES_LIMIT - held.number) * (LINE_LIMIT + 1) + (LINE_LIMIT - length (begun_of held))
