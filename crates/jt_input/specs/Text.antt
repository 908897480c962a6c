-- The lines of a text input, and their limits: this project's own rules. To be believed.
use Rattle.std.specs.Prelude.{◌≡◌, ◌≢◌, ℕ, ◌==◌, nat_le, if◌then◌else◌, Bool, ◌&&◌, List, [], ◌∷◌, ◌++◌, length}
use Rattle.std.specs.List.{flat_map}
use Rattle.jt_input.specs.declared.line_cutter.TheConstants.{LINES_LIMIT, LINE_LIMIT}

-- this octet is not among those
abbrev pub Lacks : ℕ → List ℕ → Type 0
Lacks octet [] = Unit {0}
Lacks octet (other ∷ more) = (other ≢ octet) × Lacks octet more

-- Only a line feed ends a line. A carriage return is part of its line.
abbrev pub IsLine : List ℕ → Type 0
IsLine line = Lacks 0x0A line

abbrev pub AreLines : List (List ℕ) → Type 0
AreLines [] = Unit {0}
AreLines (line ∷ lines) = IsLine line × AreLines lines

-- a line and the line feed behind it
abbrev pub with_line_feed : List ℕ → List ℕ
with_line_feed line = line ++ 0x0A ∷ []

-- the text is these lines, each with its line feed, and what there is of one line more
pub record Cuts (text : List ℕ) (lines : List (List ℕ)) (begun : List ℕ) : Type 0 where
  pub whole : text ≡ flat_map with_line_feed lines ++ begun
  pub each : AreLines lines
  pub unfinished : IsLine begun

-- the octet stands before the others of its line
abbrev pub into_first : ℕ → List (List ℕ) → List (List ℕ)
into_first octet [] = (octet ∷ []) ∷ []
into_first octet (line ∷ lines) = (octet ∷ line) ∷ lines

-- The lines of a text. The last may lack its line feed: it is a public law that a text that is cut so has the lines of the
-- cut, and then the unfinished one if it has an octet.
abbrev pub lines_of : List ℕ → List (List ℕ)
lines_of [] = []
lines_of (octet ∷ more) = if octet == 0x0A then [] ∷ lines_of more else into_first octet (lines_of more)

-- A line of this number, from 1, is within the limits: it is one of the first 10,000,000, and has at most 4,096 octets.
abbrev pub is_within : ℕ → List ℕ → Bool
is_within number line = nat_le number LINES_LIMIT && nat_le (length line) LINE_LIMIT
