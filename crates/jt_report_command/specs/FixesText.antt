-- The fixes of the lines of a text, and the line at which they end: this project's own. To be believed.
use Rattle.std.specs.Prelude.{◌≡◌, ℕ, ◌+◌, Bool, true, false, IsTrue, List, [], ◌∷◌, ◌++◌, length}
use Rattle.jt_input.specs.Text.{lines_of, is_within}
use Rattle.jt_report_command.specs.FixLines.{Says}
use Rattle.jt_report_command.specs.declared.line.FixLine.{FixLine}
use Rattle.jt_report_command.specs.declared.line.FixLine.TheVariants.{Passed, Fix, BadHex, Long, Refused}

-- the fix of a line that says one
abbrev pub fixes_in : FixLine → List (List ℕ)
fixes_in Passed = []
fixes_in (Fix fix) = fix ∷ []
fixes_in BadHex = []
fixes_in Long = []
fixes_in (Refused refusal) = []

-- a good line is passed over, or says a fix
abbrev pub is_good : FixLine → Bool
is_good Passed = true
is_good (Fix fix) = true
is_good BadHex = false
is_good Long = false
is_good (Refused refusal) = false

-- the line of this number is within the limits, and says this
pub record SaysAt (number : ℕ) (said : FixLine) (line : List ℕ) : Type 0 where
  pub within : IsTrue (is_within number line)
  pub says : Says line said

-- the line of this number is beyond the limits
abbrev pub IsBeyond : ℕ → List ℕ → Type 0
IsBeyond number line = is_within number line ≡ false

-- All of these lines are good, the first of which has this number, and these are their fixes, in order.
abbrev pub HaveFixes : ℕ → List (List ℕ) → List (List ℕ) → Type 0
HaveFixes number [] fixes = fixes ≡ []
HaveFixes number (line ∷ lines) fixes = (said : FixLine) × (rest : List (List ℕ)) × SaysAt number said line × (is_good said ≡ true)
    × HaveFixes (number + 1) lines rest × (fixes ≡ fixes_in said ++ rest)

-- The lines of a text before the one of this number are good, and these are their fixes; of that line this holds.
pub record EndsAt (number : ℕ) (Holds : List ℕ → Type 0) (fixes : List (List ℕ)) (text : List ℕ) : Type 0 where
  pub before : List (List ℕ)
  pub line : List ℕ
  pub behind : List (List ℕ)
  pub lines : lines_of text ≡ before ++ line ∷ behind
  pub good : HaveFixes 1 before fixes
  pub count : number ≡ length before + 1
  pub holds : Holds line

-- some first lines of a text, perhaps none and perhaps all, are good, and these are their fixes
pub record AreFirst (fixes : List (List ℕ)) (text : List ℕ) : Type 0 where
  pub before : List (List ℕ)
  pub behind : List (List ℕ)
  pub lines : lines_of text ≡ before ++ behind
  pub good : HaveFixes 1 before fixes
