-- What the parts of a call do. Step functions for the proofs.
use Rattle.std.specs.Prelude.{◌≡◌, ◌≤◌, ◌<◌, ℕ, ◌+◌, List, [], ◌∷◌, ◌++◌, length, Option, IsTrue}
use Rattle.std.specs.Io.KnownBytes.{Consumes, Keeps, IsAtEnd}
use Rattle.jt_outside.specs.declared.source.Got.{Got}
use Rattle.jt_outside.specs.declared.source.Got.TheVariants.{Bytes, End, Failed}
use Rattle.jt_input.specs.Text.{is_within, lines_of, Cuts}
use Rattle.jt_input.specs.Cutter.{CutsOctets, IsBeyond, begun_of, room_of, cut_lines}
use Rattle.jt_input.specs.declared.line_cutter.Cut.{Cut}
use Rattle.jt_input.specs.declared.line_cutter.Cut.TheVariants as cut
use Rattle.jt_input.specs.declared.line_reader.NextLine.{NextLine}
use Rattle.jt_input.specs.declared.line_reader.NextLine.TheVariants as next
use Rattle.jt_input.specs.LineReading.{Reading, HasTold}

-- the cutter took these octets of what is ahead
pub record CutsOn (answer : Cut) (old now : Reading) : Type 0 where
  pub octets : List ℕ
  pub split : old.ahead ≡ octets ++ now.ahead
  pub takes : CutsOctets old.held now.held octets (cut_lines answer now.held)
  pub more : answer ≡ cut.More → now.ahead ≡ []
  pub room : room_of now.held + length octets ≤ room_of old.held
  pub line : answer ≡ cut.Line → IsTrue (is_within now.held.number now.held.line)
  pub bad : answer ≡ cut.Bad → IsBeyond old.held old.ahead

-- what a read put ahead
abbrev pub PutsAhead : Got → Reading → Option (List ℕ) → Option (List ℕ) → Type 0
PutsAhead (Bytes count) now left left_now = (0 < length now.ahead) × Consumes left left_now now.ahead
PutsAhead End now left left_now = (now.ahead ≡ []) × IsAtEnd left_now × Keeps left left_now
PutsAhead Failed now left left_now = (now.ahead ≡ []) × Keeps left left_now

-- what is left where the text ends
abbrev pub Ends : NextLine → Reading → Type 0
Ends next.Last reading = ((text : List ℕ) (lines : List (List ℕ)) → Cuts text lines (begun_of reading.held) → lines_of text ≡ lines ++ reading.held.line ∷ [])
    × IsTrue (is_within (reading.held.number + 1) reading.held.line)
Ends next.End reading = (text : List ℕ) (lines : List (List ℕ)) → Cuts text lines (begun_of reading.held) → lines_of text ≡ lines
Ends next.Line reading = ⊥
Ends (next.Bad number) reading = ⊥
Ends next.Failed reading = ⊥

-- a call that has read on so far, and told nothing
abbrev pub ReadsOn : Reading → Reading → Option (List ℕ) → Option (List ℕ) → Type 0
ReadsOn old now left left_now = (text : List ℕ) (lines : List (List ℕ)) → HasTold old text lines
    → (more : List ℕ) × Consumes left left_now more × HasTold now (text ++ more) lines
