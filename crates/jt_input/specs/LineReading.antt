-- What a reader of lines holds, and what its calls tell. To be believed.
use Rattle.std.specs.Prelude.{◌≡◌, ℕ, ◌+◌, false, List, [], ◌∷◌, ◌++◌, length, IsTrue, Option}
use Rattle.std.specs.Io.KnownBytes.{Consumes, IsAtEnd}
use Rattle.jt_input.specs.Text.{Cuts, lines_of, is_within}
use Rattle.jt_input.specs.Cutter.{Held, begun_of}
use Rattle.jt_input.specs.declared.line_reader.NextLine.{NextLine}
use Rattle.jt_input.specs.declared.line_reader.NextLine.TheVariants as next

-- what its cutter holds, and the octets that were read and not cut yet
pub record Reading : Type 0 where
  pub held : Held
  pub ahead : List ℕ

-- this text was read of the source, and these lines of it were told, each once and in order; the rest of it is ahead
pub record HasTold (reading : Reading) (text : List ℕ) (lines : List (List ℕ)) : Type 0 where
  pub front : List ℕ
  pub whole : text ≡ front ++ reading.ahead
  pub cuts : Cuts front lines (begun_of reading.held)
  pub number : reading.held.number ≡ length lines

-- whatever follows this text: behind these lines stands one that is beyond the limits
abbrev pub IsBeyond : List ℕ → List (List ℕ) → Type 0
IsBeyond text lines = (rest : List ℕ) → (line : List ℕ) × (more : List (List ℕ))
    × (lines_of (text ++ rest) ≡ lines ++ line ∷ more) × (is_within (length lines + 1) line ≡ false)

-- What a call answers, where the text read is now this: a line, which is within the limits; the last line, which lacks its line
-- feed; that no line is left; that the next one, of this number, is beyond the limits; or that a read failed.
abbrev pub TellsLine : NextLine → Reading → List ℕ → Option (List ℕ) → List (List ℕ) → Type 0
TellsLine next.Line now text left lines = HasTold now text (lines ++ now.held.line ∷ []) × IsTrue (is_within (length lines + 1) now.held.line)
TellsLine next.Last now text left lines = (lines_of text ≡ lines ++ now.held.line ∷ []) × IsTrue (is_within (length lines + 1) now.held.line) × IsAtEnd left
TellsLine next.End now text left lines = (lines_of text ≡ lines) × IsAtEnd left
TellsLine (next.Bad number) now text left lines = (number ≡ length lines + 1) × IsBeyond text lines
TellsLine next.Failed now text left lines = HasTold now text lines

-- a call reads on, and answers
pub record Goes (answer : NextLine) (now : Reading) (left left_now : Option (List ℕ)) (text : List ℕ) (lines : List (List ℕ)) : Type 0 where
  pub more : List ℕ
  pub consumed : Consumes left left_now more
  pub tells : TellsLine answer now (text ++ more) left_now lines
