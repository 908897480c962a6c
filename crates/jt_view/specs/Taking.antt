-- How far the report of an input has come. A step function for the proofs.
use Rattle.std.specs.Prelude.{◌≡◌, ℕ, ◌≤◌, ◌<◌, List, ◌++◌, length, Option, Some, None}
use Rattle.jt_view.specs.declared.command.Encoding.{Encoding}
use Rattle.jt_view.specs.declared.command.Encoding.TheVariants.{Octets, Hex}
use Rattle.jt_view.specs.declared.reporter.Reporter.{Reporter}
use Rattle.jt_input.specs.declared.status.Status.{Status}
use Rattle.jt_view.specs.declared.reporter.Question.{Question}
use Rattle.jt_view.specs.HexInput as hex
use Rattle.jt_view.specs.Report.{stream_of_input, answer_of, printed}
use Rattle.jt_view.specs.Reporting.{CountsEntries, GoesOn}

-- the digits of an input were read up to here
abbrev pub IsRead : Encoding → Option ℕ → List ℕ → Type 0
IsRead Octets waiting seen = Unit {0}
IsRead Hex waiting seen = hex.StandsFor waiting seen

-- this front of the input was taken, and the report goes on
pub record Stands (reporter : Reporter) (seen : List ℕ) : Type 0 where
  pub taken : reporter.taken ≡ length seen
  pub read : IsRead reporter.command.encoding reporter.reader seen
  pub counts : CountsEntries reporter.tally (stream_of_input reporter.command.encoding seen)
  pub goes_on : GoesOn reporter.command.report (stream_of_input reporter.command.encoding seen)

-- what is printed of a front of the input before it closes
abbrev pub printed_of : Reporter → List ℕ → List ℕ
printed_of reporter seen = printed reporter.command.report (stream_of_input reporter.command.encoding seen)

-- what a reporter was asked
abbrev pub question : Reporter → Question
question reporter = record { command = reporter.command; most = reporter.most }

-- So asked, this front of the input was taken and this was printed of it, and the report goes on.
pub record StandsFor (reporter : Reporter) (asked : Question) (seen printed : List ℕ) : Type 0 where
  pub same : question reporter ≡ asked
  pub stands : Stands reporter seen
  pub within : length seen ≤ reporter.most
  pub text_is : printed ≡ printed_of reporter seen

-- a further piece was taken, this was printed of it, and the report goes on
pub record TakesOn (old new : Reporter) (piece text text_now : List ℕ) : Type 0 where
  pub added : List ℕ
  pub text_is : text_now ≡ text ++ added
  pub stands : (seen : List ℕ) → Stands old seen → Stands new (seen ++ piece)
  pub printed : (seen : List ℕ) → Stands old seen → printed_of new (seen ++ piece) ≡ printed_of old seen ++ added

-- A further piece settled the report, whatever follows, and all of the answer was printed.
pub record TakesLast (old : Reporter) (piece text text_now : List ℕ) (status : Status) : Type 0 where
  pub added : List ℕ
  pub text_is : text_now ≡ text ++ added
  pub answer : (seen : List ℕ) → Stands old seen → (most : ℕ) → length (seen ++ piece) ≤ most → (rest : List ℕ)
      → answer_of old.command most ((seen ++ piece) ++ rest) ≡ record { text = printed_of old seen ++ added; status = status }

abbrev pub TakesInput : Option Status → Reporter → Reporter → List ℕ → List ℕ → List ℕ → Type 0
TakesInput None old new piece text text_now = TakesOn old new piece text text_now
TakesInput (Some status) old new piece text text_now = TakesLast old piece text text_now status

-- the input goes on here, where no more may be read, and the rest of the answer was printed
pub record EndsTooLong (reporter : Reporter) (text text_now : List ℕ) (status : Status) : Type 0 where
  pub added : List ℕ
  pub text_is : text_now ≡ text ++ added
  pub answer : (seen : List ℕ) → Stands reporter seen → (beyond : List ℕ) → 0 < length beyond
      → answer_of reporter.command (length seen) (seen ++ beyond) ≡ record { text = printed_of reporter seen ++ added; status = status }
