-- What the recording of a source's fixes answers. To be believed.
use Rattle.std.specs.Prelude.{◌≡◌, ℕ, false, List, Option, Result, Ok, Err}
use Rattle.std.specs.Io.KnownBytes.{Consumes, IsAtEnd}
use Rattle.jt_input.specs.Answer.{HoldsOf}
use Rattle.jt_input.specs.Text.{lines_of}
use Rattle.jt_store.specs.Tables.{WhereKnown}
use Rattle.jt_store.specs.Vaults.{Held, pending_count}
use Rattle.jt_report_command.specs.declared.line.FixLine.TheVariants.{Fix}
use Rattle.jt_report_command.specs.FixesText.{EndsAt, AreFirst, HaveFixes, IsBeyond, SaysAt, is_good}
use Rattle.jt_report_command.specs.Noting.{Noting, with_fixes}
use Rattle.jt_report_command.specs.declared.noting.FixesError.{FixesError}
use Rattle.jt_report_command.specs.declared.noting.FixesError.TheVariants.{BadLine, BeyondLimits, VaultFull, VaultFailed, ReadFailed, Memory}

-- the line behind those of these fixes says one more, whatever octets follow
abbrev pub EndsAtFix : List (List ℕ) → Option (List ℕ) → List ℕ → Type 0
EndsAtFix fixes left taken = (number : ℕ) × (fix : List ℕ) × HoldsOf (EndsAt number (SaysAt number (Fix fix)) fixes) left taken

-- What the octets that were taken tell, where these fixes were recorded. Ok: all lines are good, and these are their fixes. A bad line: those
-- before it are good, and these are their fixes, whatever octets follow. A vault that is full or failed: the same of a line with a fix more; a full one
-- has this limit, and as many fixes are then not accepted. A failed read and want of memory: these are the fixes of first lines, whatever octets
-- follow.
abbrev pub AnswersFixes : {T : Type 0} → Result T FixesError → ℕ → Option Held → List (List ℕ) → Option (List ℕ) → List ℕ → Type 0
AnswersFixes (Ok all) limit held fixes left taken = HaveFixes 1 (lines_of taken) fixes × IsAtEnd left
AnswersFixes (Err (BadLine number said)) limit held fixes left taken =
    (is_good said ≡ false) × HoldsOf (EndsAt number (SaysAt number said) fixes) left taken
AnswersFixes (Err (BeyondLimits number)) limit held fixes left taken = HoldsOf (EndsAt number (IsBeyond number) fixes) left taken
AnswersFixes (Err (VaultFull most)) limit held fixes left taken =
    (most ≡ limit) × WhereKnown held (λ h. pending_count h ≡ limit) × EndsAtFix fixes left taken
AnswersFixes (Err VaultFailed) limit held fixes left taken = EndsAtFix fixes left taken
AnswersFixes (Err ReadFailed) limit held fixes left taken = HoldsOf (AreFirst fixes) left taken
AnswersFixes (Err Memory) limit held fixes left taken = HoldsOf (AreFirst fixes) left taken

-- Octets of the source were taken, fixes of their first lines were recorded in order, and the answer is that of these.
pub record NotesFixes {T : Type 0} (answer : Result T FixesError) (limit : ℕ) (left left_now : Option (List ℕ)) (old now : Noting) : Type 0 where
  pub taken : List ℕ
  pub consumed : Consumes left left_now taken
  pub fixes : List (List ℕ)
  pub recorded : now ≡ with_fixes old fixes
  pub answers : AnswersFixes answer limit now.held fixes left_now taken
