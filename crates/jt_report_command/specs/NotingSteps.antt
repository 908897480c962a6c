-- What recording a line does, and how the lines go on. Step functions for the proofs.
use Rattle.std.specs.Prelude.{◌≡◌, ◌≤◌, ℕ, ◌+◌, Bool, true, false, List, length, Option, Result, Ok, Err, IsErrOf}
use Rattle.std.specs.Io.KnownBytes.{Consumes}
use Rattle.jt_value.specs.Counts.{Rose}
use Rattle.jt_input.specs.LineReading.{Reading, HasTold}
use Rattle.jt_store.specs.Tables.{WhereKnown}
use Rattle.jt_store.specs.Vaults.{pending_count}
use Rattle.jt_terminal_rule.specs.declared.state.State.{State}
use Rattle.jt_report_command.specs.FixLines.{Says}
use Rattle.jt_report_command.specs.declared.line.FixLine.{FixLine}
use Rattle.jt_report_command.specs.declared.line.FixLine.TheVariants.{Fix}
use Rattle.jt_report_command.specs.FixesText.{HaveFixes, fixes_in, is_good}
use Rattle.jt_report_command.specs.Noting.{Noting, with_fixes}
use Rattle.jt_report_command.specs.declared.noting.FixesError.{FixesError}
use Rattle.jt_report_command.specs.declared.noting.FixesError.TheVariants.{BadLine, BeyondLimits, VaultFull, VaultFailed, ReadFailed, Memory}

-- the line of this number was recorded, or why it was not
abbrev pub NotesLine : {T : Type 0} → Result T FixesError → ℕ → ℕ → List ℕ → Noting → Noting → Type 0
NotesLine (Ok done) limit number line old now =
    (said : FixLine) × Says line said × (is_good said ≡ true) × (now ≡ with_fixes old (fixes_in said))
NotesLine (Err (BadLine at said)) limit number line old now = (at ≡ number) × Says line said × (is_good said ≡ false) × (now ≡ old)
NotesLine (Err (BeyondLimits at)) limit number line old now = ⊥
NotesLine (Err (VaultFull most)) limit number line old now =
    (most ≡ limit) × WhereKnown now.held (λ h. pending_count h ≡ limit) × (fix : List ℕ) × Says line (Fix fix) × (now ≡ old)
NotesLine (Err VaultFailed) limit number line old now = (fix : List ℕ) × Says line (Fix fix) × (now ≡ old)
NotesLine (Err ReadFailed) limit number line old now = ⊥
NotesLine (Err Memory) limit number line old now = now ≡ old

-- What is said of a terminal and its vault beside the fixes: it has a line where it had one and is as late as it was; the vault's limit stays, its
-- count of faults never falls, rose where it failed and else stood still, and where none of its calls may fail none may later, and it did
-- not fail.
pub record Beside {T : Type 0} (old now : State) (faults faults_now most most_now : ℕ) (may may_now : Bool) (result : Result T FixesError) : Type 0 where
  pub phase : now.phase ≡ old.phase
  pub time : now.time ≡ old.time
  pub sent : now.sent ≡ old.sent
  pub limit : most_now ≡ most
  pub later : faults ≤ faults_now
  pub failed : IsErrOf result VaultFailed → Rose faults faults_now
  pub still : ¬ IsErrOf result VaultFailed → faults_now ≡ faults
  pub steady : may ≡ false → (may_now ≡ false) × (IsErrOf result VaultFailed → ⊥)

-- These lines were told and are good, their fixes were recorded, and this is the number of the next line.
pub record GoesOn (reading : Reading) (number : ℕ) (left left_now : Option (List ℕ)) (old now : Noting) : Type 0 where
  pub text : List ℕ
  pub lines : List (List ℕ)
  pub consumed : Consumes left left_now text
  pub told : HasTold reading text lines
  pub count : number ≡ length lines + 1
  pub fixes : List (List ℕ)
  pub good : HaveFixes 1 lines fixes
  pub recorded : now ≡ with_fixes old fixes
