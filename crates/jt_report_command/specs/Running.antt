-- What a run of `report` does, and what came of it. To be believed.
use Rattle.std.specs.Prelude.{◌≡◌, ◌≢◌, ◌≤◌, ◌⊎◌, ℕ, false, List, [], Option}
use Rattle.std.specs.Io.KnownBytes.{Consumes, IsAtEnd}
use Rattle.jt_value.specs.Counts.{Rose, RoseBy}
use Rattle.jt_outside.specs.Pool.{Pool}
use Rattle.jt_outside.specs.Time.{Time}
use Rattle.jt_input.specs.Text.{lines_of}
use Rattle.jt_store.specs.Tables.{WhereKnown}
use Rattle.jt_store.specs.Vaults.{Held, pending_count}
use Rattle.jt_terminal_rule.specs.declared.state.State.{State}
use Rattle.jt_terminal_steps.specs.Running.{CountsAsVault}
use Rattle.jt_agent.specs.Tries.{Reports, between, dials_in, ends_in}
use Rattle.jt_agent.specs.declared.reporting.Outcome.{Outcome}
use Rattle.jt_report_command.specs.FixesText.{AreFirst, EndsAt, HaveFixes, IsBeyond, SaysAt, is_good}
use Rattle.jt_report_command.specs.Noting.{held_with, noted_all}
use Rattle.jt_report_command.specs.Reading.{EndsAtFix}
use Rattle.jt_input.specs.Answer.{AnswersReply, HoldsOf}
use Rattle.jt_input.specs.declared.status.Status.{Status}
use Rattle.jt_input.specs.declared.status.Status.TheVariants as status
use Rattle.jt_report_command.specs.Came.{Came, BadLine, BeyondLimits, VaultFull, VaultFailed, Undialled, Reported, report_text}

-- what is seen of the vault, the clock and the dial, before a run or after it
pub record Scene : Type 0 where
  pub held : Option Held
  pub limit : ℕ
  pub faults : ℕ
  pub time : Time
  pub pool : Pool
  pub dial : ℕ

abbrev pub scene_of : Option Held → ℕ → ℕ → Time → Pool → ℕ → Scene
scene_of held limit faults time pool dial =
    record { held = held; limit = limit; faults = faults; time = time; pool = pool; dial = dial }

-- these fixes were recorded behind what the vault held, and nothing was dialled, nor the clock asked
pub record NotesAlone (fixes : List (List ℕ)) (old now : Scene) : Type 0 where
  pub held : now.held ≡ held_with old.held fixes
  pub time : now.time ≡ old.time
  pub pool : now.pool ≡ old.pool
  pub dial : now.dial ≡ old.dial

-- A terminal that started so recorded these fixes. Then attempts came to this outcome, over the links that the dial gave, and each that ended for
-- want of a link has a rise of the dial's count of its own. The totals are those of the terminal that they left, and of the vault, where it tells
-- what it holds.
pub record ReportsFixes (Starts : State → Type 0) (tries : ℕ) (fixes : List (List ℕ)) (outcome : Outcome) (accepted recorded : ℕ) (old now : Scene) : Type 0 where
  pub started : State
  pub starts : Starts started
  pub faults : ℕ
  pub later : old.faults ≤ faults
  pub after : State
  pub reports : Reports tries outcome (between (noted_all started fixes) (held_with old.held fixes) faults old.time old.pool old.dial)
      (between after now.held now.faults now.time now.pool now.dial)
  pub dials : RoseBy (dials_in (ends_in outcome)) old.dial now.dial
  pub totals : (accepted ≡ after.accepted) × (recorded ≡ after.recorded)
  pub counts : WhereKnown now.held (λ held. CountsAsVault held after)

-- What was done with the octets that were taken. At a bad line, whatever octets follow, the fixes of the lines before it are recorded. So they are
-- at a full vault, of which as many fixes are not accepted as its limit says, and at a vault that failed, each at a line with one fix more; one that
-- failed to load did so before anything was taken. At another fault before any dial the fixes of some first lines are recorded, whatever octets
-- follow. Before attempts all lines are good, and the fixes of all are recorded.
abbrev pub Does : Came → (State → Type 0) → ℕ → List ℕ → Option (List ℕ) → Scene → Scene → Type 0
Does (BadLine number said) Starts tries taken left_now old now = (fixes : List (List ℕ)) × NotesAlone fixes old now
    × (is_good said ≡ false) × HoldsOf (EndsAt number (SaysAt number said) fixes) left_now taken
Does (BeyondLimits number) Starts tries taken left_now old now = (fixes : List (List ℕ)) × NotesAlone fixes old now
    × HoldsOf (EndsAt number (IsBeyond number) fixes) left_now taken
Does (VaultFull most) Starts tries taken left_now old now = (fixes : List (List ℕ)) × NotesAlone fixes old now
    × (most ≡ old.limit) × WhereKnown now.held (λ held. pending_count held ≡ old.limit) × EndsAtFix fixes left_now taken
Does VaultFailed Starts tries taken left_now old now = (fixes : List (List ℕ)) × NotesAlone fixes old now
    × (((taken ≡ []) × (fixes ≡ [])) ⊎ EndsAtFix fixes left_now taken) × Rose old.faults now.faults
Does Undialled Starts tries taken left_now old now = (fixes : List (List ℕ)) × NotesAlone fixes old now
    × HoldsOf (AreFirst fixes) left_now taken
Does (Reported outcome accepted recorded) Starts tries taken left_now old now = (fixes : List (List ℕ))
    × HaveFixes 1 (lines_of taken) fixes × IsAtEnd left_now × ReportsFixes Starts tries fixes outcome accepted recorded old now

-- A fault before any dial that is not the vault's is want of memory or a failed read. Nowhere else is the status that of a failed read.
abbrev pub EndsSo : Came → Status → Type 0
EndsSo (BadLine number said) s = s ≢ status.ReadFault
EndsSo (BeyondLimits number) s = s ≢ status.ReadFault
EndsSo (VaultFull limit) s = s ≢ status.ReadFault
EndsSo VaultFailed s = s ≢ status.ReadFault
EndsSo Undialled s = (s ≡ status.Memory) ⊎ (s ≡ status.ReadFault)
EndsSo (Reported outcome accepted recorded) s = s ≢ status.ReadFault

-- A run of `report`, with a terminal that starts so: octets of the source were taken, this came of it, and its text was written, or a prefix of it at a fault.
pub record RunsReport (Starts : State → Type 0) (tries : ℕ) (left left_now : Option (List ℕ)) (old now : Scene) (written written_now : Option (List ℕ)) (status : Status) : Type 0 where
  pub came : Came
  pub taken : List ℕ
  pub consumed : Consumes left left_now taken
  pub does : Does came Starts tries taken left_now old now
  pub answers : AnswersReply status (report_text came) written written_now
  pub ends : EndsSo came status
