-- What the parts of a run do. Step functions for the proofs, but for `VaultKeeps`, which is to be believed.
use Rattle.std.specs.Prelude.{◌≡◌, ◌≤◌, ℕ, Bool, false, List, Option}
use Rattle.jt_value.specs.Counts.{RoseBy}
use Rattle.jt_agent.specs.Tries.{Between, Reports, dials_in, ends_in}
use Rattle.jt_agent.specs.declared.reporting.Outcome.{Outcome}
use Rattle.jt_report_command.specs.declared.noting.FixesError.{FixesError}
use Rattle.jt_report_command.specs.declared.noting.FixesError.TheVariants as error
use Rattle.jt_input.specs.Answer.{AnswersReply}
use Rattle.jt_input.specs.declared.status.Status.{Status}
use Rattle.jt_input.specs.declared.status.Status.TheVariants as status
use Rattle.jt_store.specs.Tables.{WhereKnown}
use Rattle.jt_store.specs.declared.error.StoreError.{StoreError}
use Rattle.jt_store.specs.declared.error.StoreError.TheVariants as store
use Rattle.jt_terminal_steps.specs.Running.{CountsAsVault}
use Rattle.jt_report_command.specs.Came.{Came, BadLine, BeyondLimits, VaultFull, VaultFailed, Undialled, Reported, report_text}

-- what came of a run whose fixes were not all recorded, for this reason
abbrev pub came_of : FixesError → Came
came_of (error.BadLine number said) = BadLine number said
came_of (error.BeyondLimits number) = BeyondLimits number
came_of (error.VaultFull limit) = VaultFull limit
came_of error.VaultFailed = VaultFailed
came_of error.ReadFailed = Undialled
came_of error.Memory = Undialled

-- the status of such a run, where its text was written
abbrev pub status_at : FixesError → Status
status_at (error.BadLine number said) = status.Refused
status_at (error.BeyondLimits number) = status.Refused
status_at (error.VaultFull limit) = status.StoreFault
status_at error.VaultFailed = status.StoreFault
status_at error.ReadFailed = status.ReadFault
status_at error.Memory = status.Memory

-- the same of a vault that did not load; Full never comes then
abbrev pub came_at : StoreError → Came
came_at store.Failed = VaultFailed
came_at store.Memory = Undialled
came_at (store.Full limit) = Undialled

abbrev pub status_of_refusal : StoreError → Status
status_of_refusal store.Failed = status.StoreFault
status_of_refusal store.Memory = status.Memory
status_of_refusal (store.Full limit) = status.Memory

-- attempts came to this, and its text was written, or a prefix of it at a fault
pub record TellsAttempts (tries : ℕ) (old now : Between) (written written_now : Option (List ℕ)) (status : Status) : Type 0 where
  pub outcome : Outcome
  pub reports : Reports tries outcome old now
  pub dials : RoseBy (dials_in (ends_in outcome)) old.dial now.dial
  pub counts : WhereKnown now.held (λ held. CountsAsVault held now.state)
  pub answers : AnswersReply status (report_text (Reported outcome now.state.accepted now.state.recorded)) written written_now

-- What is said of a vault beside what it holds: its limit stays, its count of faults never falls, and where none of its calls may fail none may
-- later.
pub record VaultKeeps (faults faults_now most most_now : ℕ) (may may_now : Bool) : Type 0 where
  pub limit : most_now ≡ most
  pub later : faults ≤ faults_now
  pub steady : may ≡ false → may_now ≡ false
