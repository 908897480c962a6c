-- What a task does to the octets of its source and its sink. To be believed.
use Rattle.std.specs.Prelude.{◌≡◌, ◌≢◌, ◌⊎◌, ℕ, ◌^◌, List, Option, IfSome}
use Rattle.std.specs.Io.KnownBytes.{Appends, IsAtEnd}
use Rattle.jt_value.specs.declared.limits.TheConstants.{FIX_LIMIT, INPUT_LIMIT}
use Rattle.jt_fence_command.specs.Running.{Watches}
use Rattle.jt_gateway_command.specs.Running.{RunsGateway}
use Rattle.jt_order_command.specs.Running.{RunsOrders}
use Rattle.jt_world.specs.Claim.{KeptWhole}
use Rattle.jt_world.specs.Made.{made, made_reply}
use Rattle.jt_world.specs.Rehearsal.{FullAt, rehearsal, script_reply, world_of}
use Rattle.jt_world.specs.Rehearsing.{IsHeard}
use Rattle.jt_input.specs.Answer.{AnswersReply, IsFault, Runs, ReadsNoFurther, PrintsTaken, StopsAtWrite}
use Rattle.jt_view.specs.Answer.{IsOpen}
use Rattle.jt_view.specs.Report.{answer_of}
use Rattle.jt_cli.specs.Script.{RunsScript}
use Rattle.jt_cli.specs.Statuses.{IsAlone, IsWithoutLinks}
use Rattle.jt_view.specs.declared.command.Command.{Command}
use Rattle.jt_cli.specs.declared.task.Task.{Task}
use Rattle.jt_cli.specs.declared.task.Task.TheVariants.{Tell, Rehearse, Make, Fence, Gateway, Orders}
use Rattle.jt_input.specs.declared.status.Status.{Status}
use Rattle.jt_input.specs.declared.status.Status.TheVariants.{Done, ReadFault, WriteFault, StoreFault}

-- `view` and `check`: the octets that were taken, what was written of the answer to them, and that
-- it is the answer to the whole source, whatever else the source has
pub record TellsOf (command : Command) (left left_now old now : Option (List ℕ)) (status : Status)
    : Type 0 where
  pub runs : Runs (answer_of command INPUT_LIMIT) left left_now old now status
  -- so, where the source tells its octets, and no fault came
  pub whole : IfSome left (λ octets. IsFault status
      ⊎ ((status ≡ (answer_of command INPUT_LIMIT octets).status)
      × Appends old now (answer_of command INPUT_LIMIT octets).text))
  -- the source is read no further than the piece of at most 2^14 octets that settles the report
  pub no_further : ReadsNoFurther (IsOpen command INPUT_LIMIT) (2 ^ 14) left left_now
  -- what is printed of a piece is written before the next is read, so it is there also where that
  -- read fails
  pub prints_taken : status ≡ ReadFault
      → PrintsTaken (IsOpen command INPUT_LIMIT) left left_now old now
  -- a write that failed ends the run
  pub stops_at_write : status ≡ WriteFault
      → StopsAtWrite (answer_of command INPUT_LIMIT) (IsOpen command INPUT_LIMIT) (2 ^ 14)
      left left_now old now
  pub to_the_end : status ≡ Done → IsAtEnd left_now
  pub alone : IsAlone status

-- `rehearse`: the same of a script, and that the claim of delivery holds of its world
pub record Plays (left left_now old now : Option (List ℕ)) (status : Status) : Type 0 where
  pub runs : RunsScript left left_now old now status
  pub whole : IfSome left (λ script. IsFault status
      ⊎ ((status ≡ (script_reply script).status)
      × Appends old now (script_reply script).text × KeptWhole (world_of script)))
  -- the script is read no further than the piece of at most 2^14 octets that has the line which
  -- ends it
  pub no_further : ReadsNoFurther IsHeard (2 ^ 14) left left_now
  pub prints_taken : status ≡ ReadFault → PrintsTaken IsHeard left left_now old now
  pub stops_at_write : status ≡ WriteFault
      → StopsAtWrite script_reply IsHeard (2 ^ 14) left left_now old now
  pub to_the_end : status ≡ Done → IsAtEnd left_now
  -- the vault was full
  pub store_fault : status ≡ StoreFault → (rehearsal runs.runs.taken).end ≡ FullAt FIX_LIMIT
  pub without_links : IsWithoutLinks status

-- `make`: nothing is read, the last line alone of what is printed of the script of so many fixes is
-- written, and the claim of delivery holds of its world
pub record MakesScript (count : ℕ) (left left_now old now : Option (List ℕ)) (status : Status)
    : Type 0 where
  pub reads_nothing : left_now ≡ left
  pub answers : AnswersReply status (made_reply count) old now
  pub kept : IsFault status ⊎ KeptWhole (made count).play.world
  pub store_fault : status ≡ StoreFault → (made count).end ≡ FullAt FIX_LIMIT
  pub not_read_fault : status ≢ ReadFault
  pub without_links : IsWithoutLinks status

-- what each task does
abbrev pub Acts : Task → Option (List ℕ) → Option (List ℕ) → Option (List ℕ) → Option (List ℕ)
    → Status → Type 0
Acts (Tell command) left left_now old now status = TellsOf command left left_now old now status
Acts Rehearse left left_now old now status = Plays left left_now old now status
Acts (Make count) left left_now old now status = MakesScript count left left_now old now status
Acts Fence left left_now old now status = Watches left left_now old now status
Acts Gateway left left_now old now status = RunsGateway left left_now old now status
Acts Orders left left_now old now status = RunsOrders left left_now old now status
