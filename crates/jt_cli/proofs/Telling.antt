-- A task that tells of a stream, by what the report did.
use Rattle.std.proofs.Common.{◌≡◌, ◌⊎◌, ◌^◌, ℕ, List, Option, IfSome, sym, subst}
use Rattle.std.specs.Io.KnownBytes.{Appends, IsAtEnd}
use Rattle.jt_input.specs.Answer.{IsFault, Runs, ReadsNoFurther, PrintsTaken, StopsAtWrite}
use Rattle.jt_input.specs.declared.status.Status.{Status}
use Rattle.jt_input.specs.declared.status.Status.TheVariants as status
use Rattle.jt_view.specs.Answer.{IsOpen}
use Rattle.jt_view.specs.Report.{answer_of}
use Rattle.jt_view.specs.declared.command.Command.{Command}
use Rattle.jt_cli.specs.Acting.{Acts}
use Rattle.jt_cli.specs.declared.task.Task.{Task}
use Rattle.jt_cli.specs.declared.task.Task.TheVariants.{Tell}
use Rattle.jt_cli.proofs.StatusesOfRuns.{of_answers, of_command}

pub tells : (task : Task) (command : Command) (left left_now old now : Option (List ℕ)) (s : Status) → task ≡ Tell command
    → Runs (answer_of command (2 ^ 40)) left left_now old now s
    → IfSome left (λ octets. IsFault s ⊎ ((s ≡ (answer_of command (2 ^ 40) octets).status) × Appends old now (answer_of command (2 ^ 40) octets).text))
    → ReadsNoFurther (IsOpen command (2 ^ 40)) (2 ^ 14) left left_now
    → (s ≡ status.ReadFault → PrintsTaken (IsOpen command (2 ^ 40)) left left_now old now)
    → (s ≡ status.WriteFault → StopsAtWrite (answer_of command (2 ^ 40)) (IsOpen command (2 ^ 40)) (2 ^ 14) left left_now old now)
    → (s ≡ status.Done → IsAtEnd left_now) → Acts task left left_now old now s
tells task command left left_now old now s is runs whole no_further prints stops end =
    subst (λ (t : Task). Acts t left left_now old now s) (sym is) (record {
      runs = runs;
      whole = whole;
      no_further = no_further;
      prints_taken = prints;
      stops_at_write = stops;
      to_the_end = end;
      alone = of_answers s _ old now (of_command command _ runs.taken) runs.answers;
    })
