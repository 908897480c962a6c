-- What a report leaves open. To be believed.
use Rattle.std.specs.Prelude.{◌≡◌, ℕ, ◌≤◌, List, length, None}
use Rattle.jt_view.specs.Entry.{entries_of, first_refusal}
use Rattle.jt_view.specs.Report.{stream_of_input, wrong_place, printed}
use Rattle.jt_view.specs.declared.command.Command.{Command}
use Rattle.jt_view.specs.declared.command.Report.TheVariants.{Check}

-- Where a front of the input leaves the report open: no more octets than may be read, none of them wrong, and in a check
-- no refusal. This is all that is printed of it before the input closes.
pub record IsOpen (command : Command) (most : ℕ) (front text : List ℕ) : Type 0 where
  pub within : length front ≤ most
  pub right : wrong_place command.encoding front ≡ None
  pub clean : command.report ≡ Check → first_refusal (entries_of (stream_of_input command.encoding front)) ≡ None
  pub text_is : text ≡ printed command.report (stream_of_input command.encoding front)
