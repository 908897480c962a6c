-- What listening over a fleet does. A step function for the proofs.
use Rattle.std.specs.Prelude.{ℕ, List, Option}
use Rattle.jt_platform.specs.Allowed.{Opening}
use Rattle.jt_platform.specs.declared.request.Entry.{Entry}
use Rattle.jt_input.specs.Answer.{AnswersReply}
use Rattle.jt_input.specs.declared.status.Status.{Status}
use Rattle.jt_session.specs.declared.report.Report.{Report}
use Rattle.jt_platform_command.specs.Platform.{Came, platform_text}
use Rattle.jt_platform_command.specs.Running.{Scene, Listens, EndsSo}

-- this came of listening over this opening, and its text was written, or a prefix of it at a fault
pub record Opens (O : Type 0) (o : Opening) (sessions : ℕ) (old now : Scene) (written written_now : Option (List ℕ)) (reports : List Report) (history : List Entry) (status : Status) : Type 0 where
  pub came : Came
  pub does : Listens O came o sessions old now reports history
  pub answers : AnswersReply status (platform_text came) written written_now
  pub ends : EndsSo came status
