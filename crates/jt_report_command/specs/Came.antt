-- What comes of `report`, what it prints of that, and its status: this project's own texts. To be believed.
use Rattle.std.specs.Prelude.{ℕ, []}
use Rattle.jt_agent.specs.declared.reporting.Outcome.{Outcome}
use Rattle.jt_report_command.specs.BadLines.{bad_line_of}
use Rattle.jt_report_command.specs.declared.line.FixLine.{FixLine}
use Rattle.jt_input.specs.EarlyEnds.{early_reply}
use Rattle.jt_input.specs.declared.early_end.EarlyEnd.TheVariants as early
use Rattle.jt_input.specs.Reply.{Reply}
use Rattle.jt_input.specs.declared.status.Status.TheVariants as status
use Rattle.jt_report_command.specs.Report.{outcome_reply}

-- a bad line of the source, by its number and what it says, or beyond the limits; a full vault, by its limit; a vault that failed before any
-- dial; another fault before any dial (of a failed read the status is ReadFault); or attempts, by what they came to and how many fixes are then accepted and recorded
pub data Came : Type 0 where
  BadLine : ℕ → FixLine → Came
  BeyondLimits : ℕ → Came
  VaultFull : ℕ → Came
  VaultFailed : Came
  Undialled : Came
  Reported : Outcome → ℕ → ℕ → Came

unfoldable pub report_text : Came → Reply
report_text (BadLine number said) = record { text = bad_line_of number said; status = status.Refused }
report_text (BeyondLimits number) = early_reply (early.BadLine number)
report_text (VaultFull limit) = early_reply (early.VaultFull limit)
report_text VaultFailed = early_reply early.StoreFault
report_text Undialled = record { text = []; status = status.Memory }
report_text (Reported outcome accepted recorded) = outcome_reply outcome accepted recorded
