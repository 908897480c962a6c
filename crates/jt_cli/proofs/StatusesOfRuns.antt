-- Runs of words that need no links and no stores have none of their statuses.
use Rattle.std.proofs.Common.{◌==◌, ℕ, List, Bool, true, false, if◌then◌else◌, Option, Some, None, sym, subst, inl, inr}
use Rattle.jt_value.specs.declared.refusal.Refusal.{Refusal}
use Rattle.jt_view.specs.Entry.{Entry, first_refusal, refusals}
use Rattle.jt_view.specs.Report.{answer_of, check_after, check_text, report_text, status_of, view_text}
use Rattle.jt_view.specs.declared.closing.Closing.{Closing}
use Rattle.jt_view.specs.declared.closing.Closing.TheVariants.{Whole, TooLong, HexRefused}
use Rattle.jt_view.specs.declared.command.Command.{Command}
use Rattle.jt_view.specs.declared.command.Report.{Report}
use Rattle.jt_view.specs.declared.command.Report.TheVariants.{View, Check}
use Rattle.jt_input.specs.Answer.{AnswersReply, IsFault}
use Rattle.jt_input.specs.Reply.{Reply}
use Rattle.jt_input.specs.declared.status.Status.{Status}
use Rattle.jt_input.specs.declared.status.Status.TheVariants as status
use Rattle.jt_cli.specs.Statuses.{IsAlone}

chosen : (b : Bool) → IsAlone (if b then status.Done else status.Refused)
chosen true = tt
chosen false = tt

of_closing : (closing : Closing) (entries : List Entry) → IsAlone (status_of closing entries)
of_closing Whole entries = chosen (refusals entries == 0)
of_closing TooLong entries = tt
of_closing (HexRefused place) entries = tt

of_check : (refusal : Option Refusal) (closing : Closing) (entries : List Entry) → IsAlone (check_after refusal closing entries).status
of_check (Some refusal) closing entries = tt
of_check None closing entries = of_closing closing entries

of_report : (report : Report) (closing : Closing) (entries : List Entry) → IsAlone (report_text report closing entries).status
unfolding view_text check_text
of_report View closing entries = of_closing closing entries
of_report Check closing entries = of_check (first_refusal entries) closing entries

pub of_command : (command : Command) (most : ℕ) (octets : List ℕ) → IsAlone (answer_of command most octets).status
unfolding answer_of
of_command command most octets = of_report command.report _ _

pub of_fault : (s : Status) → IsFault s → IsAlone s
of_fault status.Done f = absurd f
of_fault status.Refused f = absurd f
of_fault status.Usage f = absurd f
of_fault status.ReadFault f = tt
of_fault status.WriteFault f = tt
of_fault status.StoreFault f = absurd f
of_fault status.NetFault f = absurd f
of_fault status.Unsent f = absurd f
of_fault status.Memory f = tt

pub of_answers : (s : Status) (reply : Reply) (old now : Option (List ℕ)) → IsAlone reply.status → AnswersReply s reply old now → IsAlone s
of_answers s reply old now alone (inl told) = subst IsAlone (sym told.0) alone
of_answers s reply old now alone (inr part) = of_fault s part.0
