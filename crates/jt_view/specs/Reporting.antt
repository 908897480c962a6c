-- How far a report has come: what is counted and printed of a front of the input. A step function for the proofs.
use Rattle.std.specs.Prelude.{◌≡◌, ℕ, ◌+◌, List, ◌++◌, length, Bool, true, false, Option, Some, None, option_to_list, map}
use Rattle.jt_value.specs.declared.refusal.Refusal.{Refusal}
use Rattle.jt_escape.specs.Splitter as splitter
use Rattle.jt_escape.specs.Scan.{State}
use Rattle.jt_escape.specs.Splitter.{split_events_in_place}
use Rattle.jt_escape.specs.declared.splitter.Split.{Split}
use Rattle.jt_stream.specs.Item.{Item, Items, AreItemsOf, all_items}
use Rattle.jt_stream.specs.Stream.{Held}
use Rattle.jt_view.specs.declared.command.Report.{Report}
use Rattle.jt_view.specs.declared.command.Report.TheVariants.{View, Check}
use Rattle.jt_view.specs.Entry.{Entry, Frame, Refused, line_of, lines, entry_of, entries_of, frames, refusals, first_refusal}
use Rattle.jt_view.specs.declared.judged.Judged.{Judged}
use Rattle.jt_view.specs.declared.judged.Judged.TheVariants as judgement
use Rattle.jt_view.specs.declared.closing.Closing.{Closing}
use Rattle.jt_input.specs.declared.status.Status.{Status}
use Rattle.jt_text.specs.Refusals.{refusal_line}
use Rattle.jt_view.specs.Report.{printed, report_text, closed_entries}

-- a stream's reader, and how many frames and refusals it told
pub record Tally : Type 0 where
  pub stream : Held
  pub frames : ℕ
  pub refused : ℕ

-- these octets were taken, and their entries counted
pub record CountsEntries (tally : Tally) (octets : List ℕ) : Type 0 where
  pub continues : splitter.Continues tally.stream.splitter octets
  pub items : Items octets (all_items octets)
  pub place : tally.stream.splitter.place ≡ length octets
  pub frames : tally.frames ≡ frames (entries_of octets)
  pub refused : tally.refused ≡ refusals (entries_of octets)

-- this entry or none was counted
pub record IsCounted (old new : Tally) (entry : Option Entry) : Type 0 where
  pub stream : new.stream ≡ old.stream
  pub frames : new.frames ≡ old.frames + frames (option_to_list entry)
  pub refused : new.refused ≡ old.refused + refusals (option_to_list entry)

-- these octets were taken behind others, and brought this entry or none
pub record Brings (old new : Tally) (octets : List ℕ) (entry : Option Entry) : Type 0 where
  pub counts : (before : List ℕ) → CountsEntries old before → CountsEntries new (before ++ octets)
  pub entries : (before : List ℕ) → CountsEntries old before → entries_of (before ++ octets) ≡ entries_of before ++ option_to_list entry

-- an entry, as far as counting asks
abbrev pub judged : Option Entry → Judged
judged None = judgement.Nothing
judged (Some (Frame place header message body_len)) = judgement.Frame
judged (Some (Refused refusal)) = judgement.Refused refusal

-- what a splitter answered to these octets tells this entry or none
pub record IsTold (answer : Split) (state : State) (taken : List ℕ) (entry : Option Entry) : Type 0 where
  pub items : List Item
  pub each : AreItemsOf (split_events_in_place answer state taken) items
  pub entry_is : option_to_list entry ≡ map entry_of items

-- the judgement is that of the entry that the splitter told of these octets
pub record JudgesTold (answer : Split) (state : State) (taken : List ℕ) (judgement : Judged) : Type 0 where
  pub entry : Option Entry
  pub told : IsTold answer state taken entry
  pub judgement_is : judgement ≡ judged entry

-- the same, and the text grew by that entry's line
pub record ViewsTold (answer : Split) (state : State) (taken : List ℕ) (judgement : Judged) (text text_now : List ℕ) : Type 0 where
  pub entry : Option Entry
  pub told : IsTold answer state taken entry
  pub judgement_is : judgement ≡ judged entry
  pub text_is : text_now ≡ text ++ lines (option_to_list entry)

-- the text grew by the entry's line, and the judgement is the entry's
pub record ViewsEntry (entry : Entry) (judgement : Judged) (text text_now : List ℕ) : Type 0 where
  pub judgement_is : judgement ≡ judged (Some entry)
  pub text_is : text_now ≡ text ++ line_of entry

-- these octets were taken behind others, and the line of the entry that they brought was printed
pub record Views (old new : Tally) (octets text text_now : List ℕ) : Type 0 where
  pub entry : Option Entry
  pub brings : Brings old new octets entry
  pub text_is : text_now ≡ text ++ lines (option_to_list entry)

-- these octets were taken behind others, and the entry that they brought is this refusal or none
pub record Checks (old new : Tally) (octets : List ℕ) (refusal : Option Refusal) : Type 0 where
  pub entry : Option Entry
  pub brings : Brings old new octets entry
  pub refusal_is : refusal ≡ first_refusal (option_to_list entry)

-- the report goes on: a check ends with the first refusal
abbrev pub GoesOn : Report → List ℕ → Type 0
GoesOn View octets = Unit {0}
GoesOn Check octets = first_refusal (entries_of octets) ≡ None

-- these octets were taken behind others, this was printed of them, and the report goes on
pub record TellsOn (report : Report) (old new : Tally) (octets text text_now : List ℕ) : Type 0 where
  pub added : List ℕ
  pub text_is : text_now ≡ text ++ added
  pub counts : (before : List ℕ) → CountsEntries old before → CountsEntries new (before ++ octets)
  pub goes_on : (before : List ℕ) → CountsEntries old before → GoesOn report before → GoesOn report (before ++ octets)
  pub printed : (before : List ℕ) → CountsEntries old before → printed report (before ++ octets) ≡ printed report before ++ added

-- a check found its first refusal in these octets, and printed its line
pub record TellsLast (report : Report) (old : Tally) (octets text text_now : List ℕ) : Type 0 where
  pub check : report ≡ Check
  pub refusal : Refusal
  pub text_is : text_now ≡ text ++ refusal_line refusal
  pub first : (before : List ℕ) → CountsEntries old before → GoesOn report before → first_refusal (entries_of (before ++ octets)) ≡ Some refusal

-- the one or, where the report is settled, the other
abbrev pub TellsOctets : Bool → Report → Tally → Tally → List ℕ → List ℕ → List ℕ → Type 0
TellsOctets false report old new octets text text_now = TellsOn report old new octets text text_now
TellsOctets true report old new octets text text_now = TellsLast report old octets text text_now

-- what closes a report was printed, and the report then ends with this status
pub record Closes (report : Report) (closing : Closing) (tally : Tally) (text text_now : List ℕ) (status : Status) : Type 0 where
  pub added : List ℕ
  pub text_is : text_now ≡ text ++ added
  pub reply : (octets : List ℕ) → CountsEntries tally octets → GoesOn report octets
      → report_text report closing (closed_entries closing octets) ≡ record { text = printed report octets ++ added; status = status }
