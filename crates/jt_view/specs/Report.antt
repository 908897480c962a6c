-- What `view` and `check` print of an input, and their statuses: this project's texts. To be believed. The end of a stream is
-- taken as a function; a public law says that it is the end's refusal.
use Rattle.std.specs.Prelude.{ℕ, ◌%◌, ◌==◌, nat_lt, if◌then◌else◌, Bool, true, false, List, [], ◌++◌, length, take, Option, Some, None}
use Rattle.jt_value.specs.declared.refusal.Refusal.{Refusal}
use Rattle.jt_escape.specs.Scan.{end_of_stream}
use Rattle.jt_text.specs.Refusals.{refusal_line}
use Rattle.jt_view.specs.Line.{counts_line, ok_line, too_long_line, hex_refused_line}
use Rattle.jt_view.specs.Entry.{lines, entries_of, end_entries, refusals, frames, first_refusal, Entry}
use Rattle.jt_view.specs.HexInput.{first_wrong, digits, octets_of_digits}
use Rattle.jt_view.specs.declared.command.Command.{Command}
use Rattle.jt_view.specs.declared.command.Report.{Report}
use Rattle.jt_view.specs.declared.command.Report.TheVariants.{View, Check}
use Rattle.jt_view.specs.declared.command.Encoding.{Encoding}
use Rattle.jt_view.specs.declared.command.Encoding.TheVariants.{Octets, Hex}
use Rattle.jt_view.specs.declared.closing.Closing.{Closing}
use Rattle.jt_view.specs.declared.closing.Closing.TheVariants.{Whole, TooLong, HexRefused}
use Rattle.jt_input.specs.Reply.{Reply}
use Rattle.jt_input.specs.declared.status.Status.{Status}
use Rattle.jt_input.specs.declared.status.Status.TheVariants as status

-- ---- inputs

-- the octets of the stream that an input, so far, stands for
abbrev pub stream_of_input : Encoding → List ℕ → List ℕ
stream_of_input Octets text = text
stream_of_input Hex text = octets_of_digits (digits text)

-- the place where an input, so far, is wrong
abbrev pub wrong_place : Encoding → List ℕ → Option ℕ
wrong_place Octets text = None
wrong_place Hex text = first_wrong text

-- an input that ends here lacks a digit
abbrev pub lacks_digit : Encoding → List ℕ → Bool
lacks_digit Octets text = false
lacks_digit Hex text = length (digits text) % 2 == 1

-- a wrong octet comes first, then too many octets, then a digit that is lacking at the end
abbrev pub closing_at : Option ℕ → Bool → Bool → ℕ → Closing
closing_at (Some place) long lacks len = HexRefused place
closing_at None true lacks len = TooLong
closing_at None false true len = HexRefused len
closing_at None false false len = Whole

-- how an input of which this many octets may be read closes
abbrev pub closing_of : Encoding → ℕ → List ℕ → Closing
closing_of encoding most source =
    closing_at (wrong_place encoding (take most source)) (nat_lt most (length source)) (lacks_digit encoding source) (length source)

-- ---- reports

-- The entries of a stream that closes so. Only a stream that was read to its end is judged there.
abbrev pub closed_entries : Closing → List ℕ → List Entry
closed_entries Whole stream = entries_of stream ++ end_entries (end_of_stream stream)
closed_entries TooLong stream = entries_of stream
closed_entries (HexRefused place) stream = entries_of stream

-- what stands behind the lines of a view
abbrev pub view_close : Closing → List Entry → List ℕ
view_close Whole entries = counts_line (frames entries) (refusals entries)
view_close TooLong entries = too_long_line
view_close (HexRefused place) entries = hex_refused_line place

-- what a check without refusals prints
abbrev pub check_close : Closing → List Entry → List ℕ
check_close Whole entries = ok_line (frames entries)
check_close TooLong entries = too_long_line
check_close (HexRefused place) entries = hex_refused_line place

-- a report is done only where the whole stream has no refusal
abbrev pub status_of : Closing → List Entry → Status
status_of Whole entries = if refusals entries == 0 then status.Done else status.Refused
status_of TooLong entries = status.Refused
status_of (HexRefused place) entries = status.Refused

-- a line for each entry, in order, and what closes them
unfoldable pub view_text : Closing → List Entry → Reply
view_text closing entries = record { text = lines entries ++ view_close closing entries; status = status_of closing entries }

abbrev pub check_after : Option Refusal → Closing → List Entry → Reply
check_after (Some refusal) closing entries = record { text = refusal_line refusal; status = status.Refused }
check_after None closing entries = record { text = check_close closing entries; status = status_of closing entries }

-- the first refusal's line alone, or what closes a stream without refusals
unfoldable pub check_text : Closing → List Entry → Reply
check_text closing entries = check_after (first_refusal entries) closing entries

abbrev pub report_text : Report → Closing → List Entry → Reply
report_text View closing entries = view_text closing entries
report_text Check closing entries = check_text closing entries

-- what is printed of a stream before its input closes: a check prints all at the end
abbrev pub printed : Report → List ℕ → List ℕ
printed View stream = lines (entries_of stream)
printed Check stream = []

-- what a command answers to an input of which this many octets may be read
unfoldable pub answer_of : Command → ℕ → List ℕ → Reply
answer_of command most source =
    let closing = closing_of command.encoding most source in
    report_text command.report closing (closed_entries closing (stream_of_input command.encoding (take most source)))
