-- What was printed of a front of the input is the front of the answer to the input.
use Rattle.std.proofs.Common.{◌≡◌, ◌≤◌, ℕ, ◌-◌, List, ◌++◌, length, take, refl, ap, ◌∙◌, append_assoc}
use Rattle.std.proofs.lemmas.List.Concat.{flat_map-append}
use Rattle.jt_escape.specs.Scan.{end_of_stream}
use Rattle.jt_view.specs.declared.command.Report.{Report}
use Rattle.jt_view.specs.declared.command.Report.TheVariants.{View, Check}
use Rattle.jt_view.specs.Entry.{Entry, line_of, lines, entries_of, end_entries}
use Rattle.jt_view.specs.declared.closing.Closing.{Closing}
use Rattle.jt_view.specs.declared.closing.Closing.TheVariants.{Whole, TooLong, HexRefused}
use Rattle.jt_view.specs.declared.reporter.Reporter.{Reporter}
use Rattle.jt_view.specs.Report.{stream_of_input, closing_of, closed_entries, report_text, view_text, view_close, answer_of, printed}
use Rattle.jt_view.specs.Taking.{printed_of}
use Rattle.jt_view.proofs.Counting.{entries_of-front}
use Rattle.jt_view.proofs.InputTaken.{ItemsOfFront, OctetsOfFront, stream_of_input-front, take-front}

-- the entries of a front come first, however the stream closes
closed_entries-front : ItemsOfFront → (closing : Closing) (front more : List ℕ)
    → (entries : List Entry) × (closed_entries closing (front ++ more) ≡ entries_of front ++ entries)
closed_entries-front items Whole front more =
    let longer = entries_of-front items front more in
    let ends = end_entries (end_of_stream (front ++ more)) in
    (longer.0 ++ ends, ap (λ (xs : List Entry). xs ++ ends) longer.1 ∙ append_assoc (entries_of front) longer.0 ends)
closed_entries-front items TooLong front more = entries_of-front items front more
closed_entries-front items (HexRefused place) front more = entries_of-front items front more

view-front : (closing : Closing) (entries more all : List Entry) → all ≡ entries ++ more
    → (rest : List ℕ) × ((view_text closing all).text ≡ lines entries ++ rest)
unfolding view_text
view-front closing entries more all e =
    let close = view_close closing all in
    let parts : lines (entries ++ more) ≡ lines entries ++ lines more = flat_map-append line_of entries more in
    (lines more ++ close, ap (λ (xs : List ℕ). xs ++ close) (ap lines e ∙ parts) ∙ append_assoc (lines entries) (lines more) close)

report-front : ItemsOfFront → (report : Report) (closing : Closing) (stream front more : List ℕ) → stream ≡ front ++ more
    → (rest : List ℕ) × ((report_text report closing (closed_entries closing stream)).text ≡ printed report front ++ rest)
report-front items View closing stream front more e =
    let longer = closed_entries-front items closing front more in
    view-front closing (entries_of front) longer.0 (closed_entries closing stream) (ap (closed_entries closing) e ∙ longer.1)
report-front items Check closing stream front more e = ((report_text Check closing (closed_entries closing stream)).text, refl)

pub printed_first : ItemsOfFront → OctetsOfFront → (reporter : Reporter) (seen more : List ℕ) (most : ℕ) → length seen ≤ most
    → (rest : List ℕ) × ((answer_of reporter.command most (seen ++ more)).text ≡ printed_of reporter seen ++ rest)
unfolding answer_of
printed_first items octets reporter seen more most fits =
    let command = reporter.command in
    let tail = take (most - length seen) more in
    let cut : take most (seen ++ more) ≡ seen ++ tail = take-front most seen more fits in
    let longer = stream_of_input-front octets command.encoding seen tail in
    report-front items command.report (closing_of command.encoding most (seen ++ more)) (stream_of_input command.encoding (take most (seen ++ more)))
    (stream_of_input command.encoding seen) longer.0 (ap (stream_of_input command.encoding) cut ∙ longer.1)
