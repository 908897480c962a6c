-- What the pieces of an input make of the report of the whole.
use Rattle.std.proofs.Common.{◌≡◌, ◌≤◌, ◌<◌, ℕ, ◌+◌, ◌-◌, nat_lt, true, List, [], ◌++◌, Option, Some, None, length, take, refl, ap, subst, ◌∙◌, arith, append_assoc, length-append}
use Rattle.std.proofs.lemmas.Bool.{lt-ltb}
use Rattle.std.proofs.lemmas.List.{take_all}
use Rattle.std.proofs.Math.Seq.{take-append-add, take-append_seam}
use Rattle.jt_value.specs.declared.refusal.Refusal.{Refusal}
use Rattle.jt_escape.specs.Scan.{end_of_stream}
use Rattle.jt_stream.specs.Item.{Item, all_items}
use Rattle.jt_view.specs.declared.command.Command.{Command}
use Rattle.jt_view.specs.declared.command.Report.{Report}
use Rattle.jt_view.specs.declared.command.Report.TheVariants.{View, Check}
use Rattle.jt_view.specs.declared.command.Encoding.{Encoding}
use Rattle.jt_view.specs.declared.command.Encoding.TheVariants.{Octets, Hex}
use Rattle.jt_view.specs.Entry.{Entry, entries_of, end_entries, first_refusal}
use Rattle.jt_view.specs.declared.closing.Closing.{Closing}
use Rattle.jt_view.specs.declared.closing.Closing.TheVariants.{Whole, TooLong, HexRefused}
use Rattle.jt_view.specs.declared.reporter.Reporter.{Reporter}
use Rattle.jt_input.specs.declared.status.Status.{Status}
use Rattle.jt_input.specs.declared.status.Status.TheVariants.{Refused}
use Rattle.jt_view.specs.HexInput as hex
use Rattle.jt_text.specs.Refusals.{refusal_line}
use Rattle.jt_view.specs.Report.{stream_of_input, wrong_place, closing_of, closed_entries, report_text, check_text, answer_of, printed}
use Rattle.jt_view.specs.Reporting.{Tally, CountsEntries, GoesOn, TellsOn, TellsLast, Closes}
use Rattle.jt_view.specs.Taking.{IsRead, Stands, printed_of, TakesOn, TakesLast, EndsTooLong}
use Rattle.jt_view.proofs.Counting.{entries_of-front}
use Rattle.jt_view.proofs.EntriesTold.{first_refusal-front}

-- the items of a front come first
abbrev pub ItemsOfFront : Type 0
ItemsOfFront = (front rest : List ℕ) → (more : List Item) × (all_items (front ++ rest) ≡ all_items front ++ more)

-- the octets of a front come first
abbrev pub OctetsOfFront : Type 0
OctetsOfFront = (front rest : List ℕ) → (more : List ℕ) × (hex.octets_of_digits (hex.digits (front ++ rest)) ≡ hex.octets_of_digits (hex.digits front) ++ more)

pub stream_of_input-front : OctetsOfFront → (encoding : Encoding) (front rest : List ℕ) → (more : List ℕ) × (stream_of_input encoding (front ++ rest) ≡ stream_of_input encoding front ++ more)
stream_of_input-front fronts Octets front rest = (rest, refl)
stream_of_input-front fronts Hex front rest = fronts front rest

-- as many as may be taken, where a front fits
pub take-front : (most : ℕ) (front rest : List ℕ) → length front ≤ most → take most (front ++ rest) ≡ front ++ take (most - length front) rest
take-front most front rest fits =
    let whole : length front + (most - length front) ≡ most = omega arith in
    subst (λ (n : ℕ). take n (front ++ rest) ≡ front ++ take (most - length front) rest) whole (take-append-add front rest (most - length front))

in_all : (closing : Closing) (octets : List ℕ) (refusal : Refusal) → first_refusal (entries_of octets) ≡ Some refusal → first_refusal (closed_entries closing octets) ≡ Some refusal
in_all Whole octets refusal e = first_refusal-front (entries_of octets) (end_entries (end_of_stream octets)) refusal e
in_all TooLong octets refusal e = e
in_all (HexRefused place) octets refusal e = e

-- a refusal in a front is the first of all, however the input closes
closed-front : ItemsOfFront → (closing : Closing) (front more : List ℕ) (refusal : Refusal)
    → first_refusal (entries_of front) ≡ Some refusal → first_refusal (closed_entries closing (front ++ more)) ≡ Some refusal
closed-front fronts closing front more refusal e =
    let longer = entries_of-front fronts front more in
    let found : first_refusal (entries_of (front ++ more)) ≡ Some refusal =
    ap first_refusal longer.1 ∙ first_refusal-front (entries_of front) longer.0 refusal e in
    in_all closing (front ++ more) refusal found

checked : (closing : Closing) (entries : List Entry) (refusal : Refusal) → first_refusal entries ≡ Some refusal
    → check_text closing entries ≡ record { text = refusal_line refusal; status = Refused }
unfolding check_text
checked closing entries refusal e = rw e refl

-- a check answers with the refusal in a front, whatever follows
answer_refused : ItemsOfFront → OctetsOfFront → (command : Command) (most : ℕ) (front rest : List ℕ) (refusal : Refusal)
    → command.report ≡ Check → length front ≤ most → first_refusal (entries_of (stream_of_input command.encoding front)) ≡ Some refusal
    → answer_of command most (front ++ rest) ≡ record { text = refusal_line refusal; status = Refused }
unfolding answer_of
answer_refused items octets command most front rest refusal check fits e =
    let closing = closing_of command.encoding most (front ++ rest) in
    let tail = take (most - length front) rest in
    let cut : take most (front ++ rest) ≡ front ++ tail = take-front most front rest fits in
    let more = stream_of_input-front octets command.encoding front tail in
    let stream : stream_of_input command.encoding (take most (front ++ rest)) ≡ stream_of_input command.encoding front ++ more.0 =
    ap (stream_of_input command.encoding) cut ∙ more.1 in
    let found : first_refusal (closed_entries closing (stream_of_input command.encoding (take most (front ++ rest)))) ≡ Some refusal =
    rw stream (closed-front items closing (stream_of_input command.encoding front) more.0 refusal e) in
    ap (λ (report : Report). report_text report closing (closed_entries closing (stream_of_input command.encoding (take most (front ++ rest))))) check
    ∙ checked closing (closed_entries closing (stream_of_input command.encoding (take most (front ++ rest)))) refusal found

-- what a piece stands for, behind each front that was taken
abbrev pub Decodes : Reporter → List ℕ → List ℕ → Type 0
Decodes old piece more = (seen : List ℕ) → Stands old seen → stream_of_input old.command.encoding (seen ++ piece) ≡ stream_of_input old.command.encoding seen ++ more

pub takes_last : ItemsOfFront → OctetsOfFront → (old : Reporter) (piece more text text_now : List ℕ)
    → Decodes old piece more → TellsLast old.command.report old.tally more text text_now → TakesLast old piece text text_now Refused
takes_last items octets old piece more text text_now decodes tells = record {
  added = refusal_line tells.refusal;
  text_is = tells.text_is;
  answer = λ seen stands most fits rest.
      let found : first_refusal (entries_of (stream_of_input old.command.encoding (seen ++ piece))) ≡ Some tells.refusal =
      rw (decodes seen stands) (tells.first (stream_of_input old.command.encoding seen) stands.counts stands.goes_on) in
      let nothing : printed old.command.report (stream_of_input old.command.encoding seen) ≡ [] =
      ap (λ (report : Report). printed report (stream_of_input old.command.encoding seen)) tells.check in
      answer_refused items octets old.command most (seen ++ piece) rest tells.refusal tells.check fits found
      ∙ rw nothing refl;
}

pub takes_on : (old new : Reporter) (piece more text text_now : List ℕ)
    → Decodes old piece more → TellsOn old.command.report old.tally new.tally more text text_now
    → new.command ≡ old.command → new.taken ≡ old.taken + length piece
    → ((seen : List ℕ) → Stands old seen → IsRead old.command.encoding new.reader (seen ++ piece))
    → TakesOn old new piece text text_now
takes_on old new piece more text text_now decodes tells same taken read = record {
  added = tells.added;
  text_is = tells.text_is;
  stands = λ seen stands. record {
    taken = omega (arith, taken, stands.taken, length-append seen piece);
    read = rw same (read seen stands);
    counts = rw (same, decodes seen stands) (tells.counts (stream_of_input old.command.encoding seen) stands.counts);
    goes_on = rw (same, decodes seen stands) (tells.goes_on (stream_of_input old.command.encoding seen) stands.counts stands.goes_on);
  };
  printed = λ seen stands. rw (same, decodes seen stands) (tells.printed (stream_of_input old.command.encoding seen) stands.counts);
}

-- nothing was taken yet
first_read : (encoding : Encoding) (waiting : Option ℕ) → hex.StandsFor waiting [] → IsRead encoding waiting []
first_read Octets waiting stands = tt
first_read Hex waiting stands = stands

stream_of_input-nil : (encoding : Encoding) → stream_of_input encoding [] ≡ []
unfolding hex.digits hex.octets_of_digits
stream_of_input-nil Octets = refl
stream_of_input-nil Hex = refl

first_goes : (report : Report) → GoesOn report []
unfolding entries_of all_items
first_goes View = tt
first_goes Check = refl

pub stands_first : (reporter : Reporter) → hex.StandsFor reporter.reader [] → CountsEntries reporter.tally [] → reporter.taken ≡ 0 → Stands reporter []
stands_first reporter read counts taken = record {
  taken = taken;
  read = first_read reporter.command.encoding reporter.reader read;
  counts = rw (stream_of_input-nil reporter.command.encoding) counts;
  goes_on = rw (stream_of_input-nil reporter.command.encoding) (first_goes reporter.command.report);
}

-- digits that were read behind each front
pub decodes_digits : (old : Reporter) (piece before items : List ℕ) → old.command.encoding ≡ Hex → before ≡ []
    → hex.Completes old.reader piece before items → Decodes old piece items
decodes_digits old piece before items encoding none completes seen stands =
    let read : hex.StandsFor old.reader seen = subst (λ (e : Encoding). IsRead e old.reader seen) encoding stands.read in
    let same : items ≡ completes.more = completes.appended ∙ ap (λ (xs : List ℕ). xs ++ completes.more) none in
    rw (encoding, same) (completes.octets seen read)

-- the digits of a front
pub reads_digits : (old : Reporter) (seen : List ℕ) → old.command.encoding ≡ Hex → Stands old seen → hex.StandsFor old.reader seen
reads_digits old seen encoding stands = subst (λ (e : Encoding). IsRead e old.reader seen) encoding stands.read

-- an input with a wrong octet in its front closes there, whatever follows
answer_wrong : ((front rest : List ℕ) (place : ℕ) → hex.first_wrong front ≡ Some place → hex.first_wrong (front ++ rest) ≡ Some place)
    → ((front rest : List ℕ) (place : ℕ) → hex.first_wrong front ≡ Some place → hex.digits (front ++ rest) ≡ hex.digits front)
    → (command : Command) (most : ℕ) (front rest : List ℕ) (place : ℕ) → command.encoding ≡ Hex → length front ≤ most → hex.first_wrong front ≡ Some place
    → answer_of command most (front ++ rest) ≡ report_text command.report (HexRefused place) (entries_of (stream_of_input command.encoding front))
unfolding answer_of
answer_wrong stays digits command most front rest place encoding fits e =
    let tail = take (most - length front) rest in
    let cut : take most (front ++ rest) ≡ front ++ tail = take-front most front rest fits in
    let wrong : hex.first_wrong (front ++ tail) ≡ Some place = stays front tail place e in
    let same : hex.digits (front ++ tail) ≡ hex.digits front = digits front tail place e in
    rw (encoding, cut, wrong, same) refl

-- a wrong octet in a piece, behind what was told of the octets before it
pub takes_wrong : ((front rest : List ℕ) (place : ℕ) → hex.first_wrong front ≡ Some place → hex.first_wrong (front ++ rest) ≡ Some place)
    → ((front rest : List ℕ) (place : ℕ) → hex.first_wrong front ≡ Some place → hex.digits (front ++ rest) ≡ hex.digits front)
    → (old : Reporter) (mid : Tally) (piece more text text_mid text_now : List ℕ) (index : ℕ) (status : Status)
    → old.command.encoding ≡ Hex → Decodes old piece more
    → ((seen : List ℕ) → hex.StandsFor old.reader seen → hex.first_wrong (seen ++ piece) ≡ Some (length seen + index))
    → TellsOn old.command.report old.tally mid more text text_mid
    → Closes old.command.report (HexRefused (old.taken + index)) mid text_mid text_now status
    → TakesLast old piece text text_now status
takes_wrong stays digits old mid piece more text text_mid text_now index status encoding decodes wrong tells closes = record {
  added = tells.added ++ closes.added;
  text_is = rw (closes.text_is, tells.text_is) (append_assoc text tells.added closes.added);
  answer = λ seen stands most fits rest.
      let stream = stream_of_input old.command.encoding seen in
      let place : hex.first_wrong (seen ++ piece) ≡ Some (old.taken + index) =
      rw stands.taken (wrong seen (reads_digits old seen encoding stands)) in
      let reply = closes.reply (stream ++ more) (tells.counts stream stands.counts) (tells.goes_on stream stands.counts stands.goes_on) in
      let told : printed old.command.report (stream ++ more) ++ closes.added ≡ printed_of old seen ++ (tells.added ++ closes.added) =
      ap (λ (xs : List ℕ). xs ++ closes.added) (tells.printed stream stands.counts) ∙ append_assoc (printed_of old seen) tells.added closes.added in
      answer_wrong stays digits old.command most (seen ++ piece) rest (old.taken + index) encoding fits place
      ∙ ap (λ (octets : List ℕ). report_text old.command.report (HexRefused (old.taken + index)) (entries_of octets)) (decodes seen stands)
      ∙ reply
      ∙ ap (λ (xs : List ℕ). record { text = xs; status = status }) told;
}

-- an input that ends
pub closes_here : (reporter : Reporter) (closing : Closing) (text text_now : List ℕ) (status : Status)
    → ((seen : List ℕ) → Stands reporter seen → (most : ℕ) → length seen ≤ most → closing_of reporter.command.encoding most seen ≡ closing)
    → (closes : Closes reporter.command.report closing reporter.tally text text_now status) → (seen : List ℕ) → Stands reporter seen → (most : ℕ) → length seen ≤ most
    → answer_of reporter.command most seen ≡ record { text = printed_of reporter seen ++ closes.added; status = status }
unfolding answer_of
closes_here reporter closing text text_now status is closes seen stands most fits =
    let all : take most seen ≡ seen = take_all most seen fits in
    rw (is seen stands most fits, all) (closes.reply (stream_of_input reporter.command.encoding seen) stands.counts stands.goes_on)

pub no_wrong : (encoding : Encoding) (waiting : Option ℕ) (seen : List ℕ) → IsRead encoding waiting seen → wrong_place encoding seen ≡ None
no_wrong Octets waiting seen read = refl
no_wrong Hex waiting seen read = read.right

closing_too_long : (encoding : Encoding) (waiting : Option ℕ) (seen beyond : List ℕ) → IsRead encoding waiting seen → 0 < length beyond
    → closing_of encoding (length seen) (seen ++ beyond) ≡ TooLong
closing_too_long encoding waiting seen beyond read some =
    let cut : take (length seen) (seen ++ beyond) ≡ seen = take-append_seam seen beyond in
    let right : wrong_place encoding seen ≡ None = no_wrong encoding waiting seen read in
    let longer : length seen < length (seen ++ beyond) = omega (arith, some, length-append seen beyond) in
    let long : nat_lt (length seen) (length (seen ++ beyond)) ≡ true = lt-ltb (length seen) (length (seen ++ beyond)) longer in
    rw (cut, right, long) refl

pub ends_too_long : (reporter : Reporter) (text text_now : List ℕ) (status : Status)
    → Closes reporter.command.report TooLong reporter.tally text text_now status → EndsTooLong reporter text text_now status
unfolding answer_of
ends_too_long reporter text text_now status closes = record {
  added = closes.added;
  text_is = closes.text_is;
  answer = λ seen stands beyond some.
      let cut : take (length seen) (seen ++ beyond) ≡ seen = take-append_seam seen beyond in
      let closing : closing_of reporter.command.encoding (length seen) (seen ++ beyond) ≡ TooLong =
      closing_too_long reporter.command.encoding reporter.reader seen beyond stands.read some in
      rw (closing, cut) (closes.reply (stream_of_input reporter.command.encoding seen) stands.counts stands.goes_on);
}

printed-nil : (report : Report) → printed report [] ≡ []
unfolding entries_of all_items
printed-nil View = refl
printed-nil Check = refl

-- of nothing nothing is printed
pub printed_nothing : (reporter : Reporter) → printed_of reporter [] ≡ []
printed_nothing reporter = ap (printed reporter.command.report) (stream_of_input-nil reporter.command.encoding) ∙ printed-nil reporter.command.report
