-- What a reporter's pieces are to the answer, and pieces that pass the most octets that may be read.
use Rattle.std.proofs.Common.{◌≡◌, ◌≤◌, ◌<◌, ◌⊎◌, ℕ, ◌+◌, List, [], ◌++◌, Option, Some, None, IfSome, length, take, drop, refl, sym, ap, subst, ◌∙◌, arith, inl, inr, append_assoc, length-append, length-drop}
use Rattle.std.proofs.lemmas.List.{take-append-drop, length-take-le, take_all}
use Rattle.std.specs.Io.KnownBytes.{Appends}
use Rattle.jt_input.specs.Answer.{IsFault, AnswersWhole}
use Rattle.jt_input.specs.Reply.{Reply}
use Rattle.jt_input.specs.Telling.{BeginsWith, GoesOn, Settles, Ends, SomeStands}
use Rattle.jt_input.specs.Telling as telling
use Rattle.jt_input.specs.declared.status.Status.{Status}
use Rattle.jt_view.specs.Answer.{IsOpen}
use Rattle.jt_view.specs.Report.{answer_of, closing_of, stream_of_input}
use Rattle.jt_view.specs.Reporting as reporting
use Rattle.jt_view.specs.Reporting.{Closes}
use Rattle.jt_view.specs.Taking.{Stands, StandsFor, question, printed_of, TakesInput, TakesOn, TakesLast, EndsTooLong}
use Rattle.jt_view.specs.declared.closing.Closing.{Closing}
use Rattle.jt_view.specs.declared.command.Command.{Command}
use Rattle.jt_view.specs.declared.command.Report.{Report}
use Rattle.jt_view.specs.declared.reporter.Question.{Question}
use Rattle.jt_view.specs.declared.reporter.Reporter.{Reporter}
use Rattle.jt_view.proofs.InputTaken.{ItemsOfFront, OctetsOfFront, closes_here, no_wrong, printed_nothing}
use Rattle.jt_view.proofs.PrintedFirst.{printed_first}

-- the answer to what was asked
abbrev pub answer : Question → List ℕ → Reply
answer asked input = answer_of asked.command asked.most input

-- what is asked of this reporter was asked
asked_so : (reporter : Reporter) (asked : Question) (seen printed input added : List ℕ) (status : Status) → StandsFor reporter asked seen printed
    → answer (question reporter) input ≡ record { text = printed_of reporter seen ++ added; status = status } → answer asked input ≡ record { text = printed ++ added; status = status }
asked_so reporter asked seen printed input added status stood is =
    rw (stood.text_is) (subst (λ (q : Question). answer q input ≡ record { text = printed_of reporter seen ++ added; status = status }) stood.same is)

same_question : (old new : Reporter) → new.command ≡ old.command → new.most ≡ old.most → question new ≡ question old
same_question old new command most = rw (command, most) refl

begins_so : ItemsOfFront → OctetsOfFront → (reporter : Reporter) (asked : Question) (seen printed : List ℕ) → StandsFor reporter asked seen printed → BeginsWith (answer asked) seen printed
begins_so items octets reporter asked seen printed stood rest =
    let first = printed_first items octets reporter seen rest reporter.most stood.within in (
      first.0,
      rw (stood.text_is) (subst (λ (q : Question). (answer q (seen ++ rest)).text ≡ printed_of reporter seen ++ first.0) stood.same first.1),
    )

-- the report goes on
goes : ItemsOfFront → OctetsOfFront → (old new : Reporter) (piece text text_now : List ℕ) → new.command ≡ old.command → new.most ≡ old.most
    → old.taken + length piece ≤ old.most → TakesOn old new piece text text_now → GoesOn answer (StandsFor old) (StandsFor new) piece text text_now
goes items octets old new piece text text_now command most fits on =
    let next : (asked : Question) (seen printed : List ℕ) → StandsFor old asked seen printed → StandsFor new asked (seen ++ piece) (printed ++ on.added) =
    λ asked seen printed stood. record {
      same = same_question old new command most ∙ stood.same;
      stands = on.stands seen stood.stands;
      within = rw most (let taken = stood.stands.taken in omega (arith, fits, taken, length-append seen piece));
      text_is = rw (stood.text_is) (sym (on.printed seen stood.stands));
    } in
    record {
      added = on.added;
      text_is = on.text_is;
      stands = next;
      first = λ asked seen printed stood. begins_so items octets new asked (seen ++ piece) (printed ++ on.added) (next asked seen printed stood);
    }

-- a piece in two parts, and what follows
parted : (seen front beyond piece rest : List ℕ) → front ++ beyond ≡ piece → (seen ++ piece) ++ rest ≡ (seen ++ front) ++ (beyond ++ rest)
parted seen front beyond piece rest e = rw (← e) (simp append_assoc)

-- the part of a piece that may be read settled the report
pub settled_early : (room : ℕ) (old new : Reporter) (piece text text_now : List ℕ) (status : Status)
    → room ≤ length piece → old.taken + room ≤ old.most → TakesLast old (take room piece) text text_now status
    → Settles answer (StandsFor old) (λ _ _. Unit {0}) piece text text_now status
settled_early room old new piece text text_now status fits all last = record {
  added = last.added;
  text_is = last.text_is;
  whole = λ asked seen printed stood rest.
      let front = take room piece in
      let some : length front ≡ room = length-take-le room piece fits in
      let within : length (seen ++ front) ≤ old.most = omega (arith, all, some, stood.stands.taken, length-append seen front) in
      let whole : front ++ drop room piece ≡ piece = take-append-drop room piece in
      asked_so old asked seen printed ((seen ++ piece) ++ rest) last.added status stood
      (rw (parted seen front (drop room piece) piece rest whole) (last.answer seen stood.stands old.most within (drop room piece ++ rest)));
  told = λ asked seen printed stood rest. tt;
}

-- the report went on over the part of a piece that may be read, and more follows
pub settled_too_long : (room : ℕ) (old mid : Reporter) (piece text text_mid text_now : List ℕ) (status : Status)
    → room < length piece → old.taken + room ≡ old.most → mid.command ≡ old.command
    → TakesOn old mid (take room piece) text text_mid → EndsTooLong mid text_mid text_now status
    → Settles answer (StandsFor old) (λ _ _. Unit {0}) piece text text_now status
settled_too_long room old mid piece text text_mid text_now status longer all same on ends = record {
  added = on.added ++ ends.added;
  text_is = ends.text_is ∙ ap (λ (xs : List ℕ). xs ++ ends.added) on.text_is ∙ append_assoc text on.added ends.added;
  whole = λ asked seen printed stood rest.
      let front = take room piece in
      let beyond = drop room piece ++ rest in
      let some : length front ≡ room = length-take-le room piece (omega arith) in
      let whole_length : length (seen ++ front) ≡ old.most = omega (arith, all, some, stood.stands.taken, length-append seen front) in
      let more : 0 < length beyond = omega (arith, longer, length-append (drop room piece) rest, length-drop room piece) in
      let whole : front ++ drop room piece ≡ piece = take-append-drop room piece in
      let reply = ends.answer (seen ++ front) (on.stands seen stood.stands) beyond more in
      let told : printed_of mid (seen ++ front) ++ ends.added ≡ printed_of old seen ++ (on.added ++ ends.added) =
      ap (λ (xs : List ℕ). xs ++ ends.added) (on.printed seen stood.stands) ∙ append_assoc (printed_of old seen) on.added ends.added in
      asked_so old asked seen printed ((seen ++ piece) ++ rest) (on.added ++ ends.added) status stood
      (rw (parted seen front (drop room piece) piece rest whole)
      (subst (λ (n : ℕ). answer_of old.command n ((seen ++ front) ++ beyond) ≡ record { text = printed_of old seen ++ (on.added ++ ends.added); status = status }) whole_length
      (ap (λ (command : Command). answer_of command (length (seen ++ front)) ((seen ++ front) ++ beyond)) (sym same)
      ∙ reply
      ∙ ap (λ (xs : List ℕ). record { text = xs; status = status }) told)));
  told = λ asked seen printed stood rest. tt;
}

-- a piece that may be read as a whole
pub taken_whole : ItemsOfFront → OctetsOfFront → (settled : Option Status) (old new : Reporter) (piece text text_now : List ℕ) → new.command ≡ old.command → new.most ≡ old.most
    → old.taken + length piece ≤ old.most → TakesInput settled old new piece text text_now
    → telling.TakesPiece settled answer (StandsFor old) (StandsFor new) (λ _ _. Unit {0}) piece text text_now
taken_whole items octets None old new piece text text_now command most fits on = goes items octets old new piece text text_now command most fits on
taken_whole items octets (Some status) old new piece text text_now command most fits last =
    settled_early (length piece) old new piece text text_now status (omega arith) fits (rw (take_all (length piece) piece (omega arith)) last)

-- the input ends here
pub ended : (old new : Reporter) (closing : Closing) (text text_now : List ℕ) (status : Status)
    → ((seen : List ℕ) → Stands old seen → (most : ℕ) → length seen ≤ most → closing_of old.command.encoding most seen ≡ closing)
    → Closes old.command.report closing old.tally text text_now status → Ends answer (StandsFor old) (λ _ _. Unit {0}) text text_now status
ended old new closing text text_now status is closes = record {
  added = closes.added;
  text_is = closes.text_is;
  whole = λ asked seen printed stood. asked_so old asked seen printed seen closes.added status stood (closes_here old closing text text_now status is closes seen stood.stands old.most stood.within);
  told = λ asked seen printed stood. tt;
}

-- nothing was taken yet
pub begins : (reporter : Reporter) (command : Command) (most : ℕ) → Stands reporter [] → reporter.command ≡ command → reporter.most ≡ most
    → StandsFor reporter (record { command = command; most = most }) [] []
begins reporter command most stands same_command same_most =
    record { same = rw (same_command, same_most) refl; stands = stands; within = omega arith; text_is = sym (printed_nothing reporter) }

-- ---- what a run says

-- a reporter that was so asked leaves the report open
pub is_open : (asked : Question) (seen printed : List ℕ) → SomeStands StandsFor asked seen printed → IsOpen asked.command asked.most seen printed
is_open asked seen printed stood =
    let reporter = stood.0 in
    let stands = stood.1.stands in
    let here : IsOpen reporter.command reporter.most seen printed = record {
      within = stood.1.within;
      right = no_wrong reporter.command.encoding reporter.reader seen stands.read;
      clean = λ check. subst (λ (report : Report). reporting.GoesOn report (stream_of_input reporter.command.encoding seen)) check stands.goes_on;
      text_is = stood.1.text_is;
    } in
    subst (λ (q : Question). IsOpen q.command q.most seen printed) stood.1.same here

pub whole_alone : (answer : List ℕ → Reply) (left old now : Option (List ℕ)) (status : Status) → IfSome left (AnswersWhole answer (λ _. Unit {0}) status old now)
    → IfSome left (λ octets. IsFault status ⊎ ((status ≡ (answer octets).status) × Appends old now (answer octets).text))
whole_alone answer None old now status whole = tt
whole_alone answer (Some octets) old now status (inl fault) = inl fault
whole_alone answer (Some octets) old now status (inr all) = inr (all.0, all.1)
