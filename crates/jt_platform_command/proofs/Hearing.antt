-- How the reading of a fleet goes on, and how it ends.
use Rattle.std.proofs.Common.{inl, inr, Bool, ◌≡◌, ◌++◌, ◌+◌, ℕ, true, false, List, [], ◌∷◌, Option, Some, None, IsTrue, refl, sym, ap, subst, ◌∙◌, append_assoc, append-nil, length-append, arith}
use Rattle.std.specs.Io.KnownBytes.{Consumes, IsAtEnd}
use Rattle.std.proofs.KnownBytes.{Consumes-trans}
use Rattle.jt_input.specs.Text.{lines_of, is_within}
use Rattle.jt_input.specs.Cutter.{begun_of}
use Rattle.jt_input.proofs.Fronts.{FrontLaw, lines_on}
use Rattle.jt_input.specs.LineReading.{Reading, HasTold, Goes}
use Rattle.jt_input.specs.declared.line_reader.NextLine.TheVariants as next
use Rattle.jt_platform_command.specs.FleetLines.{said_by}
use Rattle.jt_platform_command.specs.FleetText.{Named, FleetIn, BadLine, nothing_named, named_by, named_with, or_bad, at_end, fleet_from, fleet_in}
use Rattle.jt_platform_command.specs.declared.fleet_reader.FleetRead.{FleetRead}
use Rattle.jt_platform_command.specs.declared.fleet_reader.FleetRead.TheVariants as told
use Rattle.jt_platform_command.specs.Naming.{IsNamed, GoesOn, Ends}
use Rattle.jt_platform_command.specs.Reading.{ReadsFleet, AnswersFleet}

-- a line within the limits names what it says
with_is : (named : Named) (number : ℕ) (line : List ℕ) → IsTrue (is_within number line) → named_with named number line ≡ named_by named.secret named.fleet (said_by line)
unfolding named_with
with_is named number line within = rw within refl

-- a line beyond the limits is bad
beyond_is : (named : Named) (number : ℕ) (line : List ℕ) → is_within number line ≡ false → named_with named number line ≡ None
unfolding named_with
beyond_is named number line beyond = rw beyond refl

-- what the text names, by its next lines
from_here : (named : Named) (number : ℕ) (lines : List (List ℕ)) (line : List ℕ) (more : List (List ℕ)) (found : Option Named)
    → ((more : List (List ℕ)) → fleet_from nothing_named 1 (lines ++ more) ≡ fleet_from named number more) → named_with named number line ≡ found
    → fleet_from nothing_named 1 (lines ++ line ∷ more) ≡ or_bad found number (λ next. fleet_from next (number + 1) more)
from_here named number lines line more found stands said =
    stands (line ∷ more) ∙ ap (λ (f : Option Named). or_bad f number (λ next. fleet_from next (number + 1) more)) said

pub begins : (reading : Reading) (left : Option (List ℕ)) → HasTold reading [] [] → Consumes left left [] → GoesOn reading nothing_named 1 left left
begins reading left told none = record { text = []; lines = []; consumed = none; told = told; count = refl; stands = λ more. refl }

-- a good line
pub goes_on : (old now : Reading) (named found : Named) (number : ℕ) (left mid left_now : Option (List ℕ)) (h : GoesOn old named number left mid)
    → (goes : Goes next.Line now mid left_now h.text h.lines) → named_by named.secret named.fleet (said_by now.held.line) ≡ Some found
    → GoesOn now found (number + 1) left left_now
goes_on old now named found number left mid left_now h goes said = record {
  text = h.text ++ goes.more;
  lines = h.lines ++ now.held.line ∷ [];
  consumed = Consumes-trans left mid left_now h.text goes.more h.consumed goes.consumed;
  told = goes.tells.0;
  count = omega (arith, h.count, length-append h.lines (now.held.line ∷ []));
  stands = λ more. ap (λ (ls : List (List ℕ)). fleet_from nothing_named 1 ls) (append_assoc h.lines (now.held.line ∷ []) more)
      ∙ from_here named number h.lines now.held.line more (Some found) h.stands
      (with_is named number now.held.line (subst (λ (n : ℕ). IsTrue (is_within n now.held.line)) (sym h.count) goes.tells.1) ∙ said);
}

-- what a text that goes on behind a bad line names
bad_from : (named : Named) (number : ℕ) (lines : List (List ℕ)) (line : List ℕ)
    → ((more : List (List ℕ)) → fleet_from nothing_named 1 (lines ++ more) ≡ fleet_from named number more) → named_with named number line ≡ None
    → (more : List (List ℕ)) → fleet_from nothing_named 1 (lines ++ line ∷ more) ≡ BadLine number
bad_from named number lines line stands said more = from_here named number lines line more None stands said

fleet_is : (text : List ℕ) (lines : List (List ℕ)) → lines_of text ≡ lines → fleet_in text ≡ fleet_from nothing_named 1 lines
unfolding fleet_in
fleet_is text lines is = ap (λ (ls : List (List ℕ)). fleet_from nothing_named 1 ls) is

-- a text that names a bad line whatever follows
bad_whatever : (left left_now : Option (List ℕ)) (text : List ℕ) (number : ℕ) → Consumes left left_now text → ((rest : List ℕ) → fleet_in (text ++ rest) ≡ BadLine number)
    → ReadsFleet (told.Bad number) left left_now
bad_whatever left left_now text number consumed stays =
    let here : fleet_in text ≡ BadLine number = subst (λ (t : List ℕ). fleet_in t ≡ BadLine number) (append-nil text) (stays []) in
    record { taken = text; consumed = consumed; answers = (here, inr (λ rest. stays rest ∙ sym here)) }

-- the line that was told is bad
pub ends_bad : FrontLaw → (old now : Reading) (named : Named) (number : ℕ) (left mid left_now : Option (List ℕ)) (h : GoesOn old named number left mid)
    → (goes : Goes next.Line now mid left_now h.text h.lines) → named_by named.secret named.fleet (said_by now.held.line) ≡ None
    → ReadsFleet (told.Bad number) left left_now
ends_bad law old now named number left mid left_now h goes said =
    let line = now.held.line in
    let no : named_with named number line ≡ None = with_is named number line (subst (λ (n : ℕ). IsTrue (is_within n line)) (sym h.count) goes.tells.1) ∙ said in
    bad_whatever left left_now (h.text ++ goes.more) number (Consumes-trans left mid left_now h.text goes.more h.consumed goes.consumed) (λ rest.
    let more = lines_of (begun_of now.held ++ (now.ahead ++ rest)) in
    fleet_is ((h.text ++ goes.more) ++ rest) (h.lines ++ line ∷ more)
    (lines_on law now (h.text ++ goes.more) (h.lines ++ line ∷ []) goes.tells.0 rest ∙ append_assoc h.lines (line ∷ []) more)
    ∙ bad_from named number h.lines line h.stands no more)

-- the next line is beyond the limits
pub ends_beyond : (old now : Reading) (named : Named) (number found : ℕ) (left mid left_now : Option (List ℕ)) (h : GoesOn old named number left mid)
    → (goes : Goes (next.Bad found) now mid left_now h.text h.lines) → ReadsFleet (told.Bad found) left left_now
ends_beyond old now named number found left mid left_now h goes =
    let same : number ≡ found = h.count ∙ sym goes.tells.0 in
    subst (λ (n : ℕ). ReadsFleet (told.Bad n) left left_now) same (
    bad_whatever left left_now (h.text ++ goes.more) number (Consumes-trans left mid left_now h.text goes.more h.consumed goes.consumed) (λ rest.
    let b = goes.tells.1 rest in
    fleet_is ((h.text ++ goes.more) ++ rest) (h.lines ++ b.0 ∷ b.1) b.2
    ∙ bad_from named number h.lines b.0 h.stands (beyond_is named number b.0 (subst (λ (n : ℕ). is_within n b.0 ≡ false) (sym h.count) b.3)) b.1))

-- the text ends
at_the_end : (answer : FleetRead) (text : List ℕ) (left : Option (List ℕ)) (named : FleetIn) → fleet_in text ≡ named → IsAtEnd left → Ends answer named → AnswersFleet answer text left
at_the_end (told.Fleet secret fleet) text left named is end ends = (is ∙ ends, end)
at_the_end (told.Bad number) text left named is end ends = (is ∙ ends, inl end)
at_the_end told.Failed text left named is end ends = absurd ends
at_the_end told.Memory text left named is end ends = absurd ends

-- behind its last line, which has no line feed
pub ends_last : (answer : FleetRead) (old now : Reading) (named found : Named) (number : ℕ) (left mid left_now : Option (List ℕ)) (h : GoesOn old named number left mid)
    → (goes : Goes next.Last now mid left_now h.text h.lines) → named_by named.secret named.fleet (said_by now.held.line) ≡ Some found
    → Ends answer (at_end found.secret found.fleet (number + 1)) → ReadsFleet answer left left_now
ends_last answer old now named found number left mid left_now h goes said ends =
    let line = now.held.line in
    let yes : named_with named number line ≡ Some found = with_is named number line (subst (λ (n : ℕ). IsTrue (is_within n line)) (sym h.count) goes.tells.1) ∙ said in
    record {
      taken = h.text ++ goes.more;
      consumed = Consumes-trans left mid left_now h.text goes.more h.consumed goes.consumed;
      answers = at_the_end answer (h.text ++ goes.more) left_now (at_end found.secret found.fleet (number + 1))
          (fleet_is (h.text ++ goes.more) (h.lines ++ line ∷ []) goes.tells.0 ∙ from_here named number h.lines line [] (Some found) h.stands yes) goes.tells.2 ends;
    }

-- its last line is bad
pub ends_last_bad : (old now : Reading) (named : Named) (number : ℕ) (left mid left_now : Option (List ℕ)) (h : GoesOn old named number left mid)
    → (goes : Goes next.Last now mid left_now h.text h.lines) → named_by named.secret named.fleet (said_by now.held.line) ≡ None
    → ReadsFleet (told.Bad number) left left_now
ends_last_bad old now named number left mid left_now h goes said =
    let line = now.held.line in
    let no : named_with named number line ≡ None = with_is named number line (subst (λ (n : ℕ). IsTrue (is_within n line)) (sym h.count) goes.tells.1) ∙ said in
    record {
      taken = h.text ++ goes.more;
      consumed = Consumes-trans left mid left_now h.text goes.more h.consumed goes.consumed;
      answers = (fleet_is (h.text ++ goes.more) (h.lines ++ line ∷ []) goes.tells.0 ∙ bad_from named number h.lines line h.stands no [], inl goes.tells.2);
    }

-- where a line would begin
pub ends_here : (answer : FleetRead) (old now : Reading) (named : Named) (number : ℕ) (left mid left_now : Option (List ℕ)) (h : GoesOn old named number left mid)
    → (goes : Goes next.End now mid left_now h.text h.lines) → Ends answer (at_end named.secret named.fleet number) → ReadsFleet answer left left_now
ends_here answer old now named number left mid left_now h goes ends = record {
  taken = h.text ++ goes.more;
  consumed = Consumes-trans left mid left_now h.text goes.more h.consumed goes.consumed;
  answers = at_the_end answer (h.text ++ goes.more) left_now (at_end named.secret named.fleet number)
      (fleet_is (h.text ++ goes.more) (h.lines ++ []) (goes.tells.0 ∙ sym (append-nil h.lines)) ∙ h.stands []) goes.tells.1 ends;
}

-- a fault, of the source or of memory, says nothing of the text
pub ends_failed : (old now : Reading) (named : Named) (number : ℕ) (left mid left_now : Option (List ℕ)) (h : GoesOn old named number left mid)
    → (goes : Goes next.Failed now mid left_now h.text h.lines) → ReadsFleet told.Failed left left_now
ends_failed old now named number left mid left_now h goes =
    record { taken = h.text ++ goes.more; consumed = Consumes-trans left mid left_now h.text goes.more h.consumed goes.consumed; answers = tt }

-- want of memory at a line, or at the last one, says nothing of the text either
pub ends_memory : (old now : Reading) (named : Named) (number : ℕ) (left mid left_now : Option (List ℕ)) (h : GoesOn old named number left mid)
    → (goes : Goes next.Line now mid left_now h.text h.lines) → ReadsFleet told.Memory left left_now
ends_memory old now named number left mid left_now h goes =
    record { taken = h.text ++ goes.more; consumed = Consumes-trans left mid left_now h.text goes.more h.consumed goes.consumed; answers = tt }

pub ends_last_memory : (old now : Reading) (named : Named) (number : ℕ) (left mid left_now : Option (List ℕ)) (h : GoesOn old named number left mid)
    → (goes : Goes next.Last now mid left_now h.text h.lines) → ReadsFleet told.Memory left left_now
ends_last_memory old now named number left mid left_now h goes =
    record { taken = h.text ++ goes.more; consumed = Consumes-trans left mid left_now h.text goes.more h.consumed goes.consumed; answers = tt }

-- what a line that was heard named, by the line itself
pub good_is : (good : Bool) (old now : Named) (said line : List ℕ) → good ≡ true → said ≡ line → IsNamed good old (said_by said) now
    → named_by old.secret old.fleet (said_by line) ≡ Some now
good_is true old now said line e is named = subst (λ (l : List ℕ). named_by old.secret old.fleet (said_by l) ≡ Some now) is named
good_is false old now said line e is named = absurd (cc e)

pub bad_is : (good : Bool) (old now : Named) (said line : List ℕ) → good ≡ false → said ≡ line → IsNamed good old (said_by said) now
    → named_by old.secret old.fleet (said_by line) ≡ None
bad_is true old now said line e is named = absurd (cc e)
bad_is false old now said line e is named = subst (λ (l : List ℕ). named_by old.secret old.fleet (said_by l) ≡ None) is named
