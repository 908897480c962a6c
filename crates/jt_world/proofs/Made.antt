-- A script that is made goes from line to line.
use Rattle.std.proofs.Common.{◌≡◌, ℕ, suc, ◌+◌, ◌-◌, ◌<◌, ◌≤◌, false, ◌⊎◌, IsTrue, List, [], ◌∷◌, ◌++◌, Option, refl, sym, ap, subst, ◌∙◌, inl, inr, append_assoc, append-nil, arith}
use Rattle.jt_value.specs.declared.limits.TheConstants.{FIX_LIMIT}
use Rattle.jt_outside.proofs.Prefixes.{AppendsPrefix-none}
use Rattle.jt_outside.specs.Sink.{AppendsPrefix}
use Rattle.std.specs.Io.KnownBytes.{Appends}
use Rattle.jt_input.specs.EarlyEnds.{full_line}
use Rattle.jt_input.specs.Lines.{bad_line}
use Rattle.jt_input.specs.Text.{is_within}
use Rattle.jt_input.specs.declared.status.Status.{Status}
use Rattle.jt_world.specs.Claim.{KeptWhole, EachReachedIsKeptWhole}
use Rattle.jt_octets.specs.Reaching.{Reached}
use Rattle.jt_play.specs.Playing.{Play}
use Rattle.jt_play.specs.Scripts.{Scene, totals_of}
use Rattle.jt_event_lines.specs.EntryLines.{totals_line}
use Rattle.jt_script.specs.EventLines.{meaning, says}
use Rattle.jt_script.specs.declared.reading.EventLine.{EventLine}
use Rattle.jt_script.specs.declared.reading.EventLine.TheVariants.{Bad}
use Rattle.jt_world.specs.declared.making.Course.{Course}
use Rattle.jt_world.specs.declared.making.Course.TheVariants as course
use Rattle.jt_world.specs.declared.rehearsing.Rehearsed.{Rehearsed}
use Rattle.jt_world.specs.declared.rehearsing.Rehearsed.TheVariants as rehearsed
use Rattle.jt_world.specs.Hearing.{GoesOn, IsBad, IsFull, MayHear, beyond_meaning}
use Rattle.jt_world.specs.Made.{last_line, made, made_reply, make_lines, newest_after, round_end, round_lines, rounds_from}
use Rattle.jt_world.specs.Making.{Begins, HasEnded, IsAt, IsRefused, SaysAll, Stands, StandsIn}
use Rattle.jt_world.specs.declared.making.Making.{Making}
use Rattle.jt_world.specs.Rehearsal.{End, Whole, BadAt, FullAt, Rehearsal, after_line, bad_at, first, full_at, printing, rehearsal_from}
use Rattle.jt_world.specs.Rehearsing.{IsFault, Makes, ending}
use Rattle.jt_world.proofs.Heard.{meaning_is}

-- ---- one line

module _ (s now : Scene) (number : ℕ) (line : List ℕ) (lines : List (List ℕ)) (whole : Rehearsal) (at : IsAt s number (line ∷ lines) whole) where
  abbrev next : Play → Rehearsal
  next q = rehearsal_from q (number + 1) lines

  said_is : (said : EventLine) → meaning number line ≡ said → whole ≡ printing at.before (after_line s.play number next said)
  said_is said is = at.is ∙ ap (λ (x : EventLine). printing at.before (after_line s.play number next x)) is

  -- it ended with that play, which stands in the scene now
  ended : (r : Rehearsal) (e : Rehearsed) → whole ≡ printing at.before r → now ≡ s → r.play ≡ s.play → e ≡ ending r.end → (text : List ℕ) → text ≡ last_line r.play r.end → HasEnded now text e whole
  ended r e is same play end text text_is =
      subst (λ (w : Rehearsal). HasEnded now text e w) (sym is) (record {
        reached = subst (λ (x : Scene). Reached x.play.world) (sym same) at.may.reached;
        play = play ∙ ap (λ (x : Scene). x.play) (sym same);
        is = end;
        text_is = text_is;
      })

  pub at_next : IsTrue (is_within number line) → MayHear now → (text text_now : List ℕ) → GoesOn s now (says line) text text_now → IsAt now (number + 1) lines whole
  at_next within may text text_now did = record {
    may = may;
    before = at.before ++ did.added;
    is = said_is (says line) (meaning_is number line within)
        ∙ (ap (printing at.before) (did.goes number next)
        ∙ ap (λ (t : List ℕ). record (next now.play) { text = t }) (sym (append_assoc at.before did.added (next now.play).text)));
  }

  pub at_bad : IsTrue (is_within number line) → (text text_now : List ℕ) → IsBad s now (says line) text text_now → (last : List ℕ) → last ≡ bad_line number → HasEnded now last (rehearsed.BadLine number) whole
  at_bad within text text_now did last is =
      ended (bad_at number s.play) (rehearsed.BadLine number) (said_is (says line) (meaning_is number line within) ∙ ap (printing at.before) (did.ends number next)) did.same refl refl last is

  pub at_full : IsTrue (is_within number line) → (text : List ℕ) → text ≡ [] → (text_now : List ℕ) (status : Status) → IsFull s now (says line) text text_now status → HasEnded now text_now (rehearsed.Full FIX_LIMIT) whole
  at_full within text none text_now status did =
      ended (full_at s.play) (rehearsed.Full FIX_LIMIT) (said_is (says line) (meaning_is number line within) ∙ ap (printing at.before) (did.ends number next)) did.same refl refl text_now (did.text_is ∙ ap (λ (t : List ℕ). t ++ full_line FIX_LIMIT) none)

  pub at_beyond : is_within number line ≡ false → now ≡ s → (last : List ℕ) → last ≡ bad_line number → HasEnded now last (rehearsed.BadLine number) whole
  at_beyond beyond same last is = ended (bad_at number s.play) (rehearsed.BadLine number) (said_is Bad (beyond_meaning number line beyond)) same refl refl last is

pub refused : (c : Course) (s : Scene) (text : List ℕ) (number number_now : ℕ) (lines : List (List ℕ)) (whole : Rehearsal) → IsRefused c number text
    → ((last : List ℕ) → last ≡ bad_line number → HasEnded s last (rehearsed.BadLine number) whole) → StandsIn c s text number_now lines whole
refused course.GoesOn s text number number_now lines whole r ends = absurd r
refused (course.Ended e) s text number number_now lines whole r ends = subst (λ (x : Rehearsed). HasEnded s text x whole) (sym r.0) (ends text r.1)
refused course.OutOfMemory s text number number_now lines whole r ends = tt

-- ---- how far the script came

-- where it ended, or memory ran out, no more lines matter
pub past_ended : (c : Course) (e : Rehearsed) → course.Ended e ≡ c → (s : Scene) (text : List ℕ) (number : ℕ) (lines more : List (List ℕ)) (whole : Rehearsal)
    → StandsIn c s text number lines whole → StandsIn c s text number more whole
past_ended c e is s text number lines more whole = subst (λ (x : Course). StandsIn x s text number lines whole → StandsIn x s text number more whole) is (λ stands. stands)

pub past_memory : (c : Course) → course.OutOfMemory ≡ c → (s : Scene) (text : List ℕ) (number : ℕ) (lines more : List (List ℕ)) (whole : Rehearsal)
    → StandsIn c s text number lines whole → StandsIn c s text number more whole
past_memory c is s text number lines more whole = subst (λ (x : Course). StandsIn x s text number lines whole → StandsIn x s text number more whole) is (λ stands. stands)

pub at_of : (c : Course) → course.GoesOn ≡ c → (s : Scene) (text : List ℕ) (number : ℕ) (lines : List (List ℕ)) (whole : Rehearsal) → StandsIn c s text number lines whole → IsAt s number lines whole
at_of c is s text number lines whole = subst (λ (x : Course). StandsIn x s text number lines whole → IsAt s number lines whole) is (λ stands. stands)

pub ended_of : (c : Course) (e : Rehearsed) → course.Ended e ≡ c → (s : Scene) (text : List ℕ) (number : ℕ) (lines : List (List ℕ)) (whole : Rehearsal) → StandsIn c s text number lines whole → HasEnded s text e whole
ended_of c e is s text number lines whole = subst (λ (x : Course). StandsIn x s text number lines whole → HasEnded s text e whole) is (λ stands. stands)

-- nothing was said
pub nothing_said : (s : Scene) → MayHear s → s.play ≡ first → (lines : List (List ℕ)) → IsAt s 1 lines (rehearsal_from first 1 lines)
nothing_said s may is lines = record { may = may; before = []; is = ap (λ (p : Play). rehearsal_from p 1 lines) (sym is) }

-- all was said
pub at_whole : (s : Scene) (number : ℕ) (whole : Rehearsal) (text : List ℕ) → IsAt s number [] whole → text ≡ totals_line (totals_of s.play) → HasEnded s text rehearsed.Done whole
at_whole s number whole text at is =
    subst (λ (w : Rehearsal). HasEnded s text rehearsed.Done w) (sym at.is) (record { reached = at.may.reached; play = refl; is = refl; text_is = is })

-- ---- what was written

-- the last line stands in the sink, or a part of it
pub makes : EachReachedIsKeptWhole → (count : ℕ) (s : Scene) (text : List ℕ) (e result : Rehearsed) (old now : Option (List ℕ)) → HasEnded s text e (made count)
    → ((result ≡ e) × Appends old now text) ⊎ ((result ≡ rehearsed.WriteFault) × AppendsPrefix old now text) → Makes count old now result
unfolding made_reply
makes kept count s text e result old now ended (inl wrote) =
    inl (wrote.0 ∙ ended.is, subst (Appends old now) ended.text_is wrote.1, subst (λ (p : Play). KeptWhole p.world) (sym ended.play) (kept s.play.world ended.reached))
makes kept count s text e result old now ended (inr part) =
    inr (subst IsFault (sym part.0) tt, subst (AppendsPrefix old now) ended.text_is part.1)

pub makes_none : (count : ℕ) (now : Option (List ℕ)) → Makes count now now rehearsed.Memory
makes_none count now = inr (tt, AppendsPrefix-none now (made_reply count).text)

-- ---- rounds

-- so many rounds were said of those that are to be
pub record IsRound (old now : Making) (count k newest : ℕ) : Type 0 where
  pub says : (more : List (List ℕ)) (whole : Rehearsal) → Stands old (rounds_from 0 count 1 ++ more) whole → Stands now (rounds_from k (count - k) newest ++ more) whole
  pub small : newest ≤ k + 1

pub no_round : (old : Making) (count : ℕ) → IsRound old old count 0 1
no_round old count =
    let all : count ≡ count - 0 = omega arith in
    record { says = λ more whole stands. subst (λ (n : ℕ). Stands old (rounds_from 0 n 1 ++ more) whole) all stands; small = omega arith }

one_more : (k count newest : ℕ) → k < count → rounds_from k (count - k) newest ≡ round_lines k newest ++ rounds_from (k + 1) (count - (k + 1)) (newest_after (round_end k) newest)
one_more k count newest lt =
    let left_is : count - k ≡ suc (count - (k + 1)) = omega (arith, lt) in
    ap (λ (left : ℕ). rounds_from k left newest) left_is

pub next_round : (old now next : Making) (count k newest newest_now : ℕ) → IsRound old now count k newest → k < count → SaysAll now next (round_lines k newest)
    → newest_now ≡ newest_after (round_end k) newest → newest_now ≤ newest + 1 → IsRound old next count (k + 1) newest_now
next_round old now next count k newest newest_now is lt says same small = record {
  says = λ more whole stands.
      let rest = rounds_from (k + 1) (count - (k + 1)) in
      subst (λ (n : ℕ). Stands next (rest n ++ more) whole) (sym same)
      (says (rest (newest_after (round_end k) newest) ++ more) whole
      (subst (λ (lines : List (List ℕ)). Stands now lines whole)
      (ap (λ (lines : List (List ℕ)). lines ++ more) (one_more k count newest lt) ∙ append_assoc (round_lines k newest) (rest (newest_after (round_end k) newest)) more)
      (is.says more whole stands)));
  small = omega (arith, small, is.small);
}

pub all_rounds : (old now : Making) (count k newest : ℕ) → IsRound old now count k newest → count ≤ k → SaysAll old now (rounds_from 0 count 1)
all_rounds old now count k newest is le more whole stands =
    let none : count - k ≡ 0 = omega (arith, le) in
    subst (λ (left : ℕ). Stands now (rounds_from k left newest ++ more) whole) none (is.says more whole stands)

-- ---- the whole script

pub all_said : (m now : Making) (count : ℕ) → Begins m → SaysAll m now (make_lines count) → Stands now [] (made count)
unfolding made
all_said m now count begins says =
    says [] (made count) (subst (λ (lines : List (List ℕ)). Stands m lines (rehearsal_from first 1 (make_lines count))) (sym (append-nil (make_lines count))) (begins (make_lines count)))

not_written : (end : End) → rehearsed.WriteFault ≡ ending end → ⊥
not_written Whole e = absurd cc
not_written (BadAt number) e = absurd cc
not_written (FullAt limit) e = absurd cc

not_read : (end : End) → rehearsed.ReadFault ≡ ending end → ⊥
not_read Whole e = absurd cc
not_read (BadAt number) e = absurd cc
not_read (FullAt limit) e = absurd cc

pub no_write_fault : (s : Scene) (text : List ℕ) (e : Rehearsed) (whole : Rehearsal) → HasEnded s text e whole → e ≡ rehearsed.WriteFault → ⊥
no_write_fault s text e whole ended is = not_written whole.end (sym is ∙ ended.is)

-- what is answered where the text was written, or a write failed, is no fault of reading
pub no_read_fault : (s : Scene) (text : List ℕ) (e result : Rehearsed) (whole : Rehearsal) → HasEnded s text e whole → (result ≡ e) ⊎ (result ≡ rehearsed.WriteFault) → result ≡ rehearsed.ReadFault → ⊥
no_read_fault s text e result whole ended (inl same) is = not_read whole.end (sym is ∙ (same ∙ ended.is))
no_read_fault s text e result whole ended (inr wrote) is = let both = sym wrote ∙ is in absurd cc
