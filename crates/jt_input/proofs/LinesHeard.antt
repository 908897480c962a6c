-- How a text input that comes in pieces is heard.
use Rattle.std.proofs.Common.{◌≡◌, ◌≤◌, ◌+◌, ℕ, false, Option, Some, None, Result, Ok, Err, List, [], ◌∷◌, ◌++◌, length, take, drop, refl, sym, ap, ◌∙◌, arith, append_assoc, append-nil, length-append}
use Rattle.std.proofs.lemmas.List.{take-append-drop}
use Rattle.std.specs.Prelude.{IfOk}
use Rattle.jt_input.specs.Text.{Cuts, lines_of, is_within}
use Rattle.jt_input.specs.Cutter.{Held, IsBegun, IsBeyond, begun_of, room_of}
use Rattle.jt_input.specs.Cutter as cutter
use Rattle.jt_input.specs.Telling.{BeginsWith, GoesOn, Settles, Ends}
use Rattle.jt_input.specs.Lines.{Outcome, printing, bad_line, bad_outcome, reply_of, answer_of, HearsOn, HearsBad, HearsLast, Closes, HasHeard, HasClosed}
use Rattle.jt_input.specs.LineSteps.{TakesOn, TakesLast}
use Rattle.jt_input.specs.declared.status.Status.{Status}
use Rattle.jt_input.specs.declared.status.Status.TheVariants.{Refused}

-- the law of lines, which jt_script states
abbrev pub LinesOfFront : Type 0
LinesOfFront = (text rest begun : List ℕ) (lines : List (List ℕ)) → Cuts text lines begun → lines_of (text ++ rest) ≡ lines ++ lines_of (begun ++ rest)

-- two facts of an answer
pub both_ok : {T E : Type 0} (r : Result T E) (P Q R : T → Type 0) → ((x : T) → P x → Q x → R x) → IfOk r P → IfOk r Q → IfOk r R
both_ok (Ok x) P Q R f p q = f x p q
both_ok (Err e) P Q R f p q = tt

regrouped : (a b c d : List ℕ) → (a ++ (b ++ c)) ++ d ≡ (a ++ b) ++ (c ++ d)
regrouped a b c d = simp append_assoc

module _ {H : Type 0} (outcome : H → ℕ → List (List ℕ) → Outcome H) where
  -- a front of the piece was taken
  pub record TakenSoFar (old now : H) (held held_now : Held) (bad bad_now : Option ℕ) (piece rest text text_now : List ℕ) : Type 0 where
    pub front : List ℕ
    pub whole : piece ≡ front ++ rest
    pub takes : TakesOn outcome old now held held_now bad bad_now front text text_now

module _ {H : Type 0} (law : LinesOfFront) (outcome : H → ℕ → List (List ℕ) → Outcome H) where
  printing_twice : (a b : List ℕ) (o : Outcome H) → printing a (printing b o) ≡ printing (a ++ b) o
  printing_twice a b o = ap (λ (text : List ℕ). record o { text = text }) (sym (append_assoc a b o.text))

  -- what was printed is printed first, whatever follows
  printed_first : (first hearer : H) (held : Held) (bad : Option ℕ) (seen printed : List ℕ) → HasHeard outcome first hearer held bad seen printed
      → BeginsWith (answer_of outcome first) seen printed
  printed_first first hearer held bad seen printed heard rest =
      let lines = law seen rest (begun_of held) heard.lines heard.cuts in
      let others = lines_of (begun_of held ++ rest) in (
        (outcome hearer (held.number + 1) others).text,
        ap (λ (o : Outcome H). o.text) (ap (outcome first 1) lines ∙ heard.goes others),
      )

  pub heard_first : (hearer : H) (held : Held) → held.number ≡ 0 → Cuts [] [] (begun_of held) → IsBegun held → HasHeard outcome hearer hearer held None [] []
  heard_first hearer held number cuts begun = record {
    lines = [];
    cuts = cuts;
    number = number;
    begun = begun;
    goes = λ more. rw number refl;
    none_bad = refl;
  }

  -- octets behind which the input stays open
  goes_by : (old new : H) (held held_now : Held) (bad bad_now : Option ℕ) (octets added text text_now : List ℕ) → text_now ≡ text ++ added
      → ((first : H) (seen printed : List ℕ) → HasHeard outcome first old held bad seen printed → HasHeard outcome first new held_now bad_now (seen ++ octets) (printed ++ added))
      → GoesOn (answer_of outcome) (λ first. HasHeard outcome first old held bad) (λ first. HasHeard outcome first new held_now bad_now) octets text text_now
  goes_by old new held held_now bad bad_now octets added text text_now is next = record {
    added = added;
    text_is = is;
    stands = next;
    first = λ first seen printed heard. printed_first first new held_now bad_now (seen ++ octets) (printed ++ added) (next first seen printed heard);
  }

  -- octets that settle the answer
  settles_by : (old new : H) (held : Held) (bad bad_now : Option ℕ) (octets added text text_now : List ℕ) (status : Status) → text_now ≡ text ++ added
      → ((first : H) (seen printed : List ℕ) → HasHeard outcome first old held bad seen printed → (rest : List ℕ)
      → outcome first 1 (lines_of ((seen ++ octets) ++ rest)) ≡ record { left = new; text = printed ++ added; bad = bad_now; status = status })
      → TakesLast outcome old new held bad bad_now octets text text_now status
  settles_by old new held bad bad_now octets added text text_now status is whole = record {
    added = added;
    text_is = is;
    whole = λ first seen printed heard rest. ap reply_of (whole first seen printed heard rest);
    told = λ first seen printed heard rest.
        record { left_is = ap (λ (o : Outcome H). o.left) (whole first seen printed heard rest); bad_is = ap (λ (o : Outcome H). o.bad) (whole first seen printed heard rest) };
  }

  -- ---- one step

  -- octets that end no line
  pub steps_more : (hearer : H) (old new : Held) (bad : Option ℕ) (octets text : List ℕ) → cutter.CutsOctets old new octets [] → (IsBegun old → IsBegun new)
      → room_of new + length octets ≤ room_of old → TakesOn outcome hearer hearer old new bad bad octets text text
  steps_more hearer old new bad octets text takes begun room = record {
    goes = goes_by hearer hearer old new bad bad octets [] text text (sym (append-nil text)) (λ first seen printed heard.
        let same : new.number ≡ old.number = let n = takes.number in omega arith in
        rw (append-nil printed) (record {
          lines = heard.lines;
          cuts = rw append-nil at (takes.cuts seen heard.lines heard.cuts);
          number = same ∙ heard.number;
          begun = begun heard.begun;
          goes = λ more. rw same (heard.goes more);
          none_bad = heard.none_bad;
        }));
    room = room;
  }

  -- octets that end a line, which was heard
  pub steps_heard : (old new : H) (held held_now : Held) (bad : Option ℕ) (octets line text text_now : List ℕ) (number : ℕ) → cutter.CutsOctets held held_now octets (line ∷ [])
      → (IsBegun held → IsBegun held_now) → number ≡ held_now.number → HearsOn outcome old new number line text text_now
      → room_of held_now + length octets ≤ room_of held → TakesOn outcome old new held held_now bad bad octets text text_now
  steps_heard old new held held_now bad octets line text text_now number takes begun is hears room = record {
    goes = goes_by old new held held_now bad bad octets hears.added text text_now hears.text_is (λ first seen printed heard.
        let next : number ≡ held.number + 1 = is ∙ takes.number in
        record {
          lines = heard.lines ++ line ∷ [];
          cuts = takes.cuts seen heard.lines heard.cuts;
          number = let n = heard.number in omega (arith, takes.number, length-append heard.lines (line ∷ []));
          begun = begun heard.begun;
          goes = λ more.
              ap (outcome first 1) (append_assoc heard.lines (line ∷ []) more) ∙ heard.goes (line ∷ more)
              ∙ ap (λ (n : ℕ). printing printed (outcome old n (line ∷ more))) (sym next)
              ∙ ap (printing printed) (hears.next more)
              ∙ printing_twice printed hears.added (outcome new (number + 1) more)
              ∙ ap (λ (n : ℕ). printing (printed ++ hears.added) (outcome new (n + 1) more)) is;
          none_bad = heard.none_bad;
        });
    room = room;
  }

  -- what comes of an input whose next line is this one
  next_line : (first old : H) (held held_now : Held) (bad : Option ℕ) (octets line seen printed rest : List ℕ) (taken number : ℕ) → HasHeard outcome first old held bad seen printed
      → cutter.CutsOctets held held_now (take taken octets) (line ∷ []) → number ≡ held_now.number
      → outcome first 1 (lines_of ((seen ++ octets) ++ rest)) ≡ printing printed (outcome old number (line ∷ lines_of (begun_of held_now ++ (drop taken octets ++ rest))))
  next_line first old held held_now bad octets line seen printed rest taken number heard takes is =
      let next : number ≡ held.number + 1 = is ∙ takes.number in
      let split : (seen ++ octets) ++ rest ≡ (seen ++ take taken octets) ++ (drop taken octets ++ rest) =
      ap (λ (all : List ℕ). (seen ++ all) ++ rest) (sym (take-append-drop taken octets)) ∙ regrouped seen (take taken octets) (drop taken octets) rest in
      let others = lines_of (begun_of held_now ++ (drop taken octets ++ rest)) in
      let lines = law (seen ++ take taken octets) (drop taken octets ++ rest) (begun_of held_now) (heard.lines ++ line ∷ []) (takes.cuts seen heard.lines heard.cuts) in
      ap (outcome first 1) (ap lines_of split ∙ lines ∙ append_assoc heard.lines (line ∷ []) others)
      ∙ heard.goes (line ∷ others)
      ∙ ap (λ (n : ℕ). printing printed (outcome old n (line ∷ others))) (sym next)

  -- octets that end a line, which settled the answer
  pub steps_last : (old new : H) (held held_now : Held) (bad : Option ℕ) (octets line text text_now : List ℕ) (taken number : ℕ) (status : Status)
      → cutter.CutsOctets held held_now (take taken octets) (line ∷ []) → number ≡ held_now.number → HearsLast outcome old new number line text text_now status
      → TakesLast outcome old new held bad bad octets text text_now status
  steps_last old new held held_now bad octets line text text_now taken number status takes is hears =
      settles_by old new held bad bad octets hears.added text text_now status hears.text_is (λ first seen printed heard rest.
      next_line first old held held_now bad octets line seen printed rest taken number heard takes is
      ∙ ap (printing printed) (hears.whole (lines_of (begun_of held_now ++ (drop taken octets ++ rest))))
      ∙ ap (λ (b : Option ℕ). record { left = new; text = printed ++ hears.added; bad = b; status = status }) (sym heard.none_bad))

  -- octets that end a line, which is bad
  pub steps_bad : (old mid new : H) (held held_now : Held) (bad bad_now : Option ℕ) (octets line text text_mid text_now : List ℕ) (taken number : ℕ)
      → cutter.CutsOctets held held_now (take taken octets) (line ∷ []) → number ≡ held_now.number → HearsBad outcome old mid number line text text_mid
      → new ≡ mid → bad_now ≡ Some number → text_now ≡ text_mid ++ bad_line number → TakesLast outcome old new held bad bad_now octets text text_now Refused
  steps_bad old mid new held held_now bad bad_now octets line text text_mid text_now taken number takes is hears same that text_is =
      settles_by old new held bad bad_now octets (bad_line number) text text_now Refused (rw (← hears.text_is) text_is) (λ first seen printed heard rest.
      next_line first old held held_now bad octets line seen printed rest taken number heard takes is
      ∙ ap (printing printed) (hears.whole (lines_of (begun_of held_now ++ (drop taken octets ++ rest))))
      ∙ rw (same, hears.same, that) refl)

  -- octets of a line that is beyond the limits
  pub steps_beyond : (old new : H) (held : Held) (bad bad_now : Option ℕ) (octets text text_now : List ℕ) (number : ℕ)
      → ((line : List ℕ) (more : List (List ℕ)) → is_within number line ≡ false → outcome old number (line ∷ more) ≡ bad_outcome old number)
      → number ≡ held.number + 1 → IsBeyond held octets → new ≡ old → bad_now ≡ Some number → text_now ≡ text ++ bad_line number
      → TakesLast outcome old new held bad bad_now octets text text_now Refused
  steps_beyond old new held bad bad_now octets text text_now number beyond is long same that text_is =
      settles_by old new held bad bad_now octets (bad_line number) text text_now Refused text_is (λ first seen printed heard rest.
      let next = long seen rest heard.lines heard.cuts in
      ap (outcome first 1) next.2 ∙ heard.goes (next.0 ∷ next.1)
      ∙ ap (λ (n : ℕ). printing printed (outcome old n (next.0 ∷ next.1))) (sym is)
      ∙ ap (printing printed) (beyond next.0 next.1 (rw is next.3))
      ∙ rw (same, that) refl)

  -- ---- a piece

  pub taken_none : (hearer : H) (held : Held) (bad : Option ℕ) (piece text : List ℕ) → TakenSoFar outcome hearer hearer held held bad bad piece piece text text
  taken_none hearer held bad piece text = record {
    front = [];
    whole = refl;
    takes = record {
      goes = goes_by hearer hearer held held bad bad [] [] text text (sym (append-nil text)) (λ first seen printed heard. rw (append-nil seen, append-nil printed) heard);
      room = omega arith;
    };
  }

  takes_then : (old mid new : H) (held held_mid held_now : Held) (bad bad_mid bad_now : Option ℕ) (front back text text_mid text_now : List ℕ)
      → TakesOn outcome old mid held held_mid bad bad_mid front text text_mid → TakesOn outcome mid new held_mid held_now bad_mid bad_now back text_mid text_now
      → TakesOn outcome old new held held_now bad bad_now (front ++ back) text text_now
  takes_then old mid new held held_mid held_now bad bad_mid bad_now front back text text_mid text_now one two = record {
    goes =
        goes_by old new held held_now bad bad_now (front ++ back) (one.goes.added ++ two.goes.added) text text_now
        (two.goes.text_is ∙ ap (λ (t : List ℕ). t ++ two.goes.added) one.goes.text_is ∙ append_assoc text one.goes.added two.goes.added)
        (λ first seen printed heard.
        rw (← append_assoc seen front back, ← append_assoc printed one.goes.added two.goes.added)
        (two.goes.stands first (seen ++ front) (printed ++ one.goes.added) (one.goes.stands first seen printed heard)));
    room = let a = one.room in let b = two.room in omega (arith, length-append front back);
  }

  pub taken_more : (old mid new : H) (held held_mid held_now : Held) (bad bad_mid bad_now : Option ℕ) (piece rest left text text_mid text_now : List ℕ) (taken : ℕ) → left ≡ drop taken rest
      → TakenSoFar outcome old mid held held_mid bad bad_mid piece rest text text_mid → TakesOn outcome mid new held_mid held_now bad_mid bad_now (take taken rest) text_mid text_now
      → TakenSoFar outcome old new held held_now bad bad_now piece left text text_now
  taken_more old mid new held held_mid held_now bad bad_mid bad_now piece rest left text text_mid text_now taken is so_far takes = record {
    front = so_far.front ++ take taken rest;
    whole =
        so_far.whole ∙ ap (λ (all : List ℕ). so_far.front ++ all) (sym (take-append-drop taken rest))
        ∙ sym (append_assoc so_far.front (take taken rest) (drop taken rest)) ∙ ap (λ (all : List ℕ). (so_far.front ++ take taken rest) ++ all) (sym is);
    takes = takes_then old mid new held held_mid held_now bad bad_mid bad_now so_far.front (take taken rest) text text_mid text_now so_far.takes takes;
  }

  pub taken_all : (old mid new : H) (held held_mid held_now : Held) (bad bad_mid bad_now : Option ℕ) (piece rest text text_mid text_now : List ℕ)
      → TakenSoFar outcome old mid held held_mid bad bad_mid piece rest text text_mid → TakesOn outcome mid new held_mid held_now bad_mid bad_now rest text_mid text_now
      → TakesOn outcome old new held held_now bad bad_now piece text text_now
  taken_all old mid new held held_mid held_now bad bad_mid bad_now piece rest text text_mid text_now so_far takes =
      rw (so_far.whole) (takes_then old mid new held held_mid held_now bad bad_mid bad_now so_far.front rest text text_mid text_now so_far.takes takes)

  pub taken_last : (old mid new : H) (held held_mid : Held) (bad bad_mid bad_now : Option ℕ) (piece rest text text_mid text_now : List ℕ) (status : Status)
      → TakenSoFar outcome old mid held held_mid bad bad_mid piece rest text text_mid → TakesLast outcome mid new held_mid bad_mid bad_now rest text_mid text_now status
      → TakesLast outcome old new held bad bad_now piece text text_now status
  taken_last old mid new held held_mid bad bad_mid bad_now piece rest text text_mid text_now status so_far last =
      let one = so_far.takes.goes in
      rw (so_far.whole) (record {
        added = one.added ++ last.added;
        text_is = last.text_is ∙ ap (λ (t : List ℕ). t ++ last.added) one.text_is ∙ append_assoc text one.added last.added;
        whole = λ first seen printed heard more.
            rw (← append_assoc seen so_far.front rest, ← append_assoc printed one.added last.added)
            (last.whole first (seen ++ so_far.front) (printed ++ one.added) (one.stands first seen printed heard) more);
        told = λ first seen printed heard more.
            rw (← append_assoc seen so_far.front rest)
            (last.told first (seen ++ so_far.front) (printed ++ one.added) (one.stands first seen printed heard) more);
      })

  -- ---- the end

  abbrev pub HasLast : Held → List (List ℕ) → Type 0
  HasLast held last = (text : List ℕ) (lines : List (List ℕ)) → Cuts text lines (begun_of held) → lines_of text ≡ lines ++ last

  -- an input that ends, by what comes of it
  ends_by : (old new : H) (held : Held) (bad bad_now : Option ℕ) (added text text_now : List ℕ) (status : Status) → text_now ≡ text ++ added
      → ((first : H) (seen printed : List ℕ) → HasHeard outcome first old held bad seen printed
      → outcome first 1 (lines_of seen) ≡ record { left = new; text = printed ++ added; bad = bad_now; status = status })
      → Ends (answer_of outcome) (λ first. HasHeard outcome first old held bad) (λ first. HasClosed outcome first new bad_now) text text_now status
  ends_by old new held bad bad_now added text text_now status is whole = record {
    added = added;
    text_is = is;
    whole = λ first seen printed heard. ap reply_of (whole first seen printed heard);
    told = λ first seen printed heard.
        record { left_is = ap (λ (o : Outcome H). o.left) (whole first seen printed heard); bad_is = ap (λ (o : Outcome H). o.bad) (whole first seen printed heard) };
  }

  -- behind a whole line
  pub ends_whole : (old new : H) (held : Held) (bad : Option ℕ) (text text_now : List ℕ) (status : Status) → HasLast held [] → Closes outcome old new text text_now status
      → Ends (answer_of outcome) (λ first. HasHeard outcome first old held bad) (λ first. HasClosed outcome first new bad) text text_now status
  ends_whole old new held bad text text_now status last closes =
      ends_by old new held bad bad closes.added text text_now status closes.text_is (λ first seen printed heard.
      ap (outcome first 1) (last seen heard.lines heard.cuts) ∙ heard.goes [] ∙ ap (printing printed) (closes.whole (held.number + 1))
      ∙ ap (λ (b : Option ℕ). record { left = new; text = printed ++ closes.added; bad = b; status = status }) (sym heard.none_bad))

  -- what comes of an input that ends in this line
  last_line : (first old : H) (held : Held) (bad : Option ℕ) (line seen printed : List ℕ) (number : ℕ) → HasHeard outcome first old held bad seen printed → HasLast held (line ∷ [])
      → number ≡ held.number + 1 → outcome first 1 (lines_of seen) ≡ printing printed (outcome old number (line ∷ []))
  last_line first old held bad line seen printed number heard last is =
      ap (outcome first 1) (last seen heard.lines heard.cuts) ∙ heard.goes (line ∷ [])
      ∙ ap (λ (n : ℕ). printing printed (outcome old n (line ∷ []))) (sym is)

  pub ends_line : (old mid new : H) (held : Held) (bad : Option ℕ) (line text text_mid text_now : List ℕ) (number : ℕ) (status : Status) → HasLast held (line ∷ []) → number ≡ held.number + 1
      → HearsOn outcome old mid number line text text_mid → Closes outcome mid new text_mid text_now status
      → Ends (answer_of outcome) (λ first. HasHeard outcome first old held bad) (λ first. HasClosed outcome first new bad) text text_now status
  ends_line old mid new held bad line text text_mid text_now number status last is hears closes =
      ends_by old new held bad bad (hears.added ++ closes.added) text text_now status
      (closes.text_is ∙ ap (λ (t : List ℕ). t ++ closes.added) hears.text_is ∙ append_assoc text hears.added closes.added)
      (λ first seen printed heard.
      last_line first old held bad line seen printed number heard last is
      ∙ ap (printing printed) (hears.next [] ∙ ap (printing hears.added) (closes.whole (number + 1)))
      ∙ ap (λ (b : Option ℕ). record { left = new; text = printed ++ (hears.added ++ closes.added); bad = b; status = status }) (sym heard.none_bad))

  pub ends_last : (old new : H) (held : Held) (bad : Option ℕ) (line text text_now : List ℕ) (number : ℕ) (status : Status) → HasLast held (line ∷ []) → number ≡ held.number + 1
      → HearsLast outcome old new number line text text_now status
      → Ends (answer_of outcome) (λ first. HasHeard outcome first old held bad) (λ first. HasClosed outcome first new bad) text text_now status
  ends_last old new held bad line text text_now number status last is hears =
      ends_by old new held bad bad hears.added text text_now status hears.text_is (λ first seen printed heard.
      last_line first old held bad line seen printed number heard last is ∙ ap (printing printed) (hears.whole [])
      ∙ ap (λ (b : Option ℕ). record { left = new; text = printed ++ hears.added; bad = b; status = status }) (sym heard.none_bad))

  pub ends_bad : (old new : H) (held : Held) (bad : Option ℕ) (line text text_mid text_now : List ℕ) (number : ℕ) → HasLast held (line ∷ []) → number ≡ held.number + 1
      → HearsBad outcome old new number line text text_mid → text_now ≡ text_mid ++ bad_line number
      → Ends (answer_of outcome) (λ first. HasHeard outcome first old held bad) (λ first. HasClosed outcome first new (Some number)) text text_now Refused
  ends_bad old new held bad line text text_mid text_now number last is hears text_is =
      ends_by old new held bad (Some number) (bad_line number) text text_now Refused (rw (← hears.text_is) text_is) (λ first seen printed heard.
      last_line first old held bad line seen printed number heard last is ∙ ap (printing printed) (hears.whole []) ∙ rw (hears.same) refl)

  -- and this is known of the hearer that is left
  pub settles_with : (P : Type 0) (old new : H) (held : Held) (bad bad_now : Option ℕ) (octets text text_now : List ℕ) (status : Status) → P
      → TakesLast outcome old new held bad bad_now octets text text_now status
      → Settles (answer_of outcome) (λ first. HasHeard outcome first old held bad) (λ first input. HasClosed outcome first new bad_now input × P) octets text text_now status
  settles_with P old new held bad bad_now octets text text_now status p last = record {
    added = last.added;
    text_is = last.text_is;
    whole = last.whole;
    told = λ first seen printed heard rest. (last.told first seen printed heard rest, p);
  }

  pub ends_with : (P : Type 0) (old new : H) (held : Held) (bad bad_now : Option ℕ) (text text_now : List ℕ) (status : Status) → P
      → Ends (answer_of outcome) (λ first. HasHeard outcome first old held bad) (λ first. HasClosed outcome first new bad_now) text text_now status
      → Ends (answer_of outcome) (λ first. HasHeard outcome first old held bad) (λ first input. HasClosed outcome first new bad_now input × P) text text_now status
  ends_with P old new held bad bad_now text text_now status p ends = record {
    added = ends.added;
    text_is = ends.text_is;
    whole = ends.whole;
    told = λ first seen printed heard. (ends.told first seen printed heard, p);
  }
