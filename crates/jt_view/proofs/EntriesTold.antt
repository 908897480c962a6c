-- Entries told one after another.
use Rattle.std.proofs.Common.{◌≡◌, ◌≤◌, ℕ, ◌+◌, List, [], ◌∷◌, ◌++◌, Option, Some, None, length, take, drop, refl, sym, ap, subst, ◌∙◌, arith, append_assoc, append-nil, length-drop}
use Rattle.std.proofs.lemmas.List.Concat.{flat_map-append}
use Rattle.std.proofs.lemmas.List.{take_all, take-append-drop}
use Rattle.std.proofs.Math.Seq.{take-add}
use Rattle.std.specs.Prelude.{option_to_list}
use Rattle.jt_value.specs.declared.refusal.Refusal.{Refusal}
use Rattle.jt_stream.specs.Item.{Item, all_items}
use Rattle.jt_view.specs.declared.command.Report.TheVariants.{View, Check}
use Rattle.jt_view.specs.Entry.{Entry, Frame, Refused, line_of, lines, entries_of, first_refusal}
use Rattle.jt_text.specs.Refusals.{refusal_line}
use Rattle.jt_view.specs.Reporting.{Tally, CountsEntries, Brings, GoesOn, TellsOn, TellsLast}
use Rattle.jt_view.proofs.Counting.{entries_of-front}

-- ---- views

-- nothing was taken
pub viewed_none : (tally : Tally) (text : List ℕ) → TellsOn View tally tally [] text text
viewed_none tally text = record {
  added = [];
  text_is = sym (append-nil text);
  counts = λ before counts. rw append-nil counts;
  goes_on = λ before counts goes. tt;
  printed = λ before counts. rw append-nil (sym (append-nil (lines (entries_of before))));
}

-- some octets were taken, and then some that brought an entry or none
pub viewed_then : (old now next : Tally) (octets more text text_now text_next : List ℕ) (entry : Option Entry)
    → TellsOn View old now octets text text_now → Brings now next more entry → text_next ≡ text_now ++ lines (option_to_list entry)
    → TellsOn View old next (octets ++ more) text text_next
viewed_then old now next octets more text text_now text_next entry so_far brings is = record {
  added = so_far.added ++ lines (option_to_list entry);
  text_is = rw (is, so_far.text_is) (append_assoc text so_far.added (lines (option_to_list entry)));
  counts = λ before counts. rw (← append_assoc) (brings.counts (before ++ octets) (so_far.counts before counts));
  goes_on = λ before counts goes. tt;
  printed = λ before counts.
      let first : lines (entries_of (before ++ octets)) ≡ lines (entries_of before) ++ so_far.added = so_far.printed before counts in
      let second : entries_of ((before ++ octets) ++ more) ≡ entries_of (before ++ octets) ++ option_to_list entry = brings.entries (before ++ octets) (so_far.counts before counts) in
      let whole : lines (entries_of (before ++ octets) ++ option_to_list entry) ≡ lines (entries_of (before ++ octets)) ++ lines (option_to_list entry) =
      flat_map-append line_of (entries_of (before ++ octets)) (option_to_list entry) in
      rw (← append_assoc) (ap lines second ∙ whole ∙ ap (λ (xs : List ℕ). xs ++ lines (option_to_list entry)) first ∙ append_assoc (lines (entries_of before)) so_far.added (lines (option_to_list entry)));
}

-- ---- checks

-- some octets were taken and brought no refusal
pub record ChecksOn (old now : Tally) (octets : List ℕ) : Type 0 where
  pub counts : (before : List ℕ) → CountsEntries old before → CountsEntries now (before ++ octets)
  pub goes_on : (before : List ℕ) → CountsEntries old before → GoesOn Check before → GoesOn Check (before ++ octets)

pub checked_none : (tally : Tally) → ChecksOn tally tally []
checked_none tally = record {
  counts = λ before counts. rw append-nil counts;
  goes_on = λ before counts goes. rw append-nil goes;
}

-- no refusal among entries and none behind them
pub first_refusal-append : (xs ys : List Entry) → first_refusal xs ≡ None → first_refusal (xs ++ ys) ≡ first_refusal ys
first_refusal-append [] ys e = refl
first_refusal-append (Frame place header message body_len ∷ xs) ys e = first_refusal-append xs ys e
first_refusal-append (Refused refusal ∷ xs) ys e = absurd (cc)

-- a first refusal stays the first
pub first_refusal-front : (xs ys : List Entry) (refusal : Refusal) → first_refusal xs ≡ Some refusal → first_refusal (xs ++ ys) ≡ Some refusal
first_refusal-front [] ys refusal e = absurd (cc)
first_refusal-front (Frame place header message body_len ∷ xs) ys refusal e = first_refusal-front xs ys refusal e
first_refusal-front (Refused other ∷ xs) ys refusal e = e

pub checked_then : (old now next : Tally) (octets more : List ℕ) (entry : Option Entry)
    → ChecksOn old now octets → Brings now next more entry → first_refusal (option_to_list entry) ≡ None → ChecksOn old next (octets ++ more)
checked_then old now next octets more entry so_far brings clean = record {
  counts = λ before counts. rw (← append_assoc) (brings.counts (before ++ octets) (so_far.counts before counts));
  goes_on = λ before counts goes.
      let second : entries_of ((before ++ octets) ++ more) ≡ entries_of (before ++ octets) ++ option_to_list entry = brings.entries (before ++ octets) (so_far.counts before counts) in
      rw (← append_assoc) (ap first_refusal second ∙ first_refusal-append (entries_of (before ++ octets)) (option_to_list entry) (so_far.goes_on before counts goes) ∙ clean);
}

-- a check that went on to the end of the octets
pub checked_all : (old now : Tally) (octets text : List ℕ) → ChecksOn old now octets → TellsOn Check old now octets text text
checked_all old now octets text so_far = record {
  added = [];
  text_is = sym (append-nil text);
  counts = so_far.counts;
  goes_on = so_far.goes_on;
  printed = λ before counts. refl;
}

-- a check that found a refusal, whatever octets are left
pub checked_last : ((front rest : List ℕ) → (more : List Item) × (all_items (front ++ rest) ≡ all_items front ++ more))
    → (old now next : Tally) (octets more rest all text text_now : List ℕ) (refusal : Refusal)
    → ChecksOn old now octets → Brings now next more (Some (Refused refusal)) → all ≡ (octets ++ more) ++ rest → text_now ≡ text ++ refusal_line refusal
    → TellsLast Check old all text text_now
checked_last fronts old now next octets more rest all text text_now refusal so_far brings whole is = record {
  check = refl;
  refusal = refusal;
  text_is = is;
  first = λ before counts goes.
      let second : entries_of ((before ++ octets) ++ more) ≡ entries_of (before ++ octets) ++ Refused refusal ∷ [] = brings.entries (before ++ octets) (so_far.counts before counts) in
      let found : first_refusal (entries_of ((before ++ octets) ++ more)) ≡ Some refusal =
      ap first_refusal second ∙ first_refusal-append (entries_of (before ++ octets)) (Refused refusal ∷ []) (so_far.goes_on before counts goes) in
      let longer = entries_of-front fronts ((before ++ octets) ++ more) rest in
      let same : before ++ all ≡ ((before ++ octets) ++ more) ++ rest = rw whole (simp append_assoc) in
      rw same (ap first_refusal longer.1 ∙ first_refusal-front (entries_of ((before ++ octets) ++ more)) longer.0 refusal found);
}

-- ---- as far as a loop has come

pub record ViewingOn (old now : Tally) (octets : List ℕ) (at : ℕ) (text text_now : List ℕ) : Type 0 where
  pub within : at ≤ length octets
  pub place : now.stream.splitter.place ≡ old.stream.splitter.place + at
  pub tells : TellsOn View old now (take at octets) text text_now

pub record CheckingOn (old now : Tally) (octets : List ℕ) (at : ℕ) (text text_now : List ℕ) : Type 0 where
  pub within : at ≤ length octets
  pub place : now.stream.splitter.place ≡ old.stream.splitter.place + at
  pub checks : ChecksOn old now (take at octets)
  pub text_is : text_now ≡ text

pub viewing_more : (old now next : Tally) (octets : List ℕ) (at count : ℕ) (text text_now text_next : List ℕ) (entry : Option Entry)
    → ViewingOn old now octets at text text_now → count ≤ length (drop at octets) → next.stream.splitter.place ≡ now.stream.splitter.place + count
    → Brings now next (take count (drop at octets)) entry → text_next ≡ text_now ++ lines (option_to_list entry)
    → ViewingOn old next octets (at + count) text text_next
viewing_more old now next octets at count text text_now text_next entry so_far few place brings is = record {
  within = let most = so_far.within in omega (arith, few, length-drop at octets);
  place = omega (arith, place, so_far.place);
  tells = rw take-add (viewed_then old now next (take at octets) (take count (drop at octets)) text text_now text_next entry so_far.tells brings is);
}

pub checking_more : (old now next : Tally) (octets : List ℕ) (at count : ℕ) (text text_now : List ℕ) (entry : Option Entry)
    → CheckingOn old now octets at text text_now → count ≤ length (drop at octets) → next.stream.splitter.place ≡ now.stream.splitter.place + count
    → Brings now next (take count (drop at octets)) entry → first_refusal (option_to_list entry) ≡ None
    → CheckingOn old next octets (at + count) text text_now
checking_more old now next octets at count text text_now entry so_far few place brings clean = record {
  within = let most = so_far.within in omega (arith, few, length-drop at octets);
  place = omega (arith, place, so_far.place);
  checks = rw take-add (checked_then old now next (take at octets) (take count (drop at octets)) entry so_far.checks brings clean);
  text_is = so_far.text_is;
}

pub checking_done : (old now : Tally) (octets : List ℕ) (at : ℕ) (text text_now : List ℕ)
    → CheckingOn old now octets at text text_now → length octets ≤ at → TellsOn Check old now octets text text_now
checking_done old now octets at text text_now so_far end =
    let all : take at octets ≡ octets = take_all at octets end in
    let whole = subst (λ (xs : List ℕ). ChecksOn old now xs) all so_far.checks in
    subst (λ (t : List ℕ). TellsOn Check old now octets text t) (sym so_far.text_is) (checked_all old now octets text whole)

pub checking_last : ((front rest : List ℕ) → (more : List Item) × (all_items (front ++ rest) ≡ all_items front ++ more))
    → (old now next : Tally) (octets : List ℕ) (at count : ℕ) (text text_now text_next : List ℕ) (refusal : Refusal)
    → CheckingOn old now octets at text text_now → Brings now next (take count (drop at octets)) (Some (Refused refusal)) → text_next ≡ text_now ++ refusal_line refusal
    → TellsLast Check old octets text text_next
checking_last fronts old now next octets at count text text_now text_next refusal so_far brings is =
    let parts : octets ≡ take (at + count) octets ++ drop (at + count) octets = sym (take-append-drop (at + count) octets) in
    let whole : octets ≡ (take at octets ++ take count (drop at octets)) ++ drop (at + count) octets =
    subst (λ (front : List ℕ). octets ≡ front ++ drop (at + count) octets) (take-add at count octets) parts in
    let text_is : text_next ≡ text ++ refusal_line refusal = is ∙ ap (λ (t : List ℕ). t ++ refusal_line refusal) so_far.text_is in
    checked_last fronts old now next (take at octets) (take count (drop at octets)) (drop (at + count) octets) octets text text_next refusal so_far.checks brings whole text_is

pub viewing_none : (tally : Tally) (octets text : List ℕ) → ViewingOn tally tally octets 0 text text
viewing_none tally octets text = record {
  within = omega arith;
  place = omega arith;
  tells = viewed_none tally text;
}

pub checking_none : (tally : Tally) (octets text : List ℕ) → CheckingOn tally tally octets 0 text text
checking_none tally octets text = record {
  within = omega arith;
  place = omega arith;
  checks = checked_none tally;
  text_is = refl;
}

-- an entry that is this refusal
pub only_entry : (entry : Option Entry) (refusal : Refusal) → Some refusal ≡ first_refusal (option_to_list entry) → entry ≡ Some (Refused refusal)
only_entry None refusal e = absurd (cc)
only_entry (Some (Frame place header message body_len)) refusal e = absurd (cc)
only_entry (Some (Refused other)) refusal e = cc
