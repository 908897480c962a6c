-- Entries of a stream, counted as they come.
use Rattle.std.proofs.Common.{◌≡◌, ℕ, ◌+◌, List, [], ◌∷◌, ◌++◌, Option, length, map, sym, ap, subst, ◌∙◌, arith, length-append}
use Rattle.std.proofs.lemmas.List.{map-append}
use Rattle.std.specs.Prelude.{option_to_list}
use Rattle.jt_stream.specs.Item.{Item, Items, all_items}
use Rattle.jt_stream.specs.Stream.{GainsInPlace}
use Rattle.jt_view.specs.Entry.{Entry, Frame, Refused, entry_of, entries_of, frames, refusals}
use Rattle.jt_view.specs.Reporting.{Tally, CountsEntries, Brings, IsCounted}

pub frames-append : (xs ys : List Entry) → frames (xs ++ ys) ≡ frames xs + frames ys
frames-append [] ys = omega arith
frames-append (Frame place header message body_len ∷ xs) ys = let more = frames-append xs ys in omega (arith, more)
frames-append (Refused refusal ∷ xs) ys = frames-append xs ys

pub refusals-append : (xs ys : List Entry) → refusals (xs ++ ys) ≡ refusals xs + refusals ys
refusals-append [] ys = omega arith
refusals-append (Frame place header message body_len ∷ xs) ys = refusals-append xs ys
refusals-append (Refused refusal ∷ xs) ys = let more = refusals-append xs ys in omega (arith, more)

-- the items that octets add to a stream's are the rest of all its items
pub all_items-more : ((stream : List ℕ) (list : List Item) → Items stream list → list ≡ all_items stream)
    → (before octets : List ℕ) (gained : List Item) → Items (before ++ octets) (all_items before ++ gained)
    → all_items (before ++ octets) ≡ all_items before ++ gained
all_items-more only before octets gained items = sym (only (before ++ octets) (all_items before ++ gained) items)

pub entries_of-more : (before octets : List ℕ) (gained : List Item) → all_items (before ++ octets) ≡ all_items before ++ gained
    → entries_of (before ++ octets) ≡ entries_of before ++ map entry_of gained
unfolding entries_of
entries_of-more before octets gained more = ap (map entry_of) more ∙ map-append entry_of (all_items before) gained

-- octets that gained items were taken, and the entry of these was counted
pub brings : ((stream : List ℕ) (list : List Item) → Items stream list → list ≡ all_items stream)
    → (old mid new : Tally) (octets : List ℕ) (gained : List Item) (entry : Option Entry)
    → GainsInPlace old.stream.splitter mid.stream.splitter octets gained → option_to_list entry ≡ map entry_of gained
    → mid.stream.splitter.place ≡ old.stream.splitter.place + length octets
    → mid.frames ≡ old.frames → mid.refused ≡ old.refused → IsCounted mid new entry → Brings old new octets entry
brings only old mid new octets gained entry gains is place frames_kept refused_kept counted =
    let items_more : (before : List ℕ) → CountsEntries old before → all_items (before ++ octets) ≡ all_items before ++ gained =
    λ before counts. all_items-more only before octets gained (gains.items before (all_items before) counts.continues counts.items) in
    let entries_more : (before : List ℕ) → CountsEntries old before → entries_of (before ++ octets) ≡ entries_of before ++ option_to_list entry =
    λ before counts. entries_of-more before octets gained (items_more before counts) ∙ ap (λ (xs : List Entry). entries_of before ++ xs) (sym is) in
    record {
      counts = λ before counts. record {
        continues = rw counted.stream (gains.stands before counts.continues);
        items = subst (λ (list : List Item). Items (before ++ octets) list) (sym (items_more before counts)) (gains.items before (all_items before) counts.continues counts.items);
        place = rw counted.stream (omega (arith, place, counts.place, length-append before octets));
        frames =
            let e = entries_more before counts in
            rw e (omega (arith, counted.frames, frames_kept, counts.frames, frames-append (entries_of before) (option_to_list entry)));
        refused =
            let e = entries_more before counts in
            rw e (omega (arith, counted.refused, refused_kept, counts.refused, refusals-append (entries_of before) (option_to_list entry)));
      };
      entries = entries_more;
    }

-- the entries of a front come first
pub entries_of-front : ((front rest : List ℕ) → (more : List Item) × (all_items (front ++ rest) ≡ all_items front ++ more))
    → (front rest : List ℕ) → (more : List Entry) × (entries_of (front ++ rest) ≡ entries_of front ++ more)
unfolding entries_of
entries_of-front fronts front rest =
    let more = fronts front rest in
    (map entry_of more.0, ap (map entry_of) more.1 ∙ map-append entry_of (all_items front) more.0)
