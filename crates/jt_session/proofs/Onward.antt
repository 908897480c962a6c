-- The laws of turns.
use Rattle.std.proofs.Common.{◌≡◌, ℕ, List, [], ◌++◌, Bool, true, false, ◌⊎◌, None, inl, inr, refl, sym, ap, ◌∙◌, subst, append_assoc}
use Rattle.std.proofs.lemmas.Bool.{false≢true}
use Rattle.std.specs.Option.{option_to_list}
use Rattle.jt_stream.specs.Unplaced.{Unplaced, items}
use Rattle.jt_value.proofs.OctetLists.{AreOctets-nil}
use Rattle.jt_session.specs.Talk.{Turn, Talk, Talked, FitsFrom, at_state, items_of, start, talk_from}
use Rattle.jt_session.specs.Sessions.{Seen, Turns, before}
use Rattle.jt_session.specs.TurnLaw.{IsNew, TurnsGoOn}
use Rattle.jt_session.proofs.Ending.{reply_gains, reply_not_short, turns_end, unasked_entries}
use Rattle.jt_session.proofs.Joining.{both_talk, both_turns, not_short}

abbrev pub FrontFirst : Type 0
FrontFirst = (front rest : List ℕ) → (more : List Unplaced) × (items (front ++ rest) ≡ items front ++ more)

pub turns_beyond : FrontFirst → (s now : Seen) (a b : List ℕ) (turns : List Turn) → now.over ≡ true → Turns s now a turns → Turns s now (a ++ b) turns
turns_beyond front s now a b turns over went = record {
  fits = went.fits;
  state = went.state;
  counted = went.counted;
  over = went.over;
  number = went.number;
  items = λ read gone are stands e.
      let one = went.items read gone are stands e in
      let more = front (read ++ a) b in (
        one.0 ++ more.0,
        ap items (sym (append_assoc read a b)) ∙ (more.1 ∙ (ap (λ l. l ++ more.0) one.1 ∙ (append_assoc gone (items_of turns ++ (option_to_list now.waiting ++ one.0)) more.0
            ∙ ap (λ l. gone ++ l) (append_assoc (items_of turns) (option_to_list now.waiting ++ one.0) more.0 ∙ ap (λ l. items_of turns ++ l) (append_assoc (option_to_list now.waiting) one.0 more.0))))),
        λ open_now. absurd (false≢true (sym open_now ∙ over)),
      );
}

-- all items, or the session is over
pub all_or_over : (over : Bool) (rest : List Unplaced) (k : Talked) → (over ≡ false → rest ≡ []) → over ≡ k.over → (rest ≡ []) ⊎ (k.over ≡ true)
all_or_over true rest k all is = inr (sym is)
all_or_over false rest k all is = inl (all refl)

pub begun : (s : Seen) → IsNew s → before s ≡ at_state start
begun s new = ap (λ state. record { state = state; entries = []; written = []; over = s.over }) new.state ∙ ap (λ over. record { state = start; entries = []; written = []; over = over }) new.over

pub is_talk : items [] ≡ [] → (s now : Seen) (read : List ℕ) (turns : List Turn) → IsNew s → now.waiting ≡ None → Turns s now read turns → Talk read (talk_from (before s) turns).entries (talk_from (before s) turns).written
is_talk empty s now read turns new free went =
    let found = went.items [] [] AreOctets-nil new.stream (empty ∙ ap option_to_list (sym new.waiting)) in
    record {
      turns = turns;
      fits = subst (λ k. FitsFrom k turns) (begun s new) went.fits;
      rest = found.0;
      items = found.1 ∙ ap (λ w. items_of turns ++ (option_to_list w ++ found.0)) free;
      all = all_or_over now.over found.0 (talk_from (at_state start) turns) (λ on. (found.2 on).0) (went.over ∙ ap (λ k. (talk_from k turns).over) (begun s new));
      entries_are = ap (λ k. (talk_from k turns).entries) (begun s new);
      written_are = ap (λ k. (talk_from k turns).written) (begun s new);
    }

pub turns_go_on : FrontFirst → items [] ≡ [] → TurnsGoOn
turns_go_on front empty = record {
  turns = λ s mid now a b older newer are on first second. both_turns s mid now a b older newer first second on are;
  entries = λ s mid now a b older newer on first second. ap (λ (k : Talked). k.entries) (both_talk s mid now a b older newer first second on);
  written = λ s mid now a b older newer on first second. ap (λ (k : Talked). k.written) (both_talk s mid now a b older newer first second on);
  unasked = λ s turns are. unasked_entries (before s) turns are;
  replied = reply_gains;
  ends = λ s turns fits on. turns_end (before s) turns fits on;
  not_short = λ s turns on. not_short (before s) turns on;
  reply_not_short = reply_not_short;
  behind = turns_beyond front;
  talk = is_talk empty;
}
