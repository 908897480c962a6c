-- A session over a link: its talk, and its Close.
use Rattle.std.proofs.Common.{◌≡◌, ◌≤◌, ◌==◌, ◌&&◌, ◌||◌, ◌⊎◌, ℕ, List, [], ◌∷◌, ◌++◌, map, Bool, true, false, if◌then◌else◌, Option, Some, None, IfSome, inl, inr, refl, sym, ap, ◌∙◌, subst, arith, append_assoc}
use Rattle.std.specs.Prelude.{IsSomeAnd}
use Rattle.std.specs.Option.{option_to_list}
use Rattle.std.proofs.lemmas.Bool.{false≢true}
use Rattle.std.proofs.lemmas.List.{append-nil, reverse-append}
use Rattle.std.proofs.KnownBytes.{Appends-nil, Consumes-nil}
use mathlib.Core.List.{IsPrefix}
use Rattle.jt_outside.specs.Link.{Wire}
use Rattle.jt_stream.specs.Unplaced.{Unplaced, items}
use Rattle.jt_turn.specs.declared.entry.Entry.{Entry as Turned}
use Rattle.jt_turn.specs.Histories.{entries_of, entry_if}
use Rattle.jt_turn.specs.Passes.{PassState}
use Rattle.jt_platform.specs.Allowed.{Opening, makes_entry}
use Rattle.jt_platform.specs.Desks.{Gives, as_entry}
use Rattle.jt_platform.specs.History.{closed, is_close, newest}
use Rattle.jt_platform.specs.declared.request.Entry.{Entry}
use Rattle.jt_platform.specs.declared.request.Request.{Request}
use Rattle.jt_platform.specs.declared.request.Request.TheVariants as ask
use Rattle.jt_platform.specs.declared.request.Reply.{Reply}
use Rattle.jt_platform.specs.declared.request.Reply.TheVariants as say
use Rattle.jt_value.proofs.OctetLists.{AreOctets-nil}
use Rattle.jt_session.specs.declared.end.End.{End}
use Rattle.jt_session.specs.declared.end.End.TheVariants as ends
use Rattle.jt_session.specs.declared.end.Fed.{Fed}
use Rattle.jt_session.specs.declared.end.Fed.TheVariants.{On, Stop}
use Rattle.jt_session.specs.declared.report.Report.{Report}
use Rattle.jt_session.specs.Talk.{Way, Goes, Stops, Turn, Talked, FitsFrom, IsReplied, asks, at_state, items_of, start, talk_from, turn_on}
use Rattle.jt_session.specs.Sessions.{Seen, before, end_by, end_of, feed_end}
use Rattle.jt_session.specs.Sessions as sessions
use Rattle.jt_session.specs.TurnLaw.{IsNew}
use Rattle.jt_session.specs.Hearing.{IsFilled, acts_on, last_asked}
use Rattle.jt_session.specs.Serving.{AreNoCloses, Converses, HasCause, Names, Serves, ServesUpTo, close_of, newest_reply}
use Rattle.jt_session.proofs.Ending.{turns_end}
use Rattle.jt_session.proofs.Hubs.{asks_no_close}
use Rattle.jt_session.proofs.Onward.{all_or_over, begun}

-- ---- no request is a Close

way_open : (k : Talked) (item : Unplaced) (asked : Option Request) (way : Way) → asks k.state item ≡ asked → AreNoCloses k.entries → AreNoCloses (turn_on k item asked way).entries
way_open k item None (Goes None) e are = are
way_open k item None (Goes (Some r)) e are = are
way_open k item None (Stops None) e are = are
way_open k item None (Stops (Some r)) e are = are
way_open k item (Some q) (Goes None) e are = are
way_open k item (Some q) (Goes (Some r)) e are = (asks_no_close k.state item q e, are)
way_open k item (Some q) (Stops None) e are = are
way_open k item (Some q) (Stops (Some r)) e are = are

turns_open : (k : Talked) (turns : List Turn) → AreNoCloses k.entries → AreNoCloses (talk_from k turns).entries
turns_open k [] are = are
turns_open k (t ∷ older) are = way_open (talk_from k older) t.item (asks (talk_from k older).state t.item) t.way refl (turns_open k older are)

abbrev OpenAll : List (Turned Request Reply) → Type 0
OpenAll [] = Unit {0}
OpenAll (e ∷ es) = (is_close e.ask ≡ false) × OpenAll es

open_append : (a b : List (Turned Request Reply)) → OpenAll a → OpenAll b → OpenAll (a ++ b)
open_append [] b of_a of_b = of_b
open_append (e ∷ a) b of_a of_b = (of_a.0, open_append a b of_a.1 of_b)

acts_open : (n : ℕ) (asked : List (Request × Reply)) → AreNoCloses asked → OpenAll (acts_on n asked)
acts_open n [] are = tt
acts_open n (pair ∷ older) are = open_append (acts_on n older) (record { number = n; ask = pair.0; answer = pair.1 } ∷ []) (acts_open n older are.1) (are.0, tt)

or_false : (a b : Bool) → (a || b) ≡ false → (a ≡ false) × (b ≡ false)
or_false true b e = absurd (false≢true (sym e))
or_false false b e = (refl, e)

unclosed_append : (a b : List Entry) (n : ℕ) → closed a n ≡ false → closed b n ≡ false → closed (a ++ b) n ≡ false
unclosed_append [] b n of_a of_b = of_b
unclosed_append (e ∷ a) b n of_a of_b =
    let parts = or_false ((e.session == n) && is_close e.request) (closed a n) of_a in
    rw parts.0 (unclosed_append a b n parts.1 of_b)

one_unclosed : (b : Bool) (e : Turned Request Reply) (es : List (Turned Request Reply)) (n : ℕ) → (e.number == n) ≡ b → OpenAll (if b then e ∷ es else es) → (closed (as_entry e ∷ []) n ≡ false) × OpenAll es
one_unclosed true e es n is are = (rw (is, are.0) refl, are.1)
one_unclosed false e es n is are = (rw is refl, are)

pub unclosed : (found : List (Turned Request Reply)) (n : ℕ) → OpenAll (entries_of n found) → closed (newest (map as_entry found)) n ≡ false
unclosed [] n are = refl
unclosed (e ∷ found) n are =
    let one = one_unclosed (e.number == n) e (entries_of n found) n refl are in
    ap (λ h. closed h n) (reverse-append (as_entry e ∷ []) (map as_entry found)) ∙ unclosed_append (newest (map as_entry found)) (as_entry e ∷ []) n (unclosed found n one.1) one.0

-- ---- Fenced exactly where the newest entry is so answered

fed_fenced : (r : Reply) (n : ℕ) → feed_end r ≡ Stop (ends.Fenced n) → r ≡ say.Fenced n
fed_fenced (say.Registered code) n e = absurd cc
fed_fenced (say.Denied m) n e = absurd cc
fed_fenced say.Accepted n e = absurd cc
fed_fenced (say.Stored m) n e = absurd cc
fed_fenced (say.Repeat m) n e = absurd cc
fed_fenced (say.Renumbered m) n e = absurd cc
fed_fenced say.NotLive n e = absurd cc
fed_fenced (say.Fenced other) n e = cc
fed_fenced (say.ListFull l) n e = absurd cc
fed_fenced say.StoreFault n e = absurd cc
fed_fenced say.Memory n e = absurd cc

some_in : (r s : Reply) → Some r ≡ Some s → r ≡ s
some_in r s e = cc

no_some : (s : Reply) (P : Type 0) → None ≡ Some s → P
no_some s P e = absurd cc

on_no_stop : (n : ℕ) (P : Type 0) → On ≡ Stop (ends.Fenced n) → P
on_no_stop n P e = absurd cc

short_no_fence : (n : ℕ) (P : Type 0) → Stop ends.Memory ≡ Stop (ends.Fenced n) → P
short_no_fence n P e = absurd cc

fenced_enters : (r : Reply) (n : ℕ) → r ≡ say.Fenced n → makes_entry r ≡ true
fenced_enters r n e = ap makes_entry e

way_fenced : (k : Talked) (item : Unplaced) (asked : Option Request) (way : Way) (n : ℕ) → IsReplied item asked way → end_by way ≡ Stop (ends.Fenced n) → newest_reply (turn_on k item asked way).entries ≡ Some (say.Fenced n)
way_fenced k item None (Goes None) n replied e = on_no_stop n (newest_reply (turn_on k item None (Goes None)).entries ≡ Some (say.Fenced n)) e
way_fenced k item None (Goes (Some r)) n replied e = absurd replied
way_fenced k item None (Stops None) n replied e = short_no_fence n (newest_reply (turn_on k item None (Stops None)).entries ≡ Some (say.Fenced n)) e
way_fenced k item None (Stops (Some r)) n replied e = absurd replied
way_fenced k item (Some q) (Goes None) n replied e = absurd replied
way_fenced k item (Some q) (Goes (Some r)) n replied e = ap Some (fed_fenced r n e)
way_fenced k item (Some q) (Stops None) n replied e = short_no_fence n (newest_reply (turn_on k item (Some q) (Stops None)).entries ≡ Some (say.Fenced n)) e
way_fenced k item (Some q) (Stops (Some r)) n replied e = absurd (false≢true (sym replied ∙ fenced_enters r n (fed_fenced r n e)))

end_newest : (k : Talked) (turns : List Turn) (n : ℕ) → FitsFrom k turns → end_of turns ≡ Stop (ends.Fenced n) → newest_reply (talk_from k turns).entries ≡ Some (say.Fenced n)
end_newest k [] n fits e = on_no_stop n (newest_reply k.entries ≡ Some (say.Fenced n)) e
end_newest k (t ∷ older) n fits e = way_fenced (talk_from k older) t.item (asks (talk_from k older).state t.item) t.way n fits.1 e

newest_way : (k : Talked) (item : Unplaced) (asked : Option Request) (way : Way) (n : ℕ) → IsReplied item asked way → (newest_reply k.entries ≡ Some (say.Fenced n) → ⊥) → newest_reply (turn_on k item asked way).entries ≡ Some (say.Fenced n) → end_by way ≡ Stop (ends.Fenced n)
newest_way k item None (Goes None) n replied never e = absurd (never e)
newest_way k item None (Goes (Some r)) n replied never e = absurd replied
newest_way k item None (Stops None) n replied never e = absurd (never e)
newest_way k item None (Stops (Some r)) n replied never e = absurd replied
newest_way k item (Some q) (Goes None) n replied never e = absurd replied
newest_way k item (Some q) (Goes (Some r)) n replied never e = ap feed_end (some_in r (say.Fenced n) e)
newest_way k item (Some q) (Stops None) n replied never e = absurd (never e)
newest_way k item (Some q) (Stops (Some r)) n replied never e = absurd (never e)

newest_end : (k : Talked) (turns : List Turn) (n : ℕ) → k.entries ≡ [] → k.over ≡ false → FitsFrom k turns → newest_reply (talk_from k turns).entries ≡ Some (say.Fenced n) → end_of turns ≡ Stop (ends.Fenced n)
newest_end k [] n none on fits e = no_some (say.Fenced n) (On ≡ Stop (ends.Fenced n)) (ap newest_reply (sym none) ∙ e)
newest_end k (t ∷ older) n none on fits e =
    newest_way (talk_from k older) t.item (asks (talk_from k older).state t.item) t.way n fits.1
    (λ so. on_no_stop n ⊥ (sym ((turns_end k older fits.2 on).0 fits.0) ∙ newest_end k older n none on fits.2 so)) e

names_fenced : (end : End) (n : ℕ) → end ≡ ends.Fenced n → (fed : Fed) → Names end fed → fed ≡ Stop (ends.Fenced n)
names_fenced end n is fed named = subst (λ x. Names x fed) is named

named_fenced : (end : End) (n : ℕ) (fed : Fed) → fed ≡ Stop (ends.Fenced n) → Names end fed → (end ≡ ends.Fenced n) ⊎ (end ≡ ends.LinkFault)
named_fenced ends.Ended n fed e named = on_no_stop n ((ends.Ended ≡ ends.Fenced n) ⊎ (ends.Ended ≡ ends.LinkFault)) (sym named ∙ e)
named_fenced ends.LinkFault n fed e named = inr refl
named_fenced ends.Idle n fed e named = on_no_stop n ((ends.Idle ≡ ends.Fenced n) ⊎ (ends.Idle ≡ ends.LinkFault)) (sym named ∙ e)
named_fenced ends.Spent n fed e named = on_no_stop n ((ends.Spent ≡ ends.Fenced n) ⊎ (ends.Spent ≡ ends.LinkFault)) (sym named ∙ e)
named_fenced (ends.Fenced other) n fed e named = inl (let same = sym named ∙ e in cc)
named_fenced ends.StoreFault n fed e named = absurd (let same = sym named ∙ e in cc)
named_fenced (ends.ListFull l) n fed e named = absurd (let same = sym named ∙ e in cc)
named_fenced ends.Memory n fed e (inl named) = on_no_stop n ((ends.Memory ≡ ends.Fenced n) ⊎ (ends.Memory ≡ ends.LinkFault)) (sym named ∙ e)
named_fenced ends.Memory n fed e (inr named) = short_no_fence n ((ends.Memory ≡ ends.Fenced n) ⊎ (ends.Memory ≡ ends.LinkFault)) (sym named ∙ e)

names_full : (end : End) (l : ℕ) → end ≡ ends.ListFull l → (fed : Fed) → Names end fed → fed ≡ Stop (ends.ListFull l)
names_full end l is fed named = subst (λ x. Names x fed) is named

-- ---- up to the Close

module _ {O : Type 0} (o : Option Opening) (octets : ℕ) (pass pass_now : PassState Request Reply O) (link link_now : Wire) (report : Report) where
  pub served_up_to : items [] ≡ [] → (s now : Seen) → IsNew s → now.waiting ≡ None → Converses o octets s now pass pass_now link link_now report.read report.written report.end → report.session ≡ pass.number → (report.frames, report.refused, report.dropped) ≡ sessions.counts now.state
      → ServesUpTo o octets pass pass_now link link_now report
  served_up_to empty s now new free did session counted =
      let h = did.hears in
      let turns : List Turn = h.turns in
      let same : before s ≡ at_state start = begun s new in
      let found = h.went.items [] [] AreOctets-nil new.stream (empty ∙ ap option_to_list (sym new.waiting)) in
      let fits : FitsFrom (at_state start) turns = subst (λ k. FitsFrom k turns) same h.went.fits in
      let named : Names report.end (end_of turns) = subst (λ f. Names report.end f) h.ended did.named in record {
        taken = did.taken;
        asked = (talk_from (at_state start) turns).entries;
        said = did.said;
        talk = record {
          turns = turns;
          fits = fits;
          rest = found.0;
          items = found.1 ∙ ap (λ w. items_of turns ++ (option_to_list w ++ found.0)) free;
          all = all_or_over now.over found.0 (talk_from (at_state start) turns) (λ on. (found.2 on).0) (h.went.over ∙ ap (λ k. (talk_from k turns).over) same);
          entries_are = refl;
          written_are = h.wrote ∙ ap (λ k. (talk_from k turns).written) same;
        };
        gives = did.gives;
        read = did.read_is;
        within = did.within;
        wrote = did.wrote;
        writes = did.writes;
        written = did.written_is;
        front = did.front;
        whole = did.whole;
        entries = h.entries ∙ ap (λ k. pass.mine ++ acts_on pass.number (talk_from k turns).entries) same;
        closes = turns_open (at_state start) turns tt;
        session = session;
        counted = counted ∙ (h.went.counted ∙ ap (λ k. sessions.counts (talk_from k turns).state) same);
        cause = did.cause;
        named = named;
        fenced = λ other. (
          λ is. end_newest (at_state start) turns other fits (names_fenced report.end other is (end_of turns) named),
          λ is. named_fenced report.end other (end_of turns) (newest_end (at_state start) turns other refl refl fits is) named,
        );
        full = λ l is. subst (λ k. IfSome o (λ o. IsFilled o pass_now.seen (last_asked k turns) l)) same (h.full l (names_full report.end l is did.fed did.named));
      }

-- a session that could not begin
pub none_served : {O : Type 0} → items [] ≡ [] → (o : Option Opening) (octets : ℕ) (pass : PassState Request Reply O) (link : Wire) → ServesUpTo o octets pass pass link link (record { session = pass.number; read = 0; written = 0; frames = 0; refused = 0; dropped = 0; end = ends.Memory })
none_served empty o octets pass link = record {
  taken = [];
  asked = [];
  said = [];
  talk = record { turns = []; fits = tt; rest = []; items = empty; all = inl refl; entries_are = refl; written_are = refl };
  gives = record { left = Consumes-nil link.inbound.left; taken = Appends-nil link.inbound.taken };
  read = refl;
  within = omega arith;
  wrote = [];
  writes = Appends-nil link.written;
  written = refl;
  front = ([], refl);
  whole = λ ne. refl;
  entries = sym (append-nil pass.mine);
  closes = tt;
  session = refl;
  counted = refl;
  cause = tt;
  named = inl refl;
  fenced = λ other. (λ is. absurd (let e = is in cc), λ is. no_some (say.Fenced other) ((ends.Memory ≡ ends.Fenced other) ⊎ (ends.Memory ≡ ends.LinkFault)) is);
  full = λ l is. absurd (let e = is in cc);
}

-- ---- the Close

owed_in : {X : Type 0} (opening : Option X) (os : X → Opening) (reserved : X → ℕ) (found : List (Turned Request Reply)) (before now session : ℕ) (r : Reply) → 1 ≤ session → IsSomeAnd opening (λ o. session ≤ reserved o) → closed (newest (map as_entry found)) session ≡ false
    → IfSome opening (λ o. Gives (os o) (reserved o) found before now session ask.Close r) → r ≡ say.Accepted
owed_in None os reserved found before now session r from upto free given = absurd upto
owed_in (Some o) os reserved found before now session r from upto free given = given.close refl (record { from = from; upto = upto; unclosed = free })

accepted_enters : (r : Reply) (n : ℕ) → r ≡ say.Accepted → entry_if (makes_entry r) n ask.Close r ≡ close_of n ∷ []
accepted_enters r n e = ap (λ x. entry_if (makes_entry x) n ask.Close x) e

later_cause : {O : Type 0} (end : End) (octets read : ℕ) (link link_now : Wire) (pass pass_mid pass_now : PassState Request Reply O) → pass_mid.failed ≤ pass_now.failed → pass_mid.faults ≤ pass_now.faults → HasCause end octets read link link_now pass pass_mid → HasCause end octets read link link_now pass pass_now
later_cause ends.Ended octets read link link_now pass pass_mid pass_now failed faults cause = cause
later_cause ends.LinkFault octets read link link_now pass pass_mid pass_now failed faults cause = cause
later_cause ends.Idle octets read link link_now pass pass_mid pass_now failed faults cause = cause
later_cause ends.Spent octets read link link_now pass pass_mid pass_now failed faults cause = cause
later_cause (ends.Fenced other) octets read link link_now pass pass_mid pass_now failed faults cause = tt
later_cause ends.StoreFault octets read link link_now pass pass_mid pass_now failed faults (inl less) = inl (omega (arith, less, failed))
later_cause ends.StoreFault octets read link link_now pass pass_mid pass_now failed faults (inr all) = inr (omega (arith, all, faults))
later_cause (ends.ListFull l) octets read link link_now pass pass_mid pass_now failed faults cause = tt
later_cause ends.Memory octets read link link_now pass pass_mid pass_now failed faults cause = tt

prefix_then : {X : Type 0} (a b c rest : List X) → IsPrefix a b → IsPrefix b c → IsPrefix a (c ++ rest)
prefix_then a b c rest first second = (first.0 ++ (second.0 ++ rest), λ i. (sym (append_assoc a first.0 (second.0 ++ rest)) ∙ (ap (λ l. l ++ (second.0 ++ rest)) (λ j. first.1 j) ∙ (sym (append_assoc b second.0 rest) ∙ ap (λ l. l ++ rest) (λ j. second.1 j)))) i)

filled_later : (o : Option Opening) (seen found rest seen_now : List (Turned Request Reply)) (q : Option Request) (l : ℕ) → IsPrefix seen found → seen_now ≡ found ++ rest → IfSome o (λ o. IsFilled o seen q l) → IfSome o (λ o. IsFilled o seen_now q l)
filled_later None seen found rest seen_now q l front is full = tt
filled_later (Some o) seen found rest seen_now q l front is full = record {
  found = full.found;
  front = subst (λ x. IsPrefix full.found x) (sym is) (prefix_then full.found seen found rest full.front front);
  phone = full.phone;
  serial = full.serial;
  id = full.id;
  octets = full.octets;
  asked = full.asked;
  limit = full.limit;
  rows = full.rows;
}

module _ {O : Type 0} (o : Option Opening) (octets : ℕ) (pass mid pass_now : PassState Request Reply O) (link link_now : Wire) (report : Report) (up_to : ServesUpTo o octets pass mid link link_now report) where
  mine_open : mid.number ≡ pass.number → pass.mine ≡ [] → entries_of mid.number pass_now.found ≡ mid.mine → OpenAll (entries_of mid.number pass_now.found)
  mine_open number new own = subst OpenAll (sym (own ∙ (up_to.entries ∙ ap (λ m. m ++ acts_on pass.number up_to.asked) new))) (acts_open pass.number up_to.asked up_to.closes)

  pub serves_closed : {X : Type 0} (opening : Option X) (os : X → Opening) (reserved : X → ℕ) (r : Reply) → mid.number ≡ pass.number → pass.mine ≡ [] → 1 ≤ mid.number → IsSomeAnd opening (λ x. mid.number ≤ reserved x)
      → entries_of mid.number pass_now.found ≡ mid.mine → IfSome opening (λ x. Gives (os x) (reserved x) pass_now.found pass_now.found_faults pass_now.faults mid.number ask.Close r)
      → pass_now.mine ≡ mid.mine ++ entry_if (makes_entry r) mid.number ask.Close r → pass_now.seen ≡ pass_now.found ++ entry_if (makes_entry r) mid.number ask.Close r → IsPrefix mid.seen pass_now.found
      → mid.failed ≤ pass_now.failed → mid.faults ≤ pass_now.faults → Serves o octets pass pass_now link link_now report
  serves_closed opening os reserved r number new from upto own given mine seen front failed faults =
      let accepted : r ≡ say.Accepted = owed_in opening os reserved pass_now.found pass_now.found_faults pass_now.faults mid.number r from upto (unclosed pass_now.found mid.number (mine_open number new own)) given in record {
        taken = up_to.taken;
        asked = up_to.asked;
        said = up_to.said;
        talk = up_to.talk;
        gives = up_to.gives;
        read = up_to.read;
        within = up_to.within;
        wrote = up_to.wrote;
        writes = up_to.writes;
        written = up_to.written;
        front = up_to.front;
        whole = up_to.whole;
        entries =
            mine ∙ (ap (λ l. mid.mine ++ l) (accepted_enters r mid.number accepted) ∙ (ap (λ l. l ++ close_of mid.number ∷ []) (up_to.entries ∙ ap (λ m. m ++ acts_on pass.number up_to.asked) new)
            ∙ ap (λ n. acts_on pass.number up_to.asked ++ close_of n ∷ []) number));
        session = up_to.session;
        counted = up_to.counted;
        cause = later_cause report.end octets report.read link link_now pass mid pass_now failed faults up_to.cause;
        named = up_to.named;
        fenced = up_to.fenced;
        full = λ l is. filled_later o mid.seen pass_now.found (entry_if (makes_entry r) mid.number ask.Close r) pass_now.seen (last_asked (at_state start) up_to.talk.turns) l front seen (up_to.full l is);
      }
