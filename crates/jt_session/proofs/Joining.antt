-- Turns behind turns.
use Rattle.std.proofs.Common.{◌≡◌, ℕ, List, [], ◌∷◌, ◌++◌, Bool, true, false, Option, Some, None, refl, sym, ap, ◌∙◌, subst, append_assoc}
use Rattle.std.proofs.lemmas.Bool.{false≢true}
use Rattle.std.proofs.lemmas.List.{append-nil, map-append}
use Rattle.std.specs.Option.{option_to_list}
use Rattle.jt_value.specs.Octets.{AreOctets}
use Rattle.jt_escape.specs.Splitter.{StandsFor}
use Rattle.jt_stream.specs.Unplaced.{Unplaced, items}
use Rattle.jt_platform.specs.Allowed.{Opening}
use Rattle.jt_platform.specs.declared.request.Entry.{Entry}
use Rattle.jt_platform.specs.declared.request.Request.{Request}
use Rattle.jt_platform.specs.declared.request.Reply.{Reply}
use Rattle.jt_value.proofs.OctetLists.{AreOctets-append}
use Rattle.jt_session.specs.Law.{ran_short}
use Rattle.jt_session.specs.Talk.{Way, Goes, Stops, Turn, Talked, Turned, turn_on, talk_after_turn, talk_from, turn_without_request, turn_at_reply, asks, frame_said, is_fenced, IsReplied, FitsFrom, items_of}
use Rattle.jt_session.specs.declared.end.Fed.{Fed}
use Rattle.jt_session.specs.declared.end.Fed.TheVariants.{On}
use Rattle.jt_session.specs.Sessions.{Seen, Turns, before, counts, ended_short, entries_on, MayGo, MayTurn, Feeds, end_of}

-- what one talk did, on top of another
abbrev pub onto : Talked → Talked → Talked
onto k j = record j { entries = j.entries ++ k.entries; written = k.written ++ j.written }

turned_onto : (k j : Talked) (t : Turned) (gained : List (Request × Reply)) (over : Bool) → talk_after_turn (onto k j) t gained over ≡ onto k (talk_after_turn j t gained over)
turned_onto k j t gained over =
    ap (λ w. record { state = t.state; entries = gained ++ (j.entries ++ k.entries); written = w; over = over }) (append_assoc k.written j.written (frame_said t.says))
    ∙ ap (λ e. record { state = t.state; entries = e; written = k.written ++ (j.written ++ frame_said t.says); over = over }) (sym (append_assoc gained j.entries k.entries))

turn_onto : (k j : Talked) (item : Unplaced) (asked : Option Request) (way : Way) → turn_on (onto k j) item asked way ≡ onto k (turn_on j item asked way)
turn_onto k j item None (Goes None) = turned_onto k j (turn_without_request j.state item) [] false
turn_onto k j item None (Goes (Some r)) = refl
turn_onto k j item None (Stops None) = refl
turn_onto k j item None (Stops (Some r)) = refl
turn_onto k j item (Some q) (Goes None) = refl
turn_onto k j item (Some q) (Goes (Some r)) = turned_onto k j (turn_at_reply j.state item r) ((q, r) ∷ []) (is_fenced r)
turn_onto k j item (Some q) (Stops None) = refl
turn_onto k j item (Some q) (Stops (Some r)) = turned_onto k j (turn_at_reply j.state item r) [] true

talk_onto : (k j : Talked) (turns : List Turn) → talk_from (onto k j) turns ≡ onto k (talk_from j turns)
talk_onto k j [] = refl
talk_onto k j (t ∷ older) =
    ap (λ (x : Talked). turn_on x t.item (asks x.state t.item) t.way) (talk_onto k j older) ∙ turn_onto k (talk_from j older) t.item (asks (talk_from j older).state t.item) t.way

fits_onto : (k j : Talked) (turns : List Turn) → FitsFrom j turns → FitsFrom (onto k j) turns
fits_onto k j [] fits = tt
fits_onto k j (t ∷ older) fits =
    let same : talk_from (onto k j) older ≡ onto k (talk_from j older) = talk_onto k j older in (
      ap (λ (x : Talked). x.over) same ∙ fits.0,
      subst (λ (x : Talked). IsReplied t.item (asks x.state t.item) t.way) (sym same) fits.1,
      fits_onto k j older fits.2,
    )

-- where memory was wanted the session is over
pub stops_over : (k : Talked) (item : Unplaced) (asked : Option Request) → (turn_on k item asked (Stops None)).over ≡ true
stops_over k item None = refl
stops_over k item (Some q) = refl

pub way_not_short : (k : Talked) (item : Unplaced) (asked : Option Request) (way : Way) → (turn_on k item asked way).over ≡ false → ran_short way ≡ false
way_not_short k item asked (Goes answer) on = refl
way_not_short k item asked (Stops None) on = absurd (false≢true (sym on ∙ stops_over k item asked))
way_not_short k item asked (Stops (Some r)) on = refl

pub not_short : (k : Talked) (turns : List Turn) → (talk_from k turns).over ≡ false → ended_short turns ≡ false
not_short k [] on = refl
not_short k (t ∷ older) on = way_not_short (talk_from k older) t.item (asks (talk_from k older).state t.item) t.way on

newer_not_short : (newer older : List Turn) → ended_short (newer ++ older) ≡ false → ended_short newer ≡ false
newer_not_short [] older none = refl
newer_not_short (t ∷ newer) older none = none

-- newer turns behind older ones
pub talk_append : (k : Talked) (newer older : List Turn) → talk_from k (newer ++ older) ≡ talk_from (talk_from k older) newer
talk_append k [] older = refl
talk_append k (t ∷ newer) older = ap (λ (x : Talked). turn_on x t.item (asks x.state t.item) t.way) (talk_append k newer older)

fits_append : (k : Talked) (newer older : List Turn) → FitsFrom (talk_from k older) newer → FitsFrom k older → FitsFrom k (newer ++ older)
fits_append k [] older fits then_fits = then_fits
fits_append k (t ∷ newer) older fits then_fits =
    let same : talk_from k (newer ++ older) ≡ talk_from (talk_from k older) newer = talk_append k newer older in (
      ap (λ (x : Talked). x.over) same ∙ fits.0,
      subst (λ (x : Talked). IsReplied t.item (asks x.state t.item) t.way) (sym same) fits.1,
      fits_append k newer older fits.2 then_fits,
    )

pub items_append : (newer older : List Turn) → items_of (newer ++ older) ≡ items_of older ++ items_of newer
items_append [] older = sym (append-nil (items_of older))
items_append (t ∷ newer) older = ap (λ l. l ++ t.item ∷ []) (items_append newer older) ∙ append_assoc (items_of older) (items_of newer) (t.item ∷ [])

module _ (s mid now : Seen) (a b : List ℕ) (older newer : List Turn) (first : Turns s mid a older) (second : Turns mid now b newer) (on : mid.over ≡ false) where
  abbrev k : Talked
  k = talk_from (before s) older

  abbrev j : Talked
  j = talk_from (before mid) newer

  pub at_mid : onto k (before mid) ≡ k
  at_mid =
      ap (λ w. record { state = mid.state; entries = k.entries; written = w; over = mid.over }) (append-nil k.written)
      ∙ (ap (λ state. record { state = state; entries = k.entries; written = k.written; over = mid.over }) (first.state (not_short (before s) older (sym first.over ∙ on)))
      ∙ ap (λ over. record { state = k.state; entries = k.entries; written = k.written; over = over }) first.over)

  -- turns behind the older ones see the state that they see alone
  pub state_behind : (rest : List Turn) → (talk_from (before s) (rest ++ older)).state ≡ (talk_from (before mid) rest).state
  state_behind rest = ap (λ (x : Talked). x.state) (talk_append (before s) rest older ∙ (ap (λ x. talk_from x rest) (sym at_mid) ∙ talk_onto k (before mid) rest))

  pub both_talk : talk_from (before s) (newer ++ older) ≡ onto k j
  both_talk = talk_append (before s) newer older ∙ (ap (λ x. talk_from x newer) (sym at_mid) ∙ talk_onto k (before mid) newer)

  pub both_turns : AreOctets a → Turns s now (a ++ b) (newer ++ older)
  both_turns are_a = record {
    fits = fits_append (before s) newer older (subst (λ x. FitsFrom x newer) at_mid (fits_onto k (before mid) newer second.fits)) first.fits;
    state = λ none. second.state (newer_not_short newer older none) ∙ sym (ap (λ (x : Talked). x.state) both_talk);
    counted = second.counted ∙ sym (ap (λ (x : Talked). counts x.state) both_talk);
    over = second.over ∙ sym (ap (λ (x : Talked). x.over) both_talk);
    number = second.number ∙ first.number;
    items = λ read gone are stands e.
        let one = first.items read gone are stands e in
        let open_mid = one.2 on in
        let up_to : items (read ++ a) ≡ (gone ++ items_of older) ++ option_to_list mid.waiting =
        one.1 ∙ (ap (λ r. gone ++ (items_of older ++ (option_to_list mid.waiting ++ r))) open_mid.0
        ∙ (ap (λ w. gone ++ (items_of older ++ w)) (append-nil (option_to_list mid.waiting)) ∙ sym (append_assoc gone (items_of older) (option_to_list mid.waiting)))) in
        let two = second.items (read ++ a) (gone ++ items_of older) (AreOctets-append read a are are_a) open_mid.1 up_to in (
          two.0,
          ap items (sym (append_assoc read a b)) ∙ (two.1 ∙ (append_assoc gone (items_of older) (items_of newer ++ (option_to_list now.waiting ++ two.0))
              ∙ ap (λ l. gone ++ l) (sym (append_assoc (items_of older) (items_of newer) (option_to_list now.waiting ++ two.0)) ∙ ap (λ l. l ++ (option_to_list now.waiting ++ two.0)) (sym (items_append newer older))))),
          λ open_now. ((two.2 open_now).0, subst (λ octets. StandsFor now.stream octets) (append_assoc read a b) (two.2 open_now).1),
        );
  }

-- ---- over a hub

pub end_append : (newer older : List Turn) → end_of older ≡ On → end_of (newer ++ older) ≡ end_of newer
end_append [] older on = on
end_append (t ∷ newer) older on = refl

entries_append : (n : ℕ) (a b : List (Request × Reply)) → entries_on n (a ++ b) ≡ entries_on n a ++ entries_on n b
entries_append n a b = map-append (λ (pair : Request × Reply). record { session = n; request = pair.0; reply = pair.1 }) a b

may_onto : (o : Opening) (h : List Entry) (n : ℕ) (k j : Talked) (turns : List Turn) → MayTurn o (entries_on n k.entries ++ h) n j turns → MayTurn o h n (onto k j) turns
may_onto o h n k j [] may = tt
may_onto o h n k j (t ∷ older) may =
    let same : talk_from (onto k j) older ≡ onto k (talk_from j older) = talk_onto k j older in
    let entries : entries_on n (talk_from (onto k j) older).entries ++ h ≡ entries_on n (talk_from j older).entries ++ (entries_on n k.entries ++ h) =
    ap (λ (x : Talked). entries_on n x.entries ++ h) same ∙ (ap (λ e. e ++ h) (entries_append n (talk_from j older).entries k.entries) ∙ append_assoc (entries_on n (talk_from j older).entries) (entries_on n k.entries) h) in (
      subst (λ e. MayGo o e n (asks (talk_from (onto k j) older).state t.item) t.way) (sym entries)
          (subst (λ (x : Talked). MayGo o (entries_on n (talk_from j older).entries ++ (entries_on n k.entries ++ h)) n (asks x.state t.item) t.way) (sym same) may.0),
      may_onto o h n k j older may.1,
    )

may_append : (o : Opening) (h : List Entry) (n : ℕ) (k : Talked) (newer older : List Turn) → MayTurn o h n (talk_from k older) newer → MayTurn o h n k older → MayTurn o h n k (newer ++ older)
may_append o h n k [] older may then_may = then_may
may_append o h n k (t ∷ newer) older may then_may = (
  subst (λ (x : Talked). MayGo o (entries_on n x.entries ++ h) n (asks x.state t.item) t.way) (sym (talk_append k newer older)) may.0,
  may_append o h n k newer older may.1 then_may,
)

module _ (s mid now : Seen) (a b : List ℕ) (o : Opening) (h h_mid h_now : List Entry) (out out_mid out_now : List ℕ) (fed : Fed) (first : Feeds s mid a o h h_mid out out_mid On) (second : Feeds mid now b o h_mid h_now out_mid out_now fed) (on : mid.over ≡ false) where
  abbrev older : List Turn
  older = first.turns

  abbrev newer : List Turn
  newer = second.turns

  abbrev k' : Talked
  k' = talk_from (before s) older

  abbrev j' : Talked
  j' = talk_from (before mid) newer

  same_talk : talk_from (before s) (newer ++ older) ≡ onto k' j'
  same_talk = both_talk s mid now a b older newer first.went second.went on

  history : entries_on mid.number j'.entries ++ (entries_on s.number k'.entries ++ h) ≡ entries_on s.number (talk_from (before s) (newer ++ older)).entries ++ h
  history =
      ap (λ n. entries_on n j'.entries ++ (entries_on s.number k'.entries ++ h)) first.went.number
      ∙ (sym (append_assoc (entries_on s.number j'.entries) (entries_on s.number k'.entries) h)
      ∙ (ap (λ e. e ++ h) (sym (entries_append s.number j'.entries k'.entries)) ∙ ap (λ (x : Talked). entries_on s.number x.entries ++ h) (sym same_talk)))

  may_then : MayTurn o h s.number k' newer
  may_then =
      subst (λ x. MayTurn o h s.number x newer) (at_mid s mid now a b older newer first.went second.went on)
      (may_onto o h s.number k' (before mid) newer (subst (λ n. MayTurn o (entries_on s.number k'.entries ++ h) n (before mid) newer) first.went.number (subst (λ e. MayTurn o e mid.number (before mid) newer) first.entries second.allowed)))

  -- with the turns of both
  pub feeds_joined : AreOctets a → (all : Feeds s now (a ++ b) o h h_now out out_now fed) × (all.turns ≡ newer ++ older)
  feeds_joined are_a = (
    record {
      turns = newer ++ older;
      went = both_turns s mid now a b older newer first.went second.went on are_a;
      allowed = may_append o h s.number (before s) newer older may_then first.allowed;
      entries = second.entries ∙ (ap (λ e. entries_on mid.number j'.entries ++ e) first.entries ∙ history);
      wrote = second.wrote ∙ (ap (λ o. o ++ j'.written) first.wrote ∙ (append_assoc out k'.written j'.written ∙ ap (λ (x : Talked). out ++ x.written) (sym same_talk)));
      ended = second.ended ∙ sym (end_append newer older (sym first.ended));
    },
    refl,
  )

  pub feeds_both : AreOctets a → Feeds s now (a ++ b) o h h_now out out_now fed
  feeds_both are_a = (feeds_joined are_a).0
