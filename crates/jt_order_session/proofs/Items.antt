-- One item, or none, of the octets that an order session is fed.
use Rattle.std.proofs.Common.{◌≡◌, ◌&&◌, ℕ, List, [], ◌∷◌, ◌++◌, map, length, Bool, true, false, if◌then◌else◌, Option, Some, None, Result, Ok, Err, IsOk, OnOk, OnErr, inl, inr, refl, sym, ap, ◌∙◌, subst}
use Rattle.std.specs.Prelude.{◌⊎◌, is_ok, slice_get, reverse}
use Rattle.std.specs.Option.{option_to_list}
use Rattle.std.proofs.lemmas.Bool.{false≢true}
use Rattle.std.proofs.lemmas.List.{append-nil, append_cancel_left, map-append}
use Rattle.jt_value.specs.Octets.{AreOctets}
use Rattle.jt_value.proofs.OctetLists.{AreOctets-append}
use Rattle.jt_escape.specs.Scan.{State as Splitting}
use Rattle.jt_escape.specs.Splitter.{StandsFor}
use Rattle.jt_header.specs.declared.header.Header.{Header}
use Rattle.jt_stream.specs.Item.{Item, Items}
use Rattle.jt_stream.specs.Stream.{Gains, stream_items}
use Rattle.jt_stream.specs.Unplaced.{Unplaced, Message as Frame, Fault, fault, items, unplaced}
use Rattle.jt_stream.specs.declared.stream.StreamItem.{StreamItem}
use Rattle.jt_stream.specs.declared.stream.StreamItem.TheVariants as answer
use Rattle.jt_header.specs.Fields.{header_at, body_at}
use Rattle.jt_value.specs.declared.refusal.Refusal.{Refusal}
use Rattle.jt_store.specs.declared.error.StoreError.{StoreError}
use Rattle.jt_platform.specs.Allowed.{Opening}
use Rattle.jt_platform.specs.declared.request.Entry.{Entry}
use Rattle.jt_session.specs.declared.end.Fed.{Fed}
use Rattle.jt_session.specs.Talk.{Turn, FitsFrom, items_of, talk_from, asks}
use Rattle.jt_session.specs.Sessions.{Feeds, before, entries_on}
use Rattle.jt_order.specs.Books.{Book}
use Rattle.jt_order_session.specs.Responses.{response_in}
use Rattle.jt_order_turns.specs.Headers.{first_header}
use Rattle.jt_order_session.specs.Sessions.{HaveRead, OrderSeen, StandsForOrders, TellsIf, Walks, book_by, book_by_turns, is_accepted, told_of}
use Rattle.jt_order_session.proofs.Walking.{Brings, option_items, no_turn, one_turn, accepts, accepted_at, book_if, first_by, first_push}

-- ---- what an own stream tells of octets

pub brings_of : ((stream : List ℕ) → AreOctets stream → (list : List Item) × Items stream list) → ((stream : List ℕ) (list : List Item) → Items stream list → map unplaced list ≡ items stream)
    → (old now : Splitting) (octets : List ℕ) (gained : List Item) → Gains old now octets gained → Brings old now octets (map unplaced gained)
brings_of some law old now octets gained gains read are stands =
    let list = some read are in (
      sym (law (read ++ octets) (list.0 ++ gained) (gains.items read list.0 stands list.1)) ∙ (map-append unplaced list.0 gained ∙ ap (λ l. l ++ map unplaced gained) (law read list.0 list.1)),
      gains.stands read stands,
    )

-- the item that an answer tells of the stream that the call left
abbrev pub item_told : StreamItem → Splitting → Option Unplaced
item_told answer.More state = None
item_told answer.Frame state = Some (Frame (header_at state.content) (body_at state.content))
item_told (answer.Refused refusal) state = Some (fault refusal)

told_items : (a : StreamItem) (state : Splitting) → map unplaced (stream_items a state) ≡ option_items (item_told a state)
told_items answer.More state = refl
told_items answer.Frame state = refl
told_items (answer.Refused refusal) state = refl

-- ---- what both were given

-- the first header behind one more item, or none
abbrev pub first_with : Option Header → Option Unplaced → Option Header
first_with first None = first
first_with first (Some x) = first_by first x

first_behind : (gained : Option Unplaced) (list : List Unplaced) → first_with (first_header list) gained ≡ first_header (list ++ option_items gained)
first_behind None list = ap first_header (sym (append-nil list))
first_behind (Some x) list = sym (first_push list x)

-- the octets were fed to the session, and brought the own stream at most this item
pub record Gives (s now : OrderSeen) (octets : List ℕ) (o : Opening) (h h_now : List Entry) (out out_now : List ℕ) (fed : Fed) (gained : Option Unplaced) : Type 0 where
  pub feeds : Feeds s.session now.session octets o h h_now out out_now fed
  pub octets_are : AreOctets octets
  pub on : s.session.over ≡ false
  pub waits : now.session.waiting ≡ None
  pub brings : Brings s.stream now.stream octets (option_items gained)
  pub first : now.first ≡ first_with s.first gained
  pub sent : now.sent ≡ s.sent

pub gives_item : ((stream : List ℕ) → AreOctets stream → (list : List Item) × Items stream list) → ((stream : List ℕ) (list : List Item) → Items stream list → map unplaced list ≡ items stream)
    → (s now : OrderSeen) (octets : List ℕ) (o : Opening) (h h_now : List Entry) (out out_now : List ℕ) (fed : Fed) (a : StreamItem) → Feeds s.session now.session octets o h h_now out out_now fed → AreOctets octets → s.session.over ≡ false → now.session.waiting ≡ None
    → Gains s.stream now.stream octets (stream_items a now.stream) → now.first ≡ first_with s.first (item_told a now.stream) → now.sent ≡ s.sent → Gives s now octets o h h_now out out_now fed (item_told a now.stream)
gives_item some law s now octets o h h_now out out_now fed a feeds are on waits gains first sent = record {
  feeds = feeds;
  octets_are = are;
  on = on;
  waits = waits;
  brings = subst (λ list. Brings s.stream now.stream octets list) (told_items a now.stream) (brings_of some law s.stream now.stream octets (stream_items a now.stream) gains);
  first = first;
  sent = sent;
}

-- no frame
abbrev pub IsQuiet : Option Unplaced → Type 0
IsQuiet None = Unit {0}
IsQuiet (Some (Fault place why)) = Unit {0}
IsQuiet (Some (Frame h octets)) = ⊥

pub quiet_unless : (a : StreamItem) (state : Splitting) → (a ≡ answer.Frame → ⊥) → IsQuiet (item_told a state)
quiet_unless answer.More state other = tt
quiet_unless answer.Frame state other = absurd (other refl)
quiet_unless (answer.Refused refusal) state other = tt

pub no_frame : (a : StreamItem) → ((refusal : Refusal) × (a ≡ answer.Refused refusal)) ⊎ (a ≡ answer.More) → a ≡ answer.Frame → ⊥
no_frame a (inl (refusal, is)) frame = cc
no_frame a (inr is) frame = cc

pub first_quiet : (first : Option Header) (gained : Option Unplaced) → IsQuiet gained → first ≡ first_with first gained
first_quiet first None quiet = refl
first_quiet first (Some (Fault place why)) quiet = refl
first_quiet first (Some (Frame h octets)) quiet = absurd quiet

-- the item is that of the turns
items_same : (gained : Option Unplaced) (turns : List Turn) → (gained ≡ None → turns ≡ []) → ((x : Unplaced) → gained ≡ Some x → (t : Turn) × (turns ≡ t ∷ []) × (t.item ≡ x)) → option_items gained ≡ items_of turns
items_same None turns none one = ap items_of (sym (none refl))
items_same (Some x) turns none one = let found = one x refl in ap (λ item. item ∷ []) (sym found.2) ∙ ap items_of (sym found.1)

told_quiet : (gained : Option Unplaced) (turns : List Turn) (sent : Option ℕ) (book : Option Book) → IsQuiet gained → (gained ≡ None → turns ≡ []) → ((x : Unplaced) → gained ≡ Some x → (t : Turn) × (turns ≡ t ∷ []) × (t.item ≡ x))
    → book_by_turns sent turns book ≡ book
told_quiet None turns sent book quiet none one = ap (λ l. book_by_turns sent l book) (none refl)
told_quiet (Some (Fault place why)) turns sent book quiet none one =
    let found = one (Fault place why) refl in
    ap (λ l. book_by_turns sent l book) found.1 ∙ ap (λ x. book_by sent x found.0.way book) found.2
told_quiet (Some (Frame h octets)) turns sent book quiet none one = absurd quiet

tells_all : (is_told : Bool) (sent : Option ℕ) (book now : Option Book) (turns : List Turn) (answer : Result (Unit {0}) StoreError) → now ≡ book_by_turns sent turns book → (is_told ≡ false → now ≡ book) → is_ok answer ≡ true
    → TellsIf is_told sent book now turns answer
tells_all true sent book now turns answer told same ok = record { newer = []; older = turns; parts = refl; told = told; all = λ _. refl }
tells_all false sent book now turns answer told same ok = (same refl, ok)

-- what a frame is told as: what it says where it is to be told, and then its answer is Ok or nothing was told
pub record Heard (to_tell : Bool) (sent : Option ℕ) (h : Header) (octets : List ℕ) (book now : Option Book) (answer : Result (Unit {0}) StoreError) : Type 0 where
  pub ok : OnOk answer (now ≡ (if to_tell then told_of sent (response_in h octets) book else book))
  pub err : OnErr answer (now ≡ book)
  pub quiet : to_tell ≡ false → IsOk answer

tells_heard : (is_told : Bool) (sent : Option ℕ) (h : Header) (octets : List ℕ) (t : Turn) (book now : Option Book) (answer : Result (Unit {0}) StoreError) → t.item ≡ Frame h octets → Heard (is_told && accepts t.way) sent h octets book now answer
    → TellsIf is_told sent book now (t ∷ []) answer
tells_heard true sent h octets t book now (Ok x) is heard = record {
  newer = [];
  older = t ∷ [];
  parts = refl;
  told = heard.ok ∙ (sym (book_if sent h octets t.way book) ∙ ap (λ item. book_by sent item t.way book) (sym is));
  all = λ _. refl;
}
tells_heard true sent h octets t book now (Err error) is heard = record { newer = t ∷ []; older = []; parts = refl; told = heard.err; all = λ ok. absurd (false≢true ok) }
tells_heard false sent h octets t book now (Ok x) is heard = (heard.ok, refl)
tells_heard false sent h octets t book now (Err error) is heard = absurd (false≢true (heard.quiet refl))

module _ (s now : OrderSeen) (octets : List ℕ) (o : Opening) (h h_now : List Entry) (out out_now : List ℕ) (fed : Fed) (gained : Option Unplaced) (gives : Gives s now octets o h h_now out out_now fed gained) where
  abbrev turns : List Turn
  turns = gives.feeds.turns

  rest_of : (read : List ℕ) → StandsForOrders s read → (rest : List Unplaced) × (option_items gained ≡ items_of turns ++ rest) × (now.session.over ≡ false → (rest ≡ []) × StandsFor now.session.stream (read ++ octets))
  rest_of read stands =
      let split = gives.feeds.went.items read (items read) stands.octets stands.session (sym (ap (λ w. items read ++ option_to_list w) stands.waiting ∙ append-nil (items read))) in (
        split.0,
        append_cancel_left (items read) (option_items gained) (items_of turns ++ split.0)
            (sym (gives.brings read stands.octets stands.stream).0 ∙ (split.1 ∙ ap (λ w. items read ++ (items_of turns ++ (option_to_list w ++ split.0))) gives.waits)),
        split.2,
      )

  goes_on : turns ≡ [] → now.session.over ≡ false
  goes_on none = gives.feeds.went.over ∙ (ap (λ list. (talk_from (before s.session) list).over) none ∙ gives.on)

  none_of : (read : List ℕ) → StandsForOrders s read → gained ≡ None → turns ≡ []
  none_of read stands none = let split = rest_of read stands in no_turn turns split.0 (ap option_items (sym none) ∙ split.1)

  one_of : (read : List ℕ) → StandsForOrders s read → (x : Unplaced) → gained ≡ Some x → (t : Turn) × (turns ≡ t ∷ []) × (t.item ≡ x)
  one_of read stands x some = let split = rest_of read stands in one_turn x turns split.0 (ap option_items (sym some) ∙ split.1) (λ none. (split.2 (goes_on none)).0)

  first_now : (read : List ℕ) → StandsForOrders s read → now.first ≡ first_header (items read ++ items_of turns)
  first_now read stands =
      gives.first
      ∙ (ap (λ f. first_with f gained) stands.first ∙ (first_behind gained (items read) ∙ ap (λ l. first_header (items read ++ l)) (items_same gained turns (none_of read stands) (one_of read stands))))

  pub stands_now : (read : List ℕ) → StandsForOrders s read → now.session.over ≡ false → StandsForOrders now (read ++ octets)
  stands_now read stands going =
      let brought = gives.brings read stands.octets stands.stream in
      record {
        octets = AreOctets-append read octets stands.octets gives.octets_are;
        session = ((rest_of read stands).2 going).1;
        stream = brought.1;
        waiting = gives.waits;
        first = gives.first ∙ (ap (λ f. first_with f gained) stands.first ∙ (first_behind gained (items read) ∙ ap first_header (sym brought.0)));
      }

  pub have_now : HaveRead s → now.session.over ≡ false → HaveRead now
  have_now have going never = have (λ read stands. never (read ++ octets) (stands_now read stands going))

  pub walks_quiet : (is_told : Bool) (book book_now : Option Book) (answer : Result (Unit {0}) StoreError) → IsQuiet gained → book_now ≡ book → is_ok answer ≡ true → Walks is_told s now octets o h h_now book book_now out out_now fed answer
  walks_quiet is_told book book_now answer quiet same ok = record {
    feeds = gives.feeds;
    tells = λ read stands. tells_all is_told s.sent book book_now turns answer (same ∙ sym (told_quiet gained turns s.sent book quiet (none_of read stands) (one_of read stands))) (λ _. same) ok;
    stands = stands_now;
    first = first_now;
    sent = gives.sent;
  }

  -- the entry behind those that the hub had is that of the one turn
  accepted_by : (old new : List Entry) → h ≡ reverse old → h_now ≡ reverse new → (t : Turn) → turns ≡ t ∷ [] → is_accepted (slice_get new (length old)) ≡ accepts t.way
  accepted_by old new was is t one =
      accepted_at old new s.session.number (before s.session) t.item (asks s.session.state t.item) t.way refl
      (subst (λ list. FitsFrom (before s.session) list) one gives.feeds.went.fits).1
      (sym is ∙ (gives.feeds.entries ∙ (ap (λ list. entries_on s.session.number (talk_from (before s.session) list).entries ++ h) one ∙ ap (λ older. entries_on s.session.number (talk_from (before s.session) (t ∷ [])).entries ++ older) was)))

  pub walks_frame : (is_told : Bool) (header : Header) (body : List ℕ) (old new : List Entry) (book book_now : Option Book) (answer : Result (Unit {0}) StoreError) → gained ≡ Some (Frame header body) → h ≡ reverse old → h_now ≡ reverse new
      → Heard (is_told && is_accepted (slice_get new (length old))) s.sent header body book book_now answer → Walks is_told s now octets o h h_now book book_now out out_now fed answer
  walks_frame is_told header body old new book book_now answer some was is heard = record {
    feeds = gives.feeds;
    tells = λ read stands.
        let one = one_of read stands (Frame header body) some in
        subst (λ list. TellsIf is_told s.sent book book_now list answer) (sym one.1)
        (tells_heard is_told s.sent header body one.0 book book_now answer one.2
        (subst (λ accepted. Heard (is_told && accepted) s.sent header body book book_now answer) (accepted_by old new was is one.0 one.1) heard));
    stands = stands_now;
    first = first_now;
    sent = gives.sent;
  }
