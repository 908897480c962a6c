-- Octets that are fed to an order session, piece by piece.
use Rattle.std.proofs.Common.{◌≡◌, ◌≤◌, ◌+◌, ◌-◌, ℕ, List, take, drop, length-drop, [], ◌∷◌, ◌++◌, length, reverse, Bool, true, false, if◌then◌else◌, Option, Some, None, Result, Ok, Err, refl, sym, ap, ◌∙◌, subst, append_assoc, arith}
use Rattle.std.specs.Prelude.{is_ok, slice_get}
use Rattle.std.specs.Option.{option_to_list}
use Rattle.std.proofs.lemmas.Bool.{false≢true}
use Rattle.std.proofs.lemmas.List.{append-nil, reverse-append, reverse-reverse, take-append-drop, take_all}
use Rattle.std.proofs.Math.Seq.{take-add}
use Rattle.jt_value.specs.Octets.{AreOctets}
use Rattle.jt_value.proofs.OctetLists.{AreOctets-take}
use Rattle.jt_escape.specs.Scan.{State as Splitting}
use Rattle.jt_escape.specs.Splitter.{StandsFor}
use Rattle.jt_header.specs.declared.header.Header.{Header}
use Rattle.jt_stream.specs.Unplaced.{Unplaced, Message as Frame, Fault, items}
use Rattle.jt_store.specs.declared.error.StoreError.{StoreError}
use Rattle.jt_platform.specs.Allowed.{Opening}
use Rattle.jt_platform.specs.declared.request.Entry.{Entry}
use Rattle.jt_platform.specs.declared.request.Request.{Request}
use Rattle.jt_platform.specs.declared.request.Reply.TheVariants as say
use Rattle.jt_session.specs.declared.end.Fed.{Fed}
use Rattle.jt_session.specs.declared.end.Fed.TheVariants.{On}
use Rattle.jt_session.specs.Talk.{Turn, Way, Goes, Stops, Talked, IsReplied, items_of, turn_on}
use Rattle.jt_session.specs.Sessions.{Seen, Feeds, Turns, entries_on}
use Rattle.jt_session.specs.TurnLaw.{FeedsGoOn}
use Rattle.jt_session.proofs.Joining.{items_append}
use Rattle.jt_order.specs.Books.{Book}
use Rattle.jt_order_session.specs.Responses.{response_in}
use Rattle.jt_order_turns.specs.Headers.{first_header}
use Rattle.jt_order_session.specs.Sessions.{OrderSeen, FeedsOrders, HaveRead, Offers, StandsForOrders, Tells, TellsIf, Walks, book_by, book_by_turns, both_told, first_of, is_acceptance, is_accepted, told_of}

-- ---- a book that is told of turns behind turns

told_append : (sent : Option ℕ) (newer older : List Turn) (book : Option Book) → book_by_turns sent (newer ++ older) book ≡ book_by_turns sent newer (book_by_turns sent older book)
told_append sent [] older book = refl
told_append sent (t ∷ newer) older book = ap (book_by sent t.item t.way) (told_append sent newer older book)

all_told : (sent : Option ℕ) (book now : Option Book) (turns : List Turn) (told : Result (Unit {0}) StoreError) → Tells sent book now turns told → is_ok told ≡ true → now ≡ book_by_turns sent turns book
all_told sent book now turns told tells ok =
    tells.told ∙ ap (λ l. book_by_turns sent l book) (sym (tells.parts ∙ ap (λ l. l ++ tells.older) (tells.all ok)))

tells_both : (sent : Option ℕ) (book mid now : Option Book) (newer older : List Turn) (told heard : Result (Unit {0}) StoreError) → Tells sent book mid older told → TellsIf (is_ok told) sent mid now newer heard
    → Tells sent book now (newer ++ older) (both_told told heard)
tells_both sent book mid now newer older (Ok x) heard first second = record {
  newer = second.newer;
  older = second.older ++ older;
  parts = ap (λ l. l ++ older) second.parts ∙ append_assoc second.newer second.older older;
  told = second.told ∙ (ap (book_by_turns sent second.older) (all_told sent book mid older (Ok x) first refl) ∙ sym (told_append sent second.older older book));
  all = second.all;
}
tells_both sent book mid now newer older (Err error) heard first second = record {
  newer = newer ++ first.newer;
  older = first.older;
  parts = ap (λ l. newer ++ l) first.parts ∙ sym (append_assoc newer first.newer first.older);
  told = second.0 ∙ first.told;
  all = λ ok. absurd (false≢true ok);
}

-- ---- pieces

-- octets with which the session goes on bring the items of their turns, and no other
items_on : (s mid : OrderSeen) (read a : List ℕ) (o : Opening) (h h_mid : List Entry) (out out_mid : List ℕ) (fed : Fed) (feeds : Feeds s.session mid.session a o h h_mid out out_mid fed) → StandsForOrders s read → mid.session.waiting ≡ None → mid.session.over ≡ false
    → items (read ++ a) ≡ items read ++ items_of feeds.turns
items_on s mid read a o h h_mid out out_mid fed feeds stands free on =
    let split = feeds.went.items read (items read) stands.octets stands.session (sym (ap (λ w. items read ++ option_to_list w) stands.waiting ∙ append-nil (items read))) in
    split.1 ∙ (ap (λ w. items read ++ (items_of feeds.turns ++ (option_to_list w ++ split.0))) free ∙ (ap (λ rest. items read ++ (items_of feeds.turns ++ rest)) (split.2 on).0 ∙ ap (λ l. items read ++ l) (append-nil (items_of feeds.turns))))

pub walks_both : FeedsGoOn → (s mid now : OrderSeen) (a b : List ℕ) (o : Opening) (h h_mid h_now : List Entry) (book book_mid book_now : Option Book) (out out_mid out_now : List ℕ) (fed : Fed) (told heard : Result (Unit {0}) StoreError) → AreOctets a
    → Walks true s mid a o h h_mid book book_mid out out_mid On told → mid.session.over ≡ false → Walks (is_ok told) mid now b o h_mid h_now book_mid book_now out_mid out_now fed heard
    → Walks true s now (a ++ b) o h h_now book book_now out out_now fed (both_told told heard)
walks_both law s mid now a b o h h_mid h_now book book_mid book_now out out_mid out_now fed told heard are first on second =
    let all = law.both s.session mid.session now.session a b o h h_mid h_now out out_mid out_now fed first.feeds second.feeds on are in
    record {
      feeds = all.0;
      tells = λ read stands.
          subst (λ turns. Tells s.sent book book_now turns (both_told told heard)) (sym all.1)
          (tells_both s.sent book book_mid book_now second.feeds.turns first.feeds.turns told heard (first.tells read stands)
          (subst (λ sent. TellsIf (is_ok told) sent book_mid book_now second.feeds.turns heard) first.sent (second.tells (read ++ a) (first.stands read stands on))));
      stands = λ read stands going. subst (λ octets. StandsForOrders now octets) (append_assoc read a b) (second.stands (read ++ a) (first.stands read stands on) going);
      first = λ read stands.
          let between = first.stands read stands on in
          second.first (read ++ a) between
          ∙ ap first_header
          (ap (λ l. l ++ items_of second.feeds.turns) (items_on s mid read a o h h_mid out out_mid On first.feeds stands between.waiting on)
          ∙ (append_assoc (items read) (items_of first.feeds.turns) (items_of second.feeds.turns)
          ∙ ap (λ l. items read ++ l) (sym (items_append second.feeds.turns first.feeds.turns) ∙ sym (ap items_of all.1))));
      sent = second.sent ∙ first.sent;
    }

pub walks_beyond : FeedsGoOn → (s now : OrderSeen) (a b : List ℕ) (o : Opening) (h h_now : List Entry) (book book_now : Option Book) (out out_now : List ℕ) (fed : Fed) (told : Result (Unit {0}) StoreError)
    → Walks true s now a o h h_now book book_now out out_now fed told → now.session.over ≡ true → Walks true s now (a ++ b) o h h_now book book_now out out_now fed told
walks_beyond law s now a b o h h_now book book_now out out_now fed told first over =
    let all = law.behind s.session now.session a b o h h_now out out_now fed first.feeds over in
    record {
      feeds = all.0;
      tells = λ read stands. subst (λ turns. Tells s.sent book book_now turns told) (sym all.1) (first.tells read stands);
      stands = λ read stands going. absurd (false≢true (sym going ∙ over));
      first = λ read stands. first.first read stands ∙ ap (λ turns. first_header (items read ++ items_of turns)) (sym all.1);
      sent = first.sent;
    }

-- no octets
turns_none : (s : Seen) → Turns s s [] []
turns_none s = record {
  fits = tt;
  state = λ _. refl;
  counted = refl;
  over = refl;
  number = refl;
  items = λ read gone are stands is. (
    [],
    ap items (append-nil read) ∙ (is ∙ ap (λ l. gone ++ l) (sym (append-nil (option_to_list s.waiting)))),
    λ going. (refl, subst (λ l. StandsFor s.stream l) (sym (append-nil read)) stands),
  );
}

pub walks_none : (s : OrderSeen) (o : Opening) (h : List Entry) (book : Option Book) (out : List ℕ) → Walks true s s [] o h h book book out out On (Ok tt)
walks_none s o h book out = record {
  feeds = record { turns = []; went = turns_none s.session; allowed = tt; entries = refl; wrote = sym (append-nil out); ended = refl };
  tells = λ read stands. record { newer = []; older = []; parts = refl; told = refl; all = λ _. refl };
  stands = λ read stands going. subst (λ l. StandsForOrders s l) (sym (append-nil read)) stands;
  first = λ read stands. stands.first ∙ ap first_header (sym (append-nil (items read)));
  sent = refl;
}

pub walks_on : (a b : Bool) (s now : OrderSeen) (octets : List ℕ) (o other : Opening) (h h_now : List Entry) (book book_now : Option Book) (out out_now : List ℕ) (fed found : Fed) (told : Result (Unit {0}) StoreError) → a ≡ b → o ≡ other → fed ≡ found
    → Walks a s now octets o h h_now book book_now out out_now fed told → Walks b s now octets other h h_now book book_now out out_now found told
walks_on a b s now octets o other h h_now book book_now out out_now fed found told same opening is did =
    subst (λ x. Walks x s now octets other h h_now book book_now out out_now found told) same
    (subst (λ x. Walks a s now octets x h h_now book book_now out out_now found told) opening
    (subst (λ x. Walks a s now octets o h h_now book book_now out out_now x told) is did))

pub walks_told : (s now : OrderSeen) (octets : List ℕ) (o : Opening) (h h_now : List Entry) (book book_now : Option Book) (out out_now : List ℕ) (fed : Fed) (told found : Result (Unit {0}) StoreError) → told ≡ found
    → Walks true s now octets o h h_now book book_now out out_now fed told → Walks true s now octets o h h_now book book_now out out_now fed found
walks_told s now octets o h h_now book book_now out out_now fed told found is did = subst (λ x. Walks true s now octets o h h_now book book_now out out_now fed x) is did

-- octets taken, and then some more of those that are left
pub walks_more : FeedsGoOn → (s mid now : OrderSeen) (octets : List ℕ) (taken count : ℕ) (o : Opening) (h h_mid h_now : List Entry) (book book_mid book_now : Option Book) (out out_mid out_now : List ℕ) (fed : Fed) (told heard : Result (Unit {0}) StoreError)
    → AreOctets octets → Walks true s mid (take taken octets) o h h_mid book book_mid out out_mid On told → mid.session.over ≡ false
    → Walks (is_ok told) mid now (take count (take (length octets - taken) (drop taken octets))) o h_mid h_now book_mid book_now out_mid out_now fed heard
    → Walks true s now (take (taken + count) octets) o h h_now book book_now out out_now fed (both_told told heard)
walks_more law s mid now octets taken count o h h_mid h_now book book_mid book_now out out_mid out_now fed told heard are first on second =
    let piece : take (length octets - taken) (drop taken octets) ≡ drop taken octets = take_all (length octets - taken) (drop taken octets) (omega (arith, length-drop taken octets)) in
    subst (λ some. Walks true s now some o h h_now book book_now out out_now fed (both_told told heard)) (ap (λ rest. take taken octets ++ take count rest) piece ∙ sym (take-add taken count octets))
    (walks_both law s mid now (take taken octets) (take count (take (length octets - taken) (drop taken octets))) o h h_mid h_now book book_mid book_now out out_mid out_now fed told heard (AreOctets-take taken octets are) first on second)

-- the octets behind the item that ended the session too
pub walks_ended : FeedsGoOn → (s now : OrderSeen) (octets : List ℕ) (taken : ℕ) (o : Opening) (h h_now : List Entry) (book book_now : Option Book) (out out_now : List ℕ) (fed : Fed) (told : Result (Unit {0}) StoreError)
    → Walks true s now (take taken octets) o h h_now book book_now out out_now fed told → now.session.over ≡ true → Walks true s now octets o h h_now book book_now out out_now fed told
walks_ended law s now octets taken o h h_now book book_now out out_now fed told so_far over =
    subst (λ some. Walks true s now some o h h_now book book_now out out_now fed told) (take-append-drop taken octets)
    (walks_beyond law s now (take taken octets) (drop taken octets) o h h_now book book_now out out_now fed told so_far over)

pub walks_all : (s now : OrderSeen) (octets : List ℕ) (taken : ℕ) (o : Opening) (h h_now : List Entry) (book book_now : Option Book) (out out_now : List ℕ) (fed : Fed) (told : Result (Unit {0}) StoreError)
    → Walks true s now (take taken octets) o h h_now book book_now out out_now fed told → length octets ≤ taken → Walks true s now octets o h h_now book book_now out out_now fed told
walks_all s now octets taken o h h_now book book_now out out_now fed told did all = subst (λ some. Walks true s now some o h h_now book book_now out out_now fed told) (take_all taken octets all) did

-- ---- and then an offer

pub feeds_then_offers : (s mid now : OrderSeen) (octets : List ℕ) (o : Opening) (h h_now : List Entry) (book book_mid book_now : Option Book) (out front out_now : List ℕ) (fed : Fed) (told answer : Result (Unit {0}) StoreError)
    → Walks true s mid octets o h h_now book book_mid out front fed told → is_ok told ≡ true → book_now ≡ book_mid → Offers mid now h_now book_mid front out_now answer → FeedsOrders s now octets o h h_now book book_now out out_now fed answer
feeds_then_offers s mid now octets o h h_now book book_mid book_now out front out_now fed (Ok x) answer walked ok same offered = record {
  mid = mid;
  front = front;
  told = Ok x;
  walks = subst (λ b. Walks true s mid octets o h h_now book b out front fed (Ok x)) (sym same) walked;
  offers = subst (λ b. Offers mid now h_now b front out_now answer) (sym same) offered;
  failed = tt;
}
feeds_then_offers s mid now octets o h h_now book book_mid book_now out front out_now fed (Err error) answer walked ok same offered = absurd (false≢true ok)

pub feeds_failed : (s now : OrderSeen) (octets : List ℕ) (o : Opening) (h h_now : List Entry) (book book_now : Option Book) (out out_now : List ℕ) (fed : Fed) (told : Result (Unit {0}) StoreError) (error : StoreError) → told ≡ Err error
    → Walks true s now octets o h h_now book book_now out out_now fed told → FeedsOrders s now octets o h h_now book book_now out out_now fed (Err error)
feeds_failed s now octets o h h_now book book_now out out_now fed told error is walked = record {
  mid = now;
  front = out_now;
  told = Err error;
  walks = subst (λ t. Walks true s now octets o h h_now book book_now out out_now fed t) is walked;
  offers = tt;
  failed = (refl, refl, refl);
}

-- ---- what both were given, of which an invariant tells that it is there

pub have_none : (s : OrderSeen) → StandsForOrders s [] → HaveRead s
have_none s stands never = never [] stands

-- ---- one item

-- the stream went on by the octets, which brought these items
abbrev pub Brings : Splitting → Splitting → List ℕ → List Unplaced → Type 0
Brings old now octets gained = (read : List ℕ) → AreOctets read → StandsFor old read → (items (read ++ octets) ≡ items read ++ gained) × StandsFor now (read ++ octets)

-- at most one item
abbrev pub option_items : Option Unplaced → List Unplaced
option_items None = []
option_items (Some x) = x ∷ []

pub no_turn : (turns : List Turn) (rest : List Unplaced) → [] ≡ items_of turns ++ rest → turns ≡ []
no_turn [] rest is = refl
no_turn (t ∷ older) rest is = absurd (longer (items_of older) t.item rest is)
  where
    longer : (front : List Unplaced) (x : Unplaced) (rest : List Unplaced) → [] ≡ (front ++ x ∷ []) ++ rest → ⊥
    longer [] x rest is = cc
    longer (y ∷ front) x rest is = cc

pub one_turn : (x : Unplaced) (turns : List Turn) (rest : List Unplaced) → x ∷ [] ≡ items_of turns ++ rest → (turns ≡ [] → rest ≡ []) → (t : Turn) × (turns ≡ t ∷ []) × (t.item ≡ x)
one_turn x [] rest is none = absurd (let empty = none refl in cc)
one_turn x (t ∷ []) rest is none = (t, refl, sym (let same : x ∷ [] ≡ t.item ∷ rest = is in cc))
one_turn x (t ∷ u ∷ older) rest is none = absurd (longer (items_of older) u.item t.item rest is)
  where
    longer : (front : List Unplaced) (y z : Unplaced) (rest : List Unplaced) → x ∷ [] ≡ ((front ++ y ∷ []) ++ z ∷ []) ++ rest → ⊥
    longer [] y z rest is = cc
    longer (w ∷ []) y z rest is = cc
    longer (w ∷ v ∷ front) y z rest is = cc

-- ---- whether the entry that was made says Accepted

abbrev pub accepts : Way → Bool
accepts (Goes (Some r)) = is_acceptance r
accepts way = false

pub book_if : (sent : Option ℕ) (h : Header) (octets : List ℕ) (way : Way) (book : Option Book) → book_by sent (Frame h octets) way book ≡ (if accepts way then told_of sent (response_in h octets) book else book)
book_if sent h octets (Goes None) book = refl
book_if sent h octets (Goes (Some say.Accepted)) book = refl
book_if sent h octets (Goes (Some r)) book = refl
book_if sent h octets (Stops r) book = refl

-- the header of the first frame behind one more item
abbrev pub first_by : Option Header → Unplaced → Option Header
first_by first (Fault place why) = first
first_by first (Frame h octets) = first_of first h

pub first_push : (list : List Unplaced) (x : Unplaced) → first_header (list ++ x ∷ []) ≡ first_by (first_header list) x
first_push [] (Fault place why) = refl
first_push [] (Frame h octets) = refl
first_push (Fault place why ∷ list) x = first_push list x
first_push (Frame h octets ∷ list) (Fault place why) = refl
first_push (Frame h octets ∷ list) (Frame g more) = refl

-- ---- the entry of one item

get_end : (old : List Entry) → is_accepted (slice_get old (length old)) ≡ false
get_end [] = refl
get_end (e ∷ old) = get_end old

get_last : (old : List Entry) (e : Entry) → is_accepted (slice_get (old ++ e ∷ []) (length old)) ≡ is_acceptance e.reply
get_last [] e = refl
get_last (x ∷ old) e = get_last old e

no_entry : (old new : List Entry) → reverse new ≡ reverse old → is_accepted (slice_get new (length old)) ≡ false
no_entry old new is =
    ap (λ l. is_accepted (slice_get l (length old))) (sym (reverse-reverse new) ∙ (ap reverse is ∙ reverse-reverse old)) ∙ get_end old

one_entry : (old new : List Entry) (e : Entry) → reverse new ≡ e ∷ reverse old → is_accepted (slice_get new (length old)) ≡ is_acceptance e.reply
one_entry old new e is =
    ap (λ l. is_accepted (slice_get l (length old))) (sym (reverse-reverse new) ∙ (ap reverse is ∙ (reverse-append (e ∷ []) (reverse old) ∙ ap (λ l. l ++ e ∷ []) (reverse-reverse old)))) ∙ get_last old e

-- the hub's history has an entry more exactly where the item was replied to so that the session goes on; and it has that reply
pub accepted_at : (old new : List Entry) (n : ℕ) (k : Talked) (item : Unplaced) (asked : Option Request) (way : Way) → k.entries ≡ [] → IsReplied item asked way
    → reverse new ≡ entries_on n (turn_on k item asked way).entries ++ reverse old → is_accepted (slice_get new (length old)) ≡ accepts way
accepted_at old new n k item None (Goes None) none replied is = no_entry old new (is ∙ ap (λ l. entries_on n l ++ reverse old) none)
accepted_at old new n k item None (Goes (Some r)) none replied is = absurd replied
accepted_at old new n k item None (Stops None) none replied is = no_entry old new (is ∙ ap (λ l. entries_on n l ++ reverse old) none)
accepted_at old new n k item None (Stops (Some r)) none replied is = absurd replied
accepted_at old new n k item (Some q) (Goes None) none replied is = absurd replied
accepted_at old new n k item (Some q) (Goes (Some r)) none replied is =
    one_entry old new (record { session = n; request = q; reply = r }) (is ∙ ap (λ l. entries_on n ((q, r) ∷ l) ++ reverse old) none)
accepted_at old new n k item (Some q) (Stops None) none replied is = no_entry old new (is ∙ ap (λ l. entries_on n l ++ reverse old) none)
accepted_at old new n k item (Some q) (Stops (Some r)) none replied is = no_entry old new (is ∙ ap (λ l. entries_on n l ++ reverse old) none)
