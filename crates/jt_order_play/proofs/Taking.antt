-- An octet up: the call's steps in every world in which the line stands.
use Rattle.std.proofs.Common.{ℕ, suc, ◌+◌, ◌<◌, ◌≤◌, ◌≡◌, ◌⊎◌, ◌↔◌, List, [], ◌∷◌, ◌++◌, length, take, set, get_or, Option, Some, None, Result, Ok, Err, Bool, true, false, IsSome, IsOk, OnOk, OnErr, arith, refl, ap, sym, ◌∙◌, subst, inl, inr}
use Rattle.std.specs.Prelude.{if◌then◌else◌}
use Rattle.std.proofs.lemmas.Bool.{false≢true}
use Rattle.std.proofs.lemmas.List.{append-nil, get_or-set_same, get_or_read, set-get_or, set-set, length-append, length-set, take-append-le, take_more}
use Rattle.jt_value.specs.Sameness.{key_of}
use Rattle.jt_escape.specs.Splitter.{StandsFor}
use Rattle.jt_stream.specs.Unplaced.{Unplaced, items}
use Rattle.jt_store.specs.Memory.{KeeperState, tables_of}
use Rattle.jt_store.specs.declared.error.StoreError.{StoreError}
use Rattle.jt_platform.specs.Allowed.{Opening}
use Rattle.jt_platform.specs.History.{newest}
use Rattle.jt_platform.specs.Hub.{HubValue, opening_of as hub_opening}
use Rattle.jt_platform.specs.Laws.{shelf_of}
use Rattle.jt_platform.specs.declared.request.Entry.{Entry}
use Rattle.jt_platform.specs.declared.request.Fleet.{Fleet}
use Rattle.jt_session.specs.Sessions.{Seen, before, ended_short, entries_on}
use Rattle.jt_session.specs.Talk.{Talked, Turn, items_of, talk_from}
use Rattle.std.specs.Option.{option_to_list}
use Rattle.jt_header.specs.declared.header.Header.{Header}
use Rattle.jt_order_turns.specs.Headers.{first_header}
use Rattle.jt_order_turns.specs.Turns.{IsResponse}
use Rattle.jt_order_session.specs.Responses.{response_in}
use Rattle.jt_session.specs.declared.end.Fed.{Fed}
use Rattle.jt_session.specs.declared.end.Fed.TheVariants.{On}
use Rattle.jt_order.specs.Books.{Book}
use Rattle.jt_order_session.specs.Sessions.{FeedsOrders, Offers as OffersBy, OffersTo, OrderSeen, StandsForOrders, Tells as TellsBook, frame_offered, holds_phone}
use Rattle.jt_octets.specs.World.{World, Line, completed_item, line_at, new_line, opening_of, taken_of}
use Rattle.jt_octets.specs.Steps as plain
use Rattle.jt_octets.specs.Steps.{talk_after_item}
use Rattle.jt_play.specs.Holding.{IsGoing, is_short, line_of}
use Rattle.jt_play.proofs.Upward.{StepsUp, no_length}
use Rattle.jt_play.proofs.Lines.{held_on}
use Rattle.jt_play.proofs.Lines as lines
use Rattle.jt_order_octets.specs.World.{OrderWorld}
use Rattle.jt_order_octets.specs.Steps.{MayOffer, Up, after, results_after}
use Rattle.jt_order_play.specs.Playing.{book_of, may_offer}
use Rattle.jt_order_play.specs.Holding.{IsOrderHeld, OffersInWorld, LineOfOrders, StandsIn, TakesOne, offered}
use Rattle.jt_order_play.proofs.Offering.{offers_one}
use Rattle.jt_order_play.proofs.Telling.{ToldSo, told_so}

-- a session that offers writes no octet less
offers_to_longer : (c : Bool) (s : OrderSeen) (sent_now : Option ℕ) (b : Book) (out out_now : List ℕ) → OffersTo c s sent_now (Some b) out out_now → length out ≤ length out_now
offers_to_longer true s sent_now b out out_now o = let e = ap length o.1.1 ∙ length-append out (frame_offered s b) in omega (arith, e)
offers_to_longer false s sent_now b out out_now o = let e = ap length o.1 in omega (arith, e)

offers_longer : (s now : OrderSeen) (h : List Entry) (b : Book) (out out_now : List ℕ) (answer : Result (Unit {0}) StoreError) → OffersBy s now h (Some b) out out_now answer → length out ≤ length out_now
offers_longer s now h b out out_now (Ok x) o = offers_to_longer (holds_phone s.session.number s.first h) s now.sent b out out_now o.ok
offers_longer s now h b out out_now (Err error) o = let e = ap length o.err.1 in omega (arith, e)

pub going_of : (over : Bool) (s : Seen) → IsSome (if over then None else Some s.state) → over ≡ false
going_of true s some = absurd cc
going_of false s some = refl

module _ (octets down down_now : List ℕ) (taken read x : ℕ) (over over_now : Bool) (s now : OrderSeen) (hub hub_now : HubValue KeeperState) (b b_now : Book) (fed : Fed) (answer : Result (Unit {0}) StoreError)
    (held : IsOrderHeld octets taken down read over s) (some : IsSome (if over then None else Some s.session.state)) (lt : taken < length octets) (is : x ≡ get_or octets taken x)
    (f : FeedsOrders s now (x ∷ []) (hub_opening (Some (tables_of hub.start)) hub.start.limit hub.fleet hub.secret) (newest hub.history) (newest hub_now.history) (Some b) (Some b_now) down down_now fed answer)
    (one : (stream : List ℕ) (octet : ℕ) → length (items (stream ++ octet ∷ [])) ≤ length (items stream) + 1) (free : now.session.waiting ≡ None) (on : (fed ≡ On) ↔ (now.session.over ≡ false)) (is_over : (over_now ≡ false) ↔ (fed ≡ On)) (near : now.session.stream.place ≤ s.session.stream.place + 1) where
  abbrev o : Opening
  o = hub_opening (Some (tables_of hub.start)) hub.start.limit hub.fleet hub.secret

  -- the book had failed, or the session offered
  abbrev Quiet : Type 0
  Quiet = (now ≡ f.mid) × (down_now ≡ f.front) × (IsOk answer → ⊥)

  abbrev Loud : Type 0
  Loud = IsOk f.told × OffersBy f.mid now (newest hub_now.history) (Some b_now) f.front down_now answer

  behind : Quiet ⊎ Loud
  behind = by f.told refl
    where
      by : (t : Result (Unit {0}) StoreError) → f.told ≡ t → Quiet ⊎ Loud
      by (Err error) g =
          let d = subst (λ (t : Result (Unit {0}) StoreError). OnErr t ((now ≡ f.mid) × (down_now ≡ f.front) × (answer ≡ f.told))) g f.failed in
          inl (d.0, d.1, λ ok. false≢true (subst (λ (t : Result (Unit {0}) StoreError). IsOk t) (d.2 ∙ g) ok))
      by (Ok y) g = inr (subst (λ (t : Result (Unit {0}) StoreError). IsOk t) (sym g) refl, subst (λ (t : Result (Unit {0}) StoreError). OnOk t (OffersBy f.mid now (newest hub_now.history) (Some b_now) f.front down_now answer)) g f.offers)

  mid_session : now.session ≡ f.mid.session
  mid_session = by behind
    where
      by : Quiet ⊎ Loud → now.session ≡ f.mid.session
      by (inl q) = ap (λ (z : OrderSeen). z.session) q.0
      by (inr l) = l.1.session

  longer : length f.front ≤ length down_now
  longer = by behind
    where
      by : Quiet ⊎ Loud → length f.front ≤ length down_now
      by (inl q) = let e = ap length q.1 in omega (arith, e)
      by (inr l) = offers_longer f.mid now (newest hub_now.history) b_now f.front down_now answer l.1

  going : over ≡ false
  going = going_of over s.session some

  free_mid : f.mid.session.waiting ≡ None
  free_mid = ap (λ (z : Seen). z.waiting) (sym mid_session) ∙ free

  on_mid : (fed ≡ On) ↔ (f.mid.session.over ≡ false)
  on_mid = subst (λ (z : Seen). (fed ≡ On) ↔ (z.over ≡ false)) mid_session on

  near_mid : f.mid.session.stream.place ≤ s.session.stream.place + 1
  near_mid = subst (λ (z : Seen). z.stream.place ≤ s.session.stream.place + 1) mid_session near

  -- what the octet completed are the items of the turns
  items_are : items (take taken octets ++ x ∷ []) ≡ items (take taken octets) ++ items_of f.walks.feeds.turns
  items_are = by f.walks.feeds.turns refl (f.walks.feeds.went.items (take taken octets) (items (take taken octets)) (held.stands going).octets (held.stands going).session (sym (ap (λ (o : Option Unplaced). items (take taken octets) ++ option_to_list o) (held.stands going).waiting ∙ append-nil (items (take taken octets)))))
    where
      by : (ts : List Turn) → f.walks.feeds.turns ≡ ts → ((rest : List Unplaced) × (items (take taken octets ++ x ∷ []) ≡ items (take taken octets) ++ (items_of f.walks.feeds.turns ++ (option_to_list f.mid.session.waiting ++ rest))) × (f.mid.session.over ≡ false → (rest ≡ []) × StandsFor f.mid.session.stream (take taken octets ++ x ∷ [])))
          → items (take taken octets ++ x ∷ []) ≡ items (take taken octets) ++ items_of f.walks.feeds.turns
      by [] e b = b.1 ∙ ap (λ (z : List Unplaced). items (take taken octets) ++ z) (ap (λ (z : List Unplaced). items_of f.walks.feeds.turns ++ (option_to_list f.mid.session.waiting ++ z)) (b.2 still).0 ∙ (ap (λ (o : Option Unplaced). items_of f.walks.feeds.turns ++ (option_to_list o ++ [])) free_mid ∙ append-nil (items_of f.walks.feeds.turns)))
        where
          still : f.mid.session.over ≡ false
          still = f.walks.feeds.went.over ∙ (ap (λ (list : List Turn). (talk_from (before s.session) list).over) e ∙ (held.plain.going going).over)
      by (t ∷ older) e b = b.1 ∙ ap (λ (z : List Unplaced). items (take taken octets) ++ z) (ap (λ (z : List Unplaced). items_of f.walks.feeds.turns ++ (option_to_list f.mid.session.waiting ++ z)) (no_length b.0 few) ∙ (ap (λ (o : Option Unplaced). items_of f.walks.feeds.turns ++ (option_to_list o ++ [])) free_mid ∙ append-nil (items_of f.walks.feeds.turns)))
        where
          same : items (take taken octets ++ x ∷ []) ≡ items (take taken octets) ++ (items_of (t ∷ older) ++ b.0)
          same = b.1 ∙ (ap (λ (list : List Turn). items (take taken octets) ++ (items_of list ++ (option_to_list f.mid.session.waiting ++ b.0))) e ∙ ap (λ (o : Option Unplaced). items (take taken octets) ++ (items_of (t ∷ older) ++ (option_to_list o ++ b.0))) free_mid)

          few : length b.0 ≤ 0
          few = omega (arith, one (take taken octets) x, ap length same, length-append (items (take taken octets)) (items_of (t ∷ older) ++ b.0), length-append (items_of (t ∷ older)) b.0, length-append (items_of older) (t.item ∷ []))

  mid_held : IsOrderHeld octets (taken + 1) f.front read over_now f.mid
  mid_held = record {
    plain = held_on octets down f.front taken read x over over_now s.session f.mid.session o (newest hub.history) (newest hub_now.history) fed held.plain some lt is f.walks.feeds free_mid near_mid on_mid is_over;
    stands = λ e. subst (λ (z : List ℕ). StandsForOrders f.mid z) (ap (λ (y : ℕ). take taken octets ++ y ∷ []) (get_or_read octets taken x lt is 0) ∙ sym (take_more octets taken 0 lt))
        (f.walks.stands (take taken octets) (held.stands going) (on_mid.0 (is_over.0 e)));
    first = f.walks.first (take taken octets) (held.stands going) ∙ ap first_header (sym items_are ∙ ap items (ap (λ (y : ℕ). take taken octets ++ y ∷ []) (get_or_read octets taken x lt is 0) ∙ sym (take_more octets taken 0 lt)));
  }

  same_stands : (z : List ℕ) → StandsForOrders f.mid z → StandsForOrders now z
  same_stands z st = by behind
    where
      by : Quiet ⊎ Loud → StandsForOrders now z
      by (inl q) = subst (λ (y : OrderSeen). StandsForOrders y z) (sym q.0) st
      by (inr l) = record {
        octets = st.octets;
        session = subst (λ (y : Seen). StandsFor y.stream z) (sym l.1.session) st.session;
        stream = subst (λ y. StandsFor y z) (sym l.1.stream) st.stream;
        waiting = ap (λ (y : Seen). y.waiting) l.1.session ∙ st.waiting;
        first = l.1.first ∙ st.first;
      }

  same_first : now.first ≡ f.mid.first
  same_first = by behind
    where
      by : Quiet ⊎ Loud → now.first ≡ f.mid.first
      by (inl q) = ap (λ (z : OrderSeen). z.first) q.0
      by (inr l) = l.1.first

  -- the line stands for one octet more
  pub held_now : IsOrderHeld octets (taken + 1) down_now read over_now now
  held_now = record {
    plain = record {
      are = mid_held.plain.are;
      short = mid_held.plain.short;
      within = mid_held.plain.within;
      read_within = let a = mid_held.plain.read_within in let c = longer in omega (arith, a, c);
      going = λ e. subst (λ (z : Seen). IsGoing octets (taken + 1) z) (sym mid_session) (mid_held.plain.going e);
    };
    stands = λ e. same_stands (take (taken + 1) octets) (mid_held.stands e);
    first = same_first ∙ mid_held.first;
  }

  -- ---- the steps

  module _ (law : (h : Header) (octets : List ℕ) (r : _) → (response_in h octets ≡ Some r) ↔ IsResponse h octets r.reply r.id r.result)
      (not_short : (s : Seen) (turns : List Turn) → (talk_from (before s) turns).over ≡ false → ended_short turns ≡ false)
      (is_open : Bool) (opened : is_open ≡ true) (start : hub_now.start ≡ hub.start) (fleet : hub_now.fleet ≡ hub.fleet) (secret : hub_now.secret ≡ hub.secret) (done : Bool) (whole : done ≡ true → IsOk answer × (is_short fed ≡ false))
      (w : OrderWorld) (place : ℕ) (st : StandsIn w place (record { plain = record { number = s.session.number; line = line_of octets taken down read over s.session is_open }; sent = s.sent }) hub b) where
    abbrev line_now : LineOfOrders
    line_now = record { plain = record { number = now.session.number; line = line_of octets (taken + 1) down_now read over_now now.session is_open }; sent = now.sent }

    abbrev mid_line : Line
    mid_line = line_of octets (taken + 1) f.front read over_now f.mid.session is_open

    abbrev item : Option Unplaced
    item = completed_item (line_at w.base.lines place).up

    abbrev steps : StepsUp w.base place s.session f.mid.session (newest hub_now.history) f.front fed f.walks.feeds.turns
    steps = lines.steps one not_short octets down f.front taken read x over over_now is_open s.session f.mid.session o (newest hub.history) (newest hub_now.history) fed held.plain some lt is f.walks.feeds free_mid on_mid is_over opened w.base place st.within st.is st.number st.opening st.history

    line_is : plain.line_behind (line_at w.base.lines place) (talk_after_item s.session.state (completed_item (line_at w.base.lines place).up) steps.way) ≡ line_of octets (taken + 1) f.front read over_now f.mid.session is_open
    line_is = lines.line_is one not_short octets down f.front taken read x over over_now is_open s.session f.mid.session o (newest hub.history) (newest hub_now.history) fed held.plain some lt is f.walks.feeds free_mid on_mid is_over opened w.base place st.within st.is st.number st.opening st.history

    abbrev k : Talked
    k = talk_after_item s.session.state (completed_item (line_at w.base.lines place).up) steps.way

    -- the base behind the octet
    abbrev base_with : Line → World
    base_with l = record w.base { lines = set w.base.lines place l; history = entries_on (suc place) k.entries ++ w.base.history; keeper = shelf_of (key_of w.base.terminal.phone) w.base.keeper (entries_on (suc place) k.entries) }

    base_is : plain.after w.base (plain.Up place steps.way) ≡ base_with mid_line
    base_is = steps.is ∙ ap base_with line_is

    told : ToldSo w place item steps.way b_now f.told
    told = told_so law w place item steps.way f.walks.feeds.turns b_now f.told steps.of (subst (λ (x : Option ℕ). TellsBook x (Some (book_of w)) (Some b_now) f.walks.feeds.turns f.told) (sym st.sent)
        (subst (λ (x : Book). TellsBook s.sent (Some x) (Some b_now) f.walks.feeds.turns f.told) (sym st.book_is) (f.walks.tells (take taken octets) (held.stands going))))

    -- the world behind it, before the session offers
    abbrev mid_world : OrderWorld
    mid_world = record w { base = base_with mid_line; results = b_now.results }

    mid_is : after w (Up place steps.way told.telling) ≡ mid_world
    mid_is = ap (λ (z : World). record w { base = z; results = results_after w.results told.telling }) base_is ∙ ap (λ (r : List ℕ). record w { base = base_with mid_line; results = r }) (sym told.results)

    mid_there : line_at mid_world.base.lines place ≡ mid_line
    mid_there = get_or-set_same w.base.lines place mid_line new_line st.within

    mid_opening : (first : KeeperState) (fleet : Fleet) (secret : List ℕ) → first ≡ hub.start → fleet ≡ hub.fleet → secret ≡ hub.secret → hub_opening (Some (tables_of first)) first.limit fleet secret ≡ opening_of w.base
    mid_opening first fleet secret a c d =
        ap (λ (z : KeeperState). hub_opening (Some (tables_of z)) z.limit fleet secret) a
        ∙ (ap (λ (z : Fleet). hub_opening (Some (tables_of hub.start)) hub.start.limit z secret) c ∙ (ap (λ (z : List ℕ). hub_opening (Some (tables_of hub.start)) hub.start.limit hub.fleet z) d ∙ st.opening))

    mid_stands : StandsIn mid_world place (record { plain = record { number = f.mid.session.number; line = mid_line }; sent = f.mid.sent }) hub_now b_now
    mid_stands = record {
      within = subst (λ (n : ℕ). place < n) (sym (length-set w.base.lines place mid_line)) st.within;
      is = mid_there;
      sent = st.sent ∙ sym f.walks.sent;
      number = f.walks.feeds.went.number ∙ st.number;
      opening = mid_opening hub_now.start hub_now.fleet hub_now.secret start fleet secret;
      history = steps.history;
      book_is = ap (λ (i : _). record { issued = i; results = b_now.results }) (sym told.issued);
    }

    mid_heard : taken_of mid_line.down ≡ taken_of (line_at w.base.lines place).down
    mid_heard = ap (take read) steps.out ∙ (ap (λ (l : Line). take read (l.down.octets ++ k.written)) st.is ∙ (take-append-le read down k.written held.plain.read_within ∙ sym (ap (λ (l : Line). taken_of l.down) st.is)))

    -- with an offer, or none, behind it
    made : OffersInWorld mid_world place line_now done → (done ≡ true → IsOk f.told) → TakesOne w place line_now (newest hub_now.history) b_now done
    made offer told_ok = record {
      way = steps.way;
      telling = told.telling;
      offers = offer.offers;
      may = steps.may;
      tells = told.may;
      offer = λ e. subst (λ (z : OrderWorld). MayOffer z place) (sym mid_is) (offer.may e);
      pairs = k.entries;
      is = ap (λ (z : OrderWorld). offered offer.offers place z) mid_is
          ∙ (offer.is ∙ ap (λ (ls : List Line). record mid_world { base = record mid_world.base { lines = ls }; sent = set w.sent place now.sent }) (set-set w.base.lines place mid_line line_now.plain.line));
      history = steps.history;
      issued = told.issued;
      heard = offer.heard ∙ (ap (λ (l : Line). taken_of l.down) mid_there ∙ mid_heard);
      whole = λ e. record { short = ap is_short (sym steps.ended) ∙ (whole e).1; told = told.whole (told_ok e); offers_is = offer.whole e ∙ ap (λ (z : OrderWorld). may_offer z place) (sym mid_is) };
    }

    pub takes_one : TakesOne w place line_now (newest hub_now.history) b_now done
    takes_one = by behind
      where
        by : Quiet ⊎ Loud → TakesOne w place line_now (newest hub_now.history) b_now done
        by (inr l) = made (offers_one octets f.front down_now (taken + 1) read over_now is_open f.mid now hub_now b_now mid_world place mid_held.first mid_held.plain.read_within opened mid_stands answer done (λ e. (whole e).0) l.1) (λ e. l.0)
        by (inl q) = made (record {
          offers = false;
          may = λ e. absurd (false≢true e);
          is = sym (ap (λ (l : Line). record mid_world { base = record mid_world.base { lines = set mid_world.base.lines place l }; sent = set w.sent place now.sent }) line_same
              ∙ (ap (λ (ls : List Line). record mid_world { base = record mid_world.base { lines = ls }; sent = set w.sent place now.sent }) (set-get_or mid_world.base.lines place new_line)
              ∙ (ap (λ (x : Option ℕ). record mid_world { sent = set w.sent place x }) (ap (λ (z : OrderSeen). z.sent) q.0 ∙ sym mid_stands.sent) ∙ ap (λ (xs : List (Option ℕ)). record mid_world { sent = xs }) (set-get_or w.sent place None))));
          heard = ap (λ (l : Line). taken_of l.down) line_same;
          whole = λ e. absurd (q.2 (whole e).0);
        }) (λ e. absurd (q.2 (whole e).0))
          where
            line_same : line_now.plain.line ≡ line_at mid_world.base.lines place
            line_same = ap (λ (d : List ℕ). line_of octets (taken + 1) d read over_now now.session is_open) q.1 ∙ (ap (λ (z : OrderSeen). line_of octets (taken + 1) f.front read over_now z.session is_open) q.0 ∙ sym mid_there)
