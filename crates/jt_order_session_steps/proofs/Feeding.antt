-- Octets that are fed to an order session, as steps of the world in which it stands.
use Rattle.std.proofs.Common.{ℕ, suc, ◌+◌, ◌-◌, ◌<◌, ◌≤◌, ◌≡◌, ◌⊎◌, List, [], ◌∷◌, ◌++◌, length, take, drop, set, Option, Some, None, Result, Ok, Err, Bool, true, false, OnOk, OnErr, arith, refl, ap, sym, ◌∙◌, subst, append_assoc, inl, inr}
use Rattle.std.specs.Prelude.{if◌then◌else◌, ◌&&◌, is_ok}
use Rattle.std.specs.Option.{option_to_list}
use Rattle.std.proofs.lemmas.Bool.{false≢true}
use Rattle.std.proofs.lemmas.List.{append-nil, length-append, length-drop, length-set, set-set, take-append-drop, take-append-le, take_all}
use Rattle.std.proofs.Math.Seq.{take-add}
use Rattle.jt_escape.specs.Splitter.{StandsFor}
use Rattle.jt_stream.specs.Unplaced.{Unplaced, items}
use Rattle.jt_store.specs.declared.error.StoreError.{StoreError}
use Rattle.jt_platform.specs.Allowed.{Opening}
use Rattle.jt_platform.specs.declared.request.Entry.{Entry}
use Rattle.jt_session.specs.Talk.{State, Turn, Talked, FitsFrom, at_state, items_of, talk_from}
use Rattle.jt_session.specs.Sessions.{MayTurn, Seen, before, entries_on}
use Rattle.jt_session.specs.declared.end.Fed.{Fed}
use Rattle.jt_session.proofs.Joining.{not_short}
use Rattle.jt_order.specs.Books.{Book}
use Rattle.jt_order.specs.Orders.{OrderOf}
use Rattle.jt_order_turns.specs.Headers.{first_header}
use Rattle.jt_order_session.specs.Sessions.{FeedsOrders, Offers as OffersBy, OrderSeen, StandsForOrders, Tells as TellsBook, book_by_turns}
use Rattle.jt_octets.specs.World.{Line, Wire, line_at, opening_of, taken_of}
use Rattle.jt_octets.specs.Steps.{kept_of}
use Rattle.jt_order_octets.specs.World.{OrderWorld, sent_at}
use Rattle.jt_order_octets.specs.Steps.{Event, after, with_order_written}
use Rattle.jt_value.specs.Reaching.{after_all}
use Rattle.jt_order_play.specs.Playing.{book_of, may_offer}
use Rattle.jt_order_session_steps.specs.Steps.{AreNext, FeedsAreSteps, FeedsBySteps, IsOpen, SessionStandsIn, StepsTo, after_call, offer_in, state_kept, ups}
use Rattle.jt_order_session_steps.proofs.Leading.{both_steps, steps_to}
use Rattle.jt_order_session_steps.proofs.Standing.{open_behind, stands_behind}
use Rattle.jt_order_session_steps.proofs.Offering.{Offered, offered, quiet, with_offer}
use Rattle.jt_order_session_steps.proofs.Telling.{known_turns}
use Rattle.jt_order_session_steps.proofs.Octet.{line_there, line_walked, walked}
use Rattle.jt_order_session_steps.proofs.Walking.{Completes, Fronts, Ones, Responses, Walked, cut_at, walk}

-- ---- octets that are next

module _ (wire : Wire) (octets : List ℕ) (next : AreNext wire octets) where
  abbrev rest : List ℕ
  rest = drop (length octets) (drop wire.taken wire.octets)

  split : drop wire.taken wire.octets ≡ octets ++ rest
  split = sym (take-append-drop (length octets) (drop wire.taken wire.octets)) ∙ ap (λ (l : List ℕ). l ++ rest) next

  pub next_left : length octets ≤ length wire.octets - wire.taken
  next_left = let e = ap length split in omega (arith, e, length-drop wire.taken wire.octets, length-append octets rest)

  pub next_read : (n : ℕ) → n ≤ length octets → take (wire.taken + n) wire.octets ≡ taken_of wire ++ take n octets
  next_read n le = take-add wire.taken n wire.octets ∙ ap (λ (l : List ℕ). taken_of wire ++ l) (ap (take n) split ∙ take-append-le n octets rest le)

  pub next_all : take (wire.taken + length octets) wire.octets ≡ taken_of wire ++ octets
  next_all = next_read (length octets) (omega arith) ∙ ap (λ (l : List ℕ). taken_of wire ++ l) (take_all (length octets) octets (omega arith))

-- ---- the call

module _ (one : Ones) (front : Fronts) (law : Responses) (w : OrderWorld) (place : ℕ) (s now : OrderSeen) (octets : List ℕ) (o : Opening) (h h_now : List Entry) (book book_now : Option Book) (out out_now : List ℕ) (fed : Fed) (answer : Result (Unit {0}) StoreError)
    (st : SessionStandsIn w place s o h book) (opened : IsOpen w place) (going : s.session.over ≡ false) (next : AreNext (line_at w.base.lines place).up octets) (free : now.session.waiting ≡ None)
    (f : FeedsOrders s now octets o h h_now book book_now out out_now fed answer) where
  abbrev line : Line
  line = line_at w.base.lines place

  abbrev up : Wire
  up = line.up

  abbrev turns : List Turn
  turns = f.walks.feeds.turns

  abbrev k : Talked
  k = talk_from (at_state s.session.state) turns

  given : StandsForOrders s (taken_of up)
  given = st.given going

  keeps : line.session ≡ Some s.session.state
  keeps = st.keeps ∙ ap (λ (b : Bool). if b then None else Some s.session.state) going

  same : before s.session ≡ at_state s.session.state
  same = ap (λ (b : Bool). record (at_state s.session.state) { over = b }) going

  same_talk : talk_from (before s.session) turns ≡ k
  same_talk = ap (λ (c : Talked). talk_from c turns) same

  -- ---- behind the octets: the book had failed, or the session offered

  abbrev Quiet : Type 0
  Quiet = (now ≡ f.mid) × (out_now ≡ f.front) × (is_ok answer ≡ false)

  abbrev Loud : Type 0
  Loud = OffersBy f.mid now h_now book_now f.front out_now answer

  last : Quiet ⊎ Loud
  last = by f.told refl
    where
      by : (t : Result (Unit {0}) StoreError) → f.told ≡ t → Quiet ⊎ Loud
      by (Err error) e = let d = subst (λ (t : Result (Unit {0}) StoreError). OnErr t ((now ≡ f.mid) × (out_now ≡ f.front) × (answer ≡ f.told))) e f.failed in inl (d.0, d.1, ap is_ok (d.2 ∙ e))
      by (Ok y) e = inr (subst (λ (t : Result (Unit {0}) StoreError). OnOk t (OffersBy f.mid now h_now book_now f.front out_now answer)) e f.offers)

  mid_session : now.session ≡ f.mid.session
  mid_session = by last
    where
      by : Quiet ⊎ Loud → now.session ≡ f.mid.session
      by (inl q) = ap (λ (z : OrderSeen). z.session) q.0
      by (inr l) = l.session

  mid_first : now.first ≡ f.mid.first
  mid_first = by last
    where
      by : Quiet ⊎ Loud → now.first ≡ f.mid.first
      by (inl q) = ap (λ (z : OrderSeen). z.first) q.0
      by (inr l) = l.first

  mid_given : (read : List ℕ) → StandsForOrders f.mid read → StandsForOrders now read
  mid_given read g = by last
    where
      by : Quiet ⊎ Loud → StandsForOrders now read
      by (inl q) = subst (λ (z : OrderSeen). StandsForOrders z read) (sym q.0) g
      by (inr l) = record {
        octets = g.octets;
        session = subst (λ (z : Seen). StandsFor z.stream read) (sym l.session) g.session;
        stream = subst (λ z. StandsFor z read) (sym l.stream) g.stream;
        waiting = ap (λ (z : Seen). z.waiting) l.session ∙ g.waiting;
        first = l.first ∙ g.first;
      }

  over_mid : f.mid.session.over ≡ k.over
  over_mid = f.walks.feeds.went.over ∙ ap (λ (c : Talked). c.over) same_talk

  over_now : now.session.over ≡ k.over
  over_now = ap (λ (z : Seen). z.over) mid_session ∙ over_mid

  -- what the line keeps is what the session does
  kept_is : kept_of k ≡ state_kept now.session
  kept_is = by k.over refl
    where
      by : (b : Bool) → k.over ≡ b → kept_of k ≡ state_kept now.session
      by true e = ap (λ (b : Bool). if b then None else Some k.state) e ∙ sym (ap (λ (b : Bool). if b then None else Some now.session.state) (over_now ∙ e))
      by false e =
          let still = f.walks.feeds.went.state (not_short (before s.session) turns (ap (λ (c : Talked). c.over) same_talk ∙ e)) in
          ap (λ (b : Bool). if b then None else Some k.state) e
          ∙ (ap (λ (x : State). Some x) (sym (ap (λ (z : Seen). z.state) mid_session ∙ (still ∙ ap (λ (c : Talked). c.state) same_talk))) ∙ sym (ap (λ (b : Bool). if b then None else Some now.session.state) (over_now ∙ e)))

  -- ---- how many octets were taken

  -- so many, all while the session goes on, which brought the items of the turns
  record Count : Type 0 where
    count : ℕ
    most : count ≤ length octets
    all : k.over ≡ false → count ≡ length octets
    brought : items (take (up.taken + count) up.octets) ≡ items (taken_of up) ++ items_of turns
    ends : k.over ≡ true → Completes one front law w place s.session.state st.within opened keeps count

  abbrev Split : Type 0
  Split = (rest : List Unplaced) × (items (take (up.taken + length octets) up.octets) ≡ items (taken_of up) ++ (items_of turns ++ rest)) × (f.mid.session.over ≡ false → rest ≡ [])

  split_items : Split
  split_items =
      let b = f.walks.feeds.went.items (taken_of up) (items (taken_of up)) given.octets given.session (sym (ap (λ (x : Option Unplaced). items (taken_of up) ++ option_to_list x) given.waiting ∙ append-nil (items (taken_of up)))) in (
        b.0,
        ap items (next_all up octets next) ∙ (b.1 ∙ ap (λ (x : Option Unplaced). items (taken_of up) ++ (items_of turns ++ (option_to_list x ++ b.0))) (ap (λ (z : Seen). z.waiting) (sym mid_session) ∙ free)),
        λ e. (b.2 e).0,
      )

  -- a session that ended did so at a turn
  some_turn : k.over ≡ true → 0 < length (items_of turns)
  some_turn e = by turns refl
    where
      by : (ts : List Turn) → turns ≡ ts → 0 < length (items_of turns)
      by [] none = absurd (false≢true (sym (ap (λ (ts : List Turn). (talk_from (at_state s.session.state) ts).over) none) ∙ e))
      by (t ∷ older) some = let e-2 = ap (λ (ts : List Turn). length (items_of ts)) some in omega (arith, e-2, length-append (items_of older) (t.item ∷ []))

  counted : Count
  counted = by k.over refl
    where
      by : (b : Bool) → k.over ≡ b → Count
      by false e = record {
        count = length octets;
        most = omega arith;
        all = λ e-2. refl;
        brought = split_items.1 ∙ ap (λ (l : List Unplaced). items (taken_of up) ++ l) (ap (λ (l : List Unplaced). items_of turns ++ l) (split_items.2 (over_mid ∙ e)) ∙ append-nil (items_of turns));
        ends = λ e-2. absurd (false≢true (sym e ∙ e-2));
      }
      by true e =
          let c = cut_at one front law w place s.session.state st.within opened keeps (length octets) turns split_items.0 (next_left up octets next) (some_turn e) split_items.1 in
          record { count = c.count; most = c.most; all = λ e-2. absurd (false≢true (sym e-2 ∙ e)); brought = c.brought; ends = λ e-2. c.last }

  abbrev n : ℕ
  n = counted.count

  n_left : n ≤ length up.octets - up.taken
  n_left = let a = counted.most in let b = next_left up octets next in omega (arith, a, b)

  most_now : up.taken + n ≤ length up.octets
  most_now = let a = n_left in let b = st.most in omega (arith, a, b)

  -- ---- the book

  tells : TellsBook s.sent book book_now turns f.told
  tells = f.walks.tells (taken_of up) given

  abbrev book_told : (b : Book) × (book_by_turns s.sent tells.older (Some (book_of w)) ≡ Some b)
  book_told = known_turns s.sent tells.older (book_of w)

  abbrev b_now : Book
  b_now = book_told.0

  book_is : book_now ≡ Some b_now
  book_is = tells.told ∙ (ap (book_by_turns s.sent tells.older) st.book_is ∙ book_told.1)

  tells_there : TellsBook (sent_at w place) (Some (book_of w)) (Some b_now) turns f.told
  tells_there = subst (λ (x : Option ℕ). TellsBook x (Some (book_of w)) (Some b_now) turns f.told) st.sent
      (subst (λ (x : Option Book). TellsBook s.sent x (Some b_now) turns f.told) st.book_is (subst (λ (x : Option Book). TellsBook s.sent book x turns f.told) book_is tells))

  -- ---- the octets, as steps

  fits : FitsFrom (at_state s.session.state) turns
  fits = subst (λ (c : Talked). FitsFrom c turns) same f.walks.feeds.went.fits

  may : MayTurn (opening_of w.base) w.base.history (suc place) (at_state s.session.state) turns
  may = subst (λ (x : Opening). MayTurn x w.base.history (suc place) (at_state s.session.state) turns) st.opening
      (subst (λ (x : List Entry). MayTurn o x (suc place) (at_state s.session.state) turns) st.history (subst (λ (x : ℕ). MayTurn o h x (at_state s.session.state) turns) st.number (subst (λ (c : Talked). MayTurn o h s.session.number c turns) same f.walks.feeds.allowed)))

  abbrev v : OrderWorld
  v = walked w place n k b_now.results

  octet_steps : Walked one front law w place s.session.state st.within opened keeps n turns b_now f.told
  octet_steps = walk one front law w place s.session.state st.within opened keeps n turns b_now f.told n_left counted.brought fits may counted.ends tells_there

  there : line_at v.base.lines place ≡ line_walked line n k
  there = line_there w place n k b_now.results st.within

  book_there : book_now ≡ Some (book_of v)
  book_there = book_is ∙ ap (λ (i : List OrderOf). Some (record { issued = i; results = b_now.results })) octet_steps.issued

  first_mid : f.mid.first ≡ first_header (items (take (up.taken + n) up.octets))
  first_mid = f.walks.first (taken_of up) given ∙ ap first_header (sym counted.brought)

  history_now : h_now ≡ entries_on (suc place) k.entries ++ w.base.history
  history_now = f.walks.feeds.entries
      ∙ (ap (λ (c : Talked). entries_on s.session.number c.entries ++ h) same_talk ∙ (ap (λ (x : ℕ). entries_on x k.entries ++ h) st.number ∙ ap (λ (x : List Entry). entries_on (suc place) k.entries ++ x) st.history))

  -- ---- and the offer

  made : Offered v place now.sent f.front out_now (is_ok answer && may_offer v place)
  made = by last
    where
      by : Quiet ⊎ Loud → Offered v place now.sent f.front out_now (is_ok answer && may_offer v place)
      by (inl q) = subst (Offered v place now.sent f.front out_now) (sym (ap (λ (c : Bool). c && may_offer v place) q.2)) (quiet v place now.sent f.front out_now (ap (λ (z : OrderSeen). z.sent) q.0 ∙ (f.walks.sent ∙ st.sent)) q.1)
      by (inr l) = offered v place f.mid now h_now (subst (λ (m : ℕ). place < m) (sym (length-set w.base.lines place (line_walked line n k))) st.within) (ap (λ (x : Line). x.is_open) there ∙ opened) (f.walks.feeds.went.number ∙ st.number)
          (first_mid ∙ ap (λ (x : Line). first_header (items (taken_of x.up))) (sym there)) (f.walks.sent ∙ st.sent) history_now f.front out_now answer
          (subst (λ (x : Option Book). OffersBy f.mid now h_now x f.front out_now answer) book_there l)

  -- ---- the world behind

  abbrev written_now : List ℕ
  written_now = k.written ++ made.octets

  abbrev world_of : List Line → OrderWorld
  world_of lines = record v { base = record v.base { lines = lines }; sent = set w.sent place now.sent }

  abbrev line_of : List ℕ → Option State → Line
  line_of octets-2 session = record { up = record { octets = up.octets; taken = up.taken + n }; down = record { octets = octets-2; taken = line.down.taken }; session = session; is_open = line.is_open }

  is : with_offer v place made.octets now.sent ≡ after_call w place now n written_now k.entries b_now.results
  is = ap (λ (l : Line). world_of (set v.base.lines place (with_order_written l made.octets))) there
      ∙ (ap world_of (set-set w.base.lines place (line_walked line n k) (with_order_written (line_walked line n k) made.octets))
      ∙ (ap (λ (d : List ℕ). world_of (set w.base.lines place (line_of d (kept_of k)))) (append_assoc line.down.octets k.written made.octets)
      ∙ ap (λ (x : Option State). world_of (set w.base.lines place (line_of (line.down.octets ++ written_now) x))) kept_is))

  given_now : now.session.over ≡ false → StandsForOrders now (take (up.taken + n) up.octets)
  given_now e =
      let still = sym over_now ∙ e in
      mid_given (take (up.taken + n) up.octets) (subst (λ (z : List ℕ). StandsForOrders f.mid z) (sym (ap (λ (m : ℕ). take (up.taken + m) up.octets) (counted.all still) ∙ next_all up octets next)) (f.walks.stands (taken_of up) given (over_mid ∙ still)))

  wrote_now : out_now ≡ out ++ written_now
  wrote_now = made.wrote ∙ (ap (λ (l : List ℕ). l ++ made.octets) (f.walks.feeds.wrote ∙ ap (λ (c : Talked). out ++ c.written) same_talk) ∙ append_assoc out k.written made.octets)

  abbrev steps : StepsTo w place n now o h_now book_now out out_now
  steps = record {
    octets = written_now;
    wrote = wrote_now;
    pairs = k.entries;
    results = b_now.results;
    leads = steps_to w (with_offer v place made.octets now.sent) (after_call w place now n written_now k.entries b_now.results) (both_steps w v (with_offer v place made.octets now.sent) octet_steps.leads made.leads) is;
    stands = stands_behind w place now n written_now k.entries b_now.results o h_now book_now st.within st.noted (ap (λ (z : Seen). z.number) mid_session ∙ (f.walks.feeds.went.number ∙ st.number)) most_now given_now (mid_first ∙ first_mid) st.opening history_now book_there;
    stays_open = open_behind w place now n written_now k.entries b_now.results st.within;
  }

  -- the world behind the octets is the one that their steps lead to
  there_by_steps : v ≡ after_all after w (ups place octet_steps.course)
  there_by_steps = sym (ap (after_all after w) (sym octet_steps.events) ∙ octet_steps.leads.to)

  events_are : octet_steps.leads.events ++ made.leads.events ≡ ups place octet_steps.course ++ offer_in (after_all after w (ups place octet_steps.course)) place answer
  events_are = ap (λ (es : List Event). es ++ made.leads.events) octet_steps.events
      ∙ (ap (λ (es : List Event). ups place octet_steps.course ++ es) made.events ∙ ap (λ (z : OrderWorld). ups place octet_steps.course ++ offer_in z place answer) there_by_steps)

  pub feeds_by_steps : FeedsBySteps w place now octets turns o h_now book_now out out_now f.told answer
  feeds_by_steps = record {
    count = n;
    takes = record {
      most = counted.most;
      all = λ e. counted.all (sym over_now ∙ e);
      brought = ap items (sym (next_read up octets next n counted.most)) ∙ counted.brought;
    };
    steps = steps;
    course = octet_steps.course;
    each = octet_steps.each;
    events = events_are;
    told = octet_steps.none_fails;
  }

pub feeds_are_steps : Ones → Fronts → Responses → FeedsAreSteps
feeds_are_steps one front law w place s now octets o h h_now book book_now out out_now fed answer st opened going next free f =
    feeds_by_steps one front law w place s now octets o h h_now book book_now out out_now fed answer st opened going next free f
