-- A session that offers, as a step of every world in which it stands.
use Rattle.std.proofs.Common.{ℕ, suc, ◌<◌, ◌≤◌, ◌≡◌, ◌≢◌, List, [], ◌++◌, length, take, set, Option, Some, None, Result, Ok, Err, Bool, true, false, refl, ap, sym, ◌∙◌, IsOk}
use Rattle.std.specs.Prelude.{if◌then◌else◌, ◌&&◌, not, nat_lt}
use Rattle.std.proofs.lemmas.Bool.{false≢true, and_parts, ltb-true, eqb-true, eq-eqb}
use Rattle.std.proofs.lemmas.List.{append-nil, take-append-le, set-get_or}
use Rattle.jt_value.specs.Sameness.{key_of}
use Rattle.jt_header.specs.declared.header.Header.{Header}
use Rattle.jt_stream.specs.Unplaced.{items}
use Rattle.jt_store.specs.Memory.{KeeperState}
use Rattle.jt_store.specs.declared.error.StoreError.{StoreError}
use Rattle.jt_platform.specs.History.{holder, live, newest}
use Rattle.jt_platform.specs.Hub.{HubValue}
use Rattle.jt_platform.specs.declared.request.Entry.{Entry}
use Rattle.jt_session.specs.Sessions.{Seen}
use Rattle.jt_order.specs.Books.{Book}
use Rattle.jt_obeying.specs.Orders.{order_at}
use Rattle.jt_order_turns.specs.Headers.{first_header}
use Rattle.jt_order_session.specs.Sessions.{Offers as OffersBy, OffersTo, OrderSeen, frame_offered, frame_on, holds_phone, is_due, is_number, is_session}
use Rattle.jt_octets.specs.World.{Line, line_at, new_line, taken_of}
use Rattle.jt_play.specs.Holding.{line_of}
use Rattle.jt_order_octets.specs.World.{OrderWorld, first_read, sent_at}
use Rattle.jt_order_octets.specs.Steps.{MayOffer, oldest_frame, with_order_written}
use Rattle.jt_order_play.specs.Playing.{book_of, may_offer}
use Rattle.jt_order_play.specs.Holding.{OffersInWorld, LineOfOrders, StandsIn}

-- ---- where a session is to offer it may

session_is : (number : ℕ) (o : Option ℕ) → is_session number o ≡ true → o ≡ Some number
session_is number None e = absurd (false≢true e)
session_is number (Some other) e = ap (λ (n : ℕ). Some n) (eqb-true other number e)

holds_parts : (number : ℕ) (o : Option Header) (h : List Entry) → holds_phone number o h ≡ true → (first : Header) × (o ≡ Some first) × (live (key_of first.phone) h number ≡ true) × (holder (key_of first.phone) h ≡ Some number)
holds_parts number None h e = absurd (false≢true e)
holds_parts number (Some first) h e =
    let both = and_parts (live (key_of first.phone) h number) (is_session number (holder (key_of first.phone) h)) e in
    (first, refl, both.0, session_is number (holder (key_of first.phone) h) both.1)

not_sent : (sent : Option ℕ) (n : ℕ) → not (is_number sent n) ≡ true → sent ≢ Some n
not_sent sent n e same = false≢true (sym (ap not (ap (λ (o : Option ℕ). is_number o n) same ∙ eq-eqb n n refl)) ∙ e)

pub may_offer_is : (w : OrderWorld) (place : ℕ) → place < length w.base.lines → may_offer w place ≡ true → MayOffer w place
may_offer_is w place within e =
    let line = line_at w.base.lines place in
    let outer = and_parts line.is_open (holds_phone (suc place) (first_read w place) w.base.history && is_due (sent_at w place) (book_of w)) e in
    let both = and_parts (holds_phone (suc place) (first_read w place) w.base.history) (is_due (sent_at w place) (book_of w)) outer.1 in
    let due = and_parts (nat_lt (length w.results) (length w.issued)) (not (is_number (sent_at w place) (length w.results))) both.1 in
    let held = holds_parts (suc place) (first_read w place) w.base.history both.0 in
    record {
      opened = within;
      is_open = outer.0;
      waits = ltb-true (length w.results) (length w.issued) due.0;
      first = held.0;
      read = held.1;
      live = held.2;
      holds = held.3;
      new = not_sent (sent_at w place) (length w.results) due.1;
    }

-- ---- the call

pub frame_is : (w : OrderWorld) (o : Option Header) → frame_on o (length w.results) (order_at w.issued (length w.results)) ≡ oldest_frame w o
frame_is w None = refl
frame_is w (Some first) = refl

module _ (octets down down_now : List ℕ) (taken read : ℕ) (over is_open : Bool) (s now : OrderSeen) (hub : HubValue KeeperState) (b : Book) (w : OrderWorld) (place : ℕ) (kept : s.first ≡ first_header (items (take taken octets))) (read_within : read ≤ length down) (opened : is_open ≡ true)
    (st : StandsIn w place (record { plain = record { number = s.session.number; line = line_of octets taken down read over s.session is_open }; sent = s.sent }) hub b) where
  abbrev h : List Entry
  h = newest hub.history

  -- the line with these octets down, whose session is this
  abbrev with_down : List ℕ → Seen → Line
  with_down out x = line_of octets taken out read over x is_open

  abbrev line_now : LineOfOrders
  line_now = record { plain = record { number = now.session.number; line = with_down down_now now.session }; sent = now.sent }

  first_is : s.first ≡ first_read w place
  first_is = kept ∙ ap (λ (l : Line). first_header (items (taken_of l.up))) (sym st.is)

  holds_is : holds_phone s.session.number s.first h ≡ holds_phone (suc place) (first_read w place) w.base.history
  holds_is = ap (λ (n : ℕ). holds_phone n s.first h) st.number ∙ (ap (λ (f : Option Header). holds_phone (suc place) f h) first_is ∙ ap (λ (z : List Entry). holds_phone (suc place) (first_read w place) z) st.history)

  due_is : is_due s.sent b ≡ is_due (sent_at w place) (book_of w)
  due_is = ap (λ (x : Option ℕ). is_due x b) (sym st.sent) ∙ ap (λ (x : Book). is_due (sent_at w place) x) (sym st.book_is)

  front_is : (line_at w.base.lines place).is_open ≡ true
  front_is = ap (λ (l : Line). l.is_open) st.is ∙ opened

  may_is : may_offer w place ≡ (holds_phone s.session.number s.first h && is_due s.sent b)
  may_is = ap (λ (c : Bool). c && (holds_phone (suc place) (first_read w place) w.base.history && is_due (sent_at w place) (book_of w))) front_is
      ∙ (ap (λ (c : Bool). c && is_due (sent_at w place) (book_of w)) (sym holds_is) ∙ ap (λ (c : Bool). holds_phone s.session.number s.first h && c) (sym due_is))

  -- nothing was offered
  stays : now.session ≡ s.session → now.sent ≡ s.sent → down_now ≡ down → (done : Bool) → (done ≡ true → may_offer w place ≡ false) → OffersInWorld w place line_now done
  stays session sent out done quiet = record {
    offers = false;
    may = λ e. absurd (false≢true e);
    is = sym (ap (λ (l : Line). record w { base = record w.base { lines = set w.base.lines place l }; sent = set w.sent place now.sent }) line_same
        ∙ (ap (λ (ls : List Line). record w { base = record w.base { lines = ls }; sent = set w.sent place now.sent }) (set-get_or w.base.lines place new_line)
        ∙ (ap (λ (x : Option ℕ). record w { sent = set w.sent place x }) (sent ∙ sym st.sent) ∙ ap (λ (xs : List (Option ℕ)). record w { sent = xs }) (set-get_or w.sent place None))));
    heard = ap (λ (l : Line). taken_of l.down) line_same;
    whole = λ e. sym (quiet e);
  }
    where
      line_same : with_down down_now now.session ≡ line_at w.base.lines place
      line_same = ap (λ (d : List ℕ). with_down d now.session) out ∙ (ap (with_down down) session ∙ sym st.is)

  -- the oldest order was
  goes : now.session ≡ s.session → (now.sent ≡ (if is_due s.sent b then Some (length b.results) else s.sent)) × (down_now ≡ down ++ frame_offered s b) → holds_phone s.session.number s.first h ≡ true → is_due s.sent b ≡ true → (done : Bool)
      → OffersInWorld w place line_now done
  goes session both holds due done = record {
    offers = true;
    may = λ e. may_offer_is w place st.within may;
    is = ap (λ (l : Line). record w { base = record w.base { lines = set w.base.lines place l }; sent = set w.sent place (Some (length w.results)) }) line_is
        ∙ ap (λ (x : Option ℕ). record w { base = record w.base { lines = set w.base.lines place (with_down down_now now.session) }; sent = set w.sent place x }) (sym sent_is);
    heard = ap (λ (l : Line). taken_of l.down) (sym line_is) ∙ (ap (λ (l : Line). take l.down.taken (l.down.octets ++ frame)) st.is ∙ (take-append-le read down frame read_within ∙ sym (ap (λ (l : Line). taken_of l.down) st.is)));
    whole = λ e. sym may;
  }
    where
      may : may_offer w place ≡ true
      may = may_is ∙ (ap (λ (c : Bool). c && is_due s.sent b) holds ∙ due)

      frame : List ℕ
      frame = oldest_frame w (first_read w place)

      sent_is : now.sent ≡ Some (length w.results)
      sent_is = both.0 ∙ (ap (λ (c : Bool). if c then Some (length b.results) else s.sent) due ∙ ap (λ (x : Book). Some (length x.results)) (sym st.book_is))

      down_is : down_now ≡ down ++ oldest_frame w (first_read w place)
      down_is = both.1 ∙ (ap (λ (c : Bool). down ++ (if c then frame_on s.first (length b.results) (order_at b.issued (length b.results)) else [])) due
          ∙ (ap (λ (x : Book). down ++ frame_on s.first (length x.results) (order_at x.issued (length x.results))) (sym st.book_is)
          ∙ (ap (λ (f : Option Header). down ++ frame_on f (length w.results) (order_at w.issued (length w.results))) first_is ∙ ap (λ (f : List ℕ). down ++ f) (frame_is w (first_read w place)))))

      line_is : with_order_written (line_at w.base.lines place) (oldest_frame w (first_read w place)) ≡ with_down down_now now.session
      line_is = ap (λ (l : Line). with_order_written l (oldest_frame w (first_read w place))) st.is ∙ (ap (λ (d : List ℕ). with_down d s.session) (sym down_is) ∙ ap (with_down down_now) (sym session))

  pub offers_one : (answer : Result (Unit {0}) StoreError) (done : Bool) → (done ≡ true → IsOk answer) → OffersBy s now h (Some b) down down_now answer → OffersInWorld w place line_now done
  offers_one (Err error) done ok o = stays o.session o.err.0 o.err.1 done (λ e. absurd (false≢true (ok e)))
  offers_one (Ok x) done ok o = by (holds_phone s.session.number s.first h) refl o.ok
    where
      by : (c : Bool) → holds_phone s.session.number s.first h ≡ c → OffersTo c s now.sent (Some b) down down_now → OffersInWorld w place line_now done
      by false e to = stays o.session to.0 to.1 done (λ e-2. may_is ∙ ap (λ (c : Bool). c && is_due s.sent b) e)
      by true e to = due (is_due s.sent b) refl
        where
          due : (c : Bool) → is_due s.sent b ≡ c → OffersInWorld w place line_now done
          due true f = goes o.session to.1 e f done
          due false f =
              stays o.session (to.1.0 ∙ ap (λ (c : Bool). if c then Some (length b.results) else s.sent) f)
              (to.1.1 ∙ (ap (λ (c : Bool). down ++ (if c then frame_on s.first (length b.results) (order_at b.issued (length b.results)) else [])) f ∙ append-nil down)) done
              (λ e-2. may_is ∙ (ap (λ (c : Bool). holds_phone s.session.number s.first h && c) f ∙ ap (λ (c : Bool). c && false) e))
