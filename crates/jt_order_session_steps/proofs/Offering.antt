-- A session that offers, as a step of the world in which it stands.
use Rattle.std.proofs.Common.{ℕ, suc, ◌+◌, ◌<◌, ◌≤◌, ◌≡◌, List, [], ◌++◌, length, take, set, Option, Some, None, Result, Ok, Err, Bool, true, false, arith, refl, ap, sym, ◌∙◌, subst}
use Rattle.std.specs.Prelude.{if◌then◌else◌, ◌&&◌, is_ok}
use Rattle.std.proofs.lemmas.List.{append-nil, set-get_or}
use Rattle.jt_escape.specs.Splitter.{StandsFor}
use Rattle.jt_header.specs.declared.header.Header.{Header}
use Rattle.jt_stream.specs.Unplaced.{items}
use Rattle.jt_store.specs.declared.error.StoreError.{StoreError}
use Rattle.jt_platform.specs.Allowed.{Opening}
use Rattle.jt_platform.specs.declared.request.Entry.{Entry}
use Rattle.jt_session.specs.Sessions.{Seen}
use Rattle.jt_session.specs.Talk.{State}
use Rattle.jt_order.specs.Books.{Book}
use Rattle.jt_obeying.specs.Orders.{order_at}
use Rattle.jt_order_turns.specs.Headers.{first_header}
use Rattle.jt_order_session.specs.Sessions.{Offers as OffersBy, OffersTo, OrderSeen, StandsForOrders, frame_on, holds_phone, is_due}
use Rattle.jt_octets.specs.World.{Line, line_at, new_line, taken_of}
use Rattle.jt_order_octets.specs.World.{OrderWorld, first_read, sent_at}
use Rattle.jt_order_octets.specs.Reaching.{Leads}
use Rattle.jt_order_octets.specs.Steps.{Offers, after, oldest_frame, with_order_written}
use Rattle.jt_order_play.specs.Playing.{book_of, may_offer}
use Rattle.jt_order_play.proofs.Offering.{may_offer_is, frame_is}
use Rattle.jt_order_session_steps.specs.Steps.{IsOpen, OffersAreSteps, SessionStandsIn, StepsTo, after_call, offer_if, state_kept}
use Rattle.jt_order_session_steps.proofs.Leading.{no_step, one_step, steps_to}
use Rattle.jt_order_session_steps.proofs.Standing.{open_behind, stands_behind}

-- the world in which these octets were written on the line, and this was sent last
abbrev pub with_offer : OrderWorld → ℕ → List ℕ → Option ℕ → OrderWorld
with_offer v place octets sent = record v {
  base = record v.base { lines = set v.base.lines place (with_order_written (line_at v.base.lines place) octets) };
  sent = set v.sent place sent;
}

-- a step leads there, or none, with octets that stand behind what was written
pub record Offered (v : OrderWorld) (place : ℕ) (sent : Option ℕ) (out out_now : List ℕ) (offers : Bool) : Type 0 where
  pub octets : List ℕ
  pub wrote : out_now ≡ out ++ octets
  pub leads : Leads v (with_offer v place octets sent)
  pub events : leads.events ≡ offer_if offers place

-- the world with another line there, or another order that was sent last
abbrev world_with : OrderWorld → List Line → List (Option ℕ) → OrderWorld
world_with v lines sent = record v { base = record v.base { lines = lines }; sent = sent }

-- nothing was offered
pub quiet : (v : OrderWorld) (place : ℕ) (sent : Option ℕ) (out out_now : List ℕ) → sent ≡ sent_at v place → out_now ≡ out → Offered v place sent out out_now false
quiet v place sent out out_now same none = record {
  octets = [];
  wrote = none ∙ sym (append-nil out);
  leads = no_step v (with_offer v place [] sent) is;
  events = refl;
}
  where
    is : with_offer v place [] sent ≡ v
    is = ap (λ (d : List ℕ). world_with v (set v.base.lines place (record (line_at v.base.lines place) { down = record (line_at v.base.lines place).down { octets = d } })) (set v.sent place sent)) (append-nil (line_at v.base.lines place).down.octets)
        ∙ (ap (λ (ls : List Line). world_with v ls (set v.sent place sent)) (set-get_or v.base.lines place new_line)
        ∙ (ap (λ (x : Option ℕ). world_with v v.base.lines (set v.sent place x)) same ∙ ap (world_with v v.base.lines) (set-get_or v.sent place None)))

module _ (v : OrderWorld) (place : ℕ) (s now : OrderSeen) (h : List Entry) (within : place < length v.base.lines) (opened : IsOpen v place) (number : s.session.number ≡ suc place) (first : s.first ≡ first_read v place) (sent : s.sent ≡ sent_at v place)
    (history : h ≡ v.base.history) where
  abbrev b : Book
  b = book_of v

  holds_is : holds_phone s.session.number s.first h ≡ holds_phone (suc place) (first_read v place) v.base.history
  holds_is = ap (λ (n : ℕ). holds_phone n s.first h) number ∙ (ap (λ (f : Option Header). holds_phone (suc place) f h) first ∙ ap (λ (z : List Entry). holds_phone (suc place) (first_read v place) z) history)

  may_is : may_offer v place ≡ (holds_phone s.session.number s.first h && is_due s.sent b)
  may_is = ap (λ (c : Bool). c && (holds_phone (suc place) (first_read v place) v.base.history && is_due (sent_at v place) b)) opened
      ∙ (ap (λ (c : Bool). c && is_due (sent_at v place) b) (sym holds_is) ∙ ap (λ (x : Option ℕ). holds_phone s.session.number s.first h && is_due x b) (sym sent))

  -- the oldest order was
  loud : (out out_now : List ℕ) → (now.sent ≡ (if is_due s.sent b then Some (length b.results) else s.sent)) × (out_now ≡ out ++ (if is_due s.sent b then frame_on s.first (length b.results) (order_at b.issued (length b.results)) else []))
      → holds_phone s.session.number s.first h ≡ true → is_due s.sent b ≡ true → Offered v place now.sent out out_now (may_offer v place)
  loud out out_now both holds due = subst (Offered v place now.sent out out_now) (sym may) (record {
    octets = oldest_frame v (first_read v place);
    wrote = both.1 ∙ (ap (λ (c : Bool). out ++ (if c then frame_on s.first (length b.results) (order_at b.issued (length b.results)) else [])) due
        ∙ (ap (λ (f : Option Header). out ++ frame_on f (length v.results) (order_at v.issued (length v.results))) first ∙ ap (λ (f : List ℕ). out ++ f) (frame_is v (first_read v place))));
    leads = steps_to v (after v (Offers place)) (with_offer v place (oldest_frame v (first_read v place)) now.sent) (one_step v (Offers place) (may_offer_is v place within may))
        (ap (λ (x : Option ℕ). world_with v (set v.base.lines place (with_order_written (line_at v.base.lines place) (oldest_frame v (first_read v place)))) (set v.sent place x)) (sym sent_is));
    events = refl;
  })
    where
      may : may_offer v place ≡ true
      may = may_is ∙ (ap (λ (c : Bool). c && is_due s.sent b) holds ∙ due)

      sent_is : now.sent ≡ Some (length v.results)
      sent_is = both.0 ∙ ap (λ (c : Bool). if c then Some (length b.results) else s.sent) due

  pub offered : (out out_now : List ℕ) (answer : Result (Unit {0}) StoreError) → OffersBy s now h (Some b) out out_now answer → Offered v place now.sent out out_now (is_ok answer && may_offer v place)
  offered out out_now (Err error) o = quiet v place now.sent out out_now (o.err.0 ∙ sent) o.err.1
  offered out out_now (Ok x) o = by (holds_phone s.session.number s.first h) refl o.ok
    where
      silent : may_offer v place ≡ false → Offered v place now.sent out out_now false → Offered v place now.sent out out_now (may_offer v place)
      silent e made = subst (Offered v place now.sent out out_now) (sym e) made

      by : (c : Bool) → holds_phone s.session.number s.first h ≡ c → OffersTo c s now.sent (Some b) out out_now → Offered v place now.sent out out_now (may_offer v place)
      by false e to = silent (may_is ∙ ap (λ (c : Bool). c && is_due s.sent b) e) (quiet v place now.sent out out_now (to.0 ∙ sent) to.1)
      by true e to = due (is_due s.sent b) refl
        where
          due : (c : Bool) → is_due s.sent b ≡ c → Offered v place now.sent out out_now (may_offer v place)
          due true f = loud out out_now to.1 e f
          due false f = silent (may_is ∙ (ap (λ (c : Bool). holds_phone s.session.number s.first h && c) f ∙ ap (λ (c : Bool). c && false) e)) (quiet v place now.sent out out_now (to.1.0 ∙ (ap (λ (c : Bool). if c then Some (length b.results) else s.sent) f ∙ sent))
              (to.1.1 ∙ (ap (λ (c : Bool). out ++ (if c then frame_on s.first (length b.results) (order_at b.issued (length b.results)) else [])) f ∙ append-nil out)))

-- ---- the law

add_zero : (n : ℕ) → n + 0 ≡ n
add_zero n = omega arith

module _ (w : OrderWorld) (place : ℕ) (s now : OrderSeen) (o : Opening) (h : List Entry) (book : Option Book) (out out_now : List ℕ) (answer : Result (Unit {0}) StoreError) (st : SessionStandsIn w place s o h book) (opened : IsOpen w place)
    (by_call : OffersBy s now h book out out_now answer) where
  abbrev line : Line
  line = line_at w.base.lines place

  made : Offered w place now.sent out out_now (is_ok answer && may_offer w place)
  made = offered w place s now h st.within opened st.number st.first st.sent st.history out out_now answer (subst (λ (x : Option Book). OffersBy s now h x out out_now answer) st.book_is by_call)

  -- the line keeps what it kept of the session, and took no octet
  keeps_now : line.session ≡ state_kept now.session
  keeps_now = st.keeps ∙ ap state_kept (sym by_call.session)

  abbrev world_of : ℕ → Option State → List ℕ → OrderWorld
  world_of taken session octets = record w {
    base = record w.base { lines = set w.base.lines place (record { up = record { octets = line.up.octets; taken = taken }; down = record { octets = line.down.octets ++ octets; taken = line.down.taken }; session = session; is_open = line.is_open }) };
    sent = set w.sent place now.sent;
  }

  is : (octets : List ℕ) → with_offer w place octets now.sent ≡ after_call w place now 0 octets [] w.results
  is octets = ap (λ (n : ℕ). world_of n line.session octets) (sym (add_zero line.up.taken)) ∙ ap (λ (x : Option State). world_of (line.up.taken + 0) x octets) keeps_now

  given_now : now.session.over ≡ false → StandsForOrders now (taken_of line.up)
  given_now going =
      let old = st.given (ap (λ (x : Seen). x.over) (sym by_call.session) ∙ going) in
      record {
        octets = old.octets;
        session = subst (λ (x : Seen). StandsFor x.stream (taken_of line.up)) (sym by_call.session) old.session;
        stream = subst (λ x. StandsFor x (taken_of line.up)) (sym by_call.stream) old.stream;
        waiting = ap (λ (x : Seen). x.waiting) by_call.session ∙ old.waiting;
        first = by_call.first ∙ old.first;
      }

  taken_same : taken_of line.up ≡ take (line.up.taken + 0) line.up.octets
  taken_same = ap (λ (n : ℕ). take n line.up.octets) (sym (add_zero line.up.taken))

  abbrev steps : StepsTo w place 0 now o h book out out_now
  steps = record {
    octets = made.octets;
    wrote = made.wrote;
    pairs = [];
    results = w.results;
    leads = steps_to w (with_offer w place made.octets now.sent) (after_call w place now 0 made.octets [] w.results) made.leads (is made.octets);
    stands = stands_behind w place now 0 made.octets [] w.results o h book st.within st.noted (ap (λ (x : Seen). x.number) by_call.session ∙ st.number) (subst (λ (n : ℕ). n ≤ length line.up.octets) (sym (add_zero line.up.taken)) st.most)
        (λ going. subst (StandsForOrders now) taken_same (given_now going)) (by_call.first ∙ (st.first ∙ ap (λ (z : List ℕ). first_header (items z)) taken_same)) st.opening st.history st.book_is;
    stays_open = open_behind w place now 0 made.octets [] w.results st.within;
  }

pub offers_are_steps : OffersAreSteps
offers_are_steps w place s now o h book out out_now answer st opened by_call =
    record { steps = steps w place s now o h book out out_now answer st opened by_call; events = (made w place s now o h book out out_now answer st opened by_call).events }
