-- The calls of an order session as steps of the world of orders: where a session stands in a world, and what each call leads to (this project's
-- own). To be believed.
use Rattle.std.specs.Prelude.{◌≡◌, ◌≢◌, ◌≤◌, ◌<◌, ℕ, suc, ◌+◌, ◌&&◌, List, [], ◌∷◌, ◌++◌, length, map, take, drop, set, Bool, true, false, if◌then◌else◌, Option, None, Some, Result, is_ok, IsOk}
use Rattle.jt_value.specs.Reaching.{after_all}
use Rattle.jt_value.specs.Sameness.{key_of}
use Rattle.jt_stream.specs.Unplaced.{items}
use Rattle.jt_store.specs.declared.error.StoreError.{StoreError}
use Rattle.jt_platform.specs.Allowed.{Opening}
use Rattle.jt_platform.specs.History.{newest}
use Rattle.jt_platform.specs.Laws.{shelf_of}
use Rattle.jt_platform.specs.declared.request.Entry.{Entry}
use Rattle.jt_platform.specs.declared.request.Request.{Request}
use Rattle.jt_platform.specs.declared.request.Request.TheVariants as ask
use Rattle.jt_platform.specs.declared.request.Reply.{Reply}
use Rattle.jt_platform.specs.declared.request.Reply.TheVariants as say
use Rattle.jt_session.specs.Talk.{State, Turn, Way, items_of}
use Rattle.jt_session.specs.Sessions.{Seen, entries_on}
use Rattle.jt_session.specs.TurnLaw.{IsNew}
use Rattle.jt_session.specs.declared.end.Fed.{Fed}
use Rattle.jt_terminal_rule.specs.Steps.{Opens}
use Rattle.jt_order.specs.Books.{Book}
use Rattle.jt_order_session.specs.Sessions.{FeedsOrders, Offers as OffersBy, OrderSeen, StandsForOrders}
use Rattle.jt_octets.specs.World.{Wire, line_at, opening_of, taken_of, written}
use Rattle.jt_order_octets.specs.World.{OrderWorld, first_read, sent_at}
use Rattle.jt_order_octets.specs.Reaching.{Leads, Reached}
use Rattle.jt_order_octets.specs.Steps.{BookFails, Cut, Does, Down, Event, Issues, MayCome, Offers, RestartPlatform, Telling, Up, after}
use Rattle.jt_order_play.specs.Playing.{book_of, may_offer}

-- ---- where a session stands

-- what a world keeps of a session: its state, unless it is over
abbrev pub state_kept : Seen → Option State
state_kept s = if s.over then None else Some s.state

-- An order session, the opening and the history of its hub, newest entry first, and a book are those of the line in this place of a world. While
-- the session goes on it was given the octets that the line took. The line is there, what was sent last on it is noted, and no more of it was taken
-- than was written.
pub record SessionStandsIn (w : OrderWorld) (place : ℕ) (s : OrderSeen) (o : Opening) (h : List Entry) (book : Option Book) : Type 0 where
  pub within : place < length w.base.lines
  pub noted : place < length w.sent
  pub number : s.session.number ≡ suc place
  pub most : (line_at w.base.lines place).up.taken ≤ length (line_at w.base.lines place).up.octets
  pub keeps : (line_at w.base.lines place).session ≡ state_kept s.session
  pub given : s.session.over ≡ false → StandsForOrders s (taken_of (line_at w.base.lines place).up)
  pub first : s.first ≡ first_read w place
  pub sent : s.sent ≡ sent_at w place
  pub opening : o ≡ opening_of w.base
  pub history : h ≡ w.base.history
  pub book_is : book ≡ Some (book_of w)

-- the platform's end of the line is open
abbrev pub IsOpen : OrderWorld → ℕ → Type 0
IsOpen w place = (line_at w.base.lines place).is_open ≡ true

-- these are the octets that are taken next
abbrev pub AreNext : Wire → List ℕ → Type 0
AreNext wire octets = take (length octets) (drop wire.taken wire.octets) ≡ octets

-- ---- the world behind a call

-- so many octets more were taken
abbrev pub with_taken : Wire → ℕ → Wire
with_taken wire count = record wire { taken = wire.taken + count }

-- The world in which the line in this place has taken so many octets more, and these were written on it; its session keeps what this one does; hub
-- and keeper have the entries of these pairs more; the book has these results; and what this session sent last was sent last on the line.
abbrev pub after_call : OrderWorld → (place : ℕ) → OrderSeen → (count : ℕ) → List ℕ → List (Request × Reply) → List ℕ → OrderWorld
after_call w place s count octets pairs results =
    let line = line_at w.base.lines place in
    record w {
      base = record w.base {
        lines = set w.base.lines place (record line { up = with_taken line.up count; down = written line.down octets; session = state_kept s.session });
        history = entries_on (suc place) pairs ++ w.base.history;
        keeper = shelf_of (key_of w.base.terminal.phone) w.base.keeper (entries_on (suc place) pairs);
      };
      results = results;
      sent = set w.sent place s.sent;
    }

-- Steps lead to that world, for this count, these octets, which the call put behind what was written before, and some pairs and results; and there
-- the session stands, with the history and the book behind the call, and its end is open, if it was open before.
pub record StepsTo (w : OrderWorld) (place count : ℕ) (now : OrderSeen) (o : Opening) (h_now : List Entry) (book_now : Option Book) (out out_now : List ℕ) : Type 0 where
  pub octets : List ℕ
  pub wrote : out_now ≡ out ++ octets
  pub pairs : List (Request × Reply)
  pub results : List ℕ
  pub leads : Leads w (after_call w place now count octets pairs results)
  pub stands : SessionStandsIn (after_call w place now count octets pairs results) place now o h_now book_now
  pub stays_open : IsOpen w place → IsOpen (after_call w place now count octets pairs results) place

-- ---- where a session begins

-- In every world that is reached it is noted for each line, and for no other, what was sent last on it.
abbrev pub EachLineIsNoted : Type 0
EachLineIsNoted = (w : OrderWorld) → Reached w → length w.sent ≡ length w.base.lines

-- A new order session stands on the line that a terminal just opened, and its end is open, where its number is the line's, and opening, history
-- and book are the world's.
abbrev pub NewSessionsStand : Type 0
NewSessionsStand = (w : OrderWorld) (s : OrderSeen) (o : Opening) (h : List Entry) (book : Option Book) → Reached w → IsNew s.session → s.session.number ≡ suc (length w.base.lines) → StandsForOrders s [] → s.sent ≡ None
    → o ≡ opening_of w.base → h ≡ w.base.history → book ≡ Some (book_of w)
    → SessionStandsIn (after w (Does Opens)) (length w.base.lines) s o h book × IsOpen (after w (Does Opens)) (length w.base.lines)

-- ---- steps of others

-- the step is none of the session of the line in this place, does not cut the line, and the platform goes on
abbrev pub IsOfOthers : (place : ℕ) → Event → Type 0
IsOfOthers place (Issues order) = Unit {0}
IsOfOthers place (Does s) = Unit {0}
IsOfOthers place (Up other way telling) = other ≢ place
IsOfOthers place (Offers other) = other ≢ place
IsOfOthers place (Down takes responds) = Unit {0}
IsOfOthers place (Cut other) = other ≢ place
IsOfOthers place RestartPlatform = ⊥

-- A session that stands in a world stands in the one behind such a step too, with the history and the book of that, and its end is open there, if
-- it was open before.
abbrev pub SessionsStandOn : Type 0
SessionsStandOn = (w : OrderWorld) (event : Event) (place : ℕ) (s : OrderSeen) (o : Opening) (h : List Entry) (book : Option Book) → MayCome w event → IsOfOthers place event → SessionStandsIn w place s o h book
    → SessionStandsIn (after w event) place s o (after w event).base.history (Some (book_of (after w event))) × (IsOpen w place → IsOpen (after w event) place)

-- ---- offer

-- one offer, or none
abbrev pub offer_if : Bool → (place : ℕ) → List Event
offer_if true place = Offers place ∷ []
offer_if false place = []

-- a session that is to offer does so where the call's answer is Ok
abbrev pub offer_in : OrderWorld → (place : ℕ) → Result (Unit {0}) StoreError → List Event
offer_in w place answer = offer_if (is_ok answer && may_offer w place) place

-- all that the call did is one step, or none
pub record OffersBySteps (w : OrderWorld) (place : ℕ) (now : OrderSeen) (o : Opening) (h : List Entry) (book : Option Book) (out out_now : List ℕ) (answer : Result (Unit {0}) StoreError) : Type 0 where
  pub steps : StepsTo w place 0 now o h book out out_now
  pub events : steps.leads.events ≡ offer_in w place answer

-- A session that offers, wherever it stands in a world and its end is open, does so by steps.
abbrev pub OffersAreSteps : Type 0
OffersAreSteps = (w : OrderWorld) (place : ℕ) (s now : OrderSeen) (o : Opening) (h : List Entry) (book : Option Book) (out out_now : List ℕ) (answer : Result (Unit {0}) StoreError)
    → SessionStandsIn w place s o h book → IsOpen w place → OffersBy s now h book out out_now answer → OffersBySteps w place now o h book out out_now answer

-- ---- feed

-- Of the octets so many first ones were taken, all while the session goes on. They brought the items of these turns.
pub record TakesOf (wire : Wire) (octets : List ℕ) (turns : List Turn) (now : OrderSeen) (count : ℕ) : Type 0 where
  pub most : count ≤ length octets
  pub all : now.session.over ≡ false → count ≡ length octets
  pub brought : items (taken_of wire ++ take count octets) ≡ items (taken_of wire) ++ items_of turns

-- one step for each octet: how the session went on at what it completed, and what the book was told of that
abbrev pub ups : (place : ℕ) → List (Way × Telling) → List Event
ups place course = map (λ (octet : Way × Telling). Up place octet.0 octet.1) course

-- no step says that the book failed
abbrev pub NoneFails : List (Way × Telling) → Type 0
NoneFails [] = Unit {0}
NoneFails (octet ∷ more) = (octet.1 ≢ BookFails) × NoneFails more

-- So many octets were taken, and all that the call did are steps: one for each of them, and then an offer, if the session is to offer in the world
-- behind those. heard is what the book answered to being told: where that is Ok it was told of all, and no step says that it failed.
pub record FeedsBySteps (w : OrderWorld) (place : ℕ) (now : OrderSeen) (octets : List ℕ) (turns : List Turn) (o : Opening) (h_now : List Entry) (book_now : Option Book) (out out_now : List ℕ) (heard answer : Result (Unit {0}) StoreError) : Type 0 where
  pub count : ℕ
  pub takes : TakesOf (line_at w.base.lines place).up octets turns now count
  pub steps : StepsTo w place count now o h_now book_now out out_now
  pub course : List (Way × Telling)
  pub each : length course ≡ count
  pub events : steps.leads.events ≡ ups place course ++ offer_in (after_all after w (ups place course)) place answer
  pub told : IsOk heard → NoneFails course

-- A session that goes on, wherever it stands in a world and its end is open, is fed the next octets of its line by steps.
abbrev pub FeedsAreSteps : Type 0
FeedsAreSteps = (w : OrderWorld) (place : ℕ) (s now : OrderSeen) (octets : List ℕ) (o : Opening) (h h_now : List Entry) (book book_now : Option Book) (out out_now : List ℕ) (fed : Fed) (answer : Result (Unit {0}) StoreError)
    → SessionStandsIn w place s o h book → IsOpen w place → s.session.over ≡ false → AreNext (line_at w.base.lines place).up octets → now.session.waiting ≡ None
    → (f : FeedsOrders s now octets o h h_now book book_now out out_now fed answer) → FeedsBySteps w place now octets f.walks.feeds.turns o h_now book_now out out_now f.told answer

-- ---- close

-- the entry that a session's close makes
abbrev pub close_entry : ℕ → Entry
close_entry number = record { session = number; request = ask.Close; reply = say.Accepted }

-- the step Cut may come, and the session stands in the world behind it
pub record CutsLine (w : OrderWorld) (place : ℕ) (s : OrderSeen) (o : Opening) (h_now : List Entry) (book : Option Book) : Type 0 where
  pub may : MayCome w (Cut place)
  pub stands : SessionStandsIn (after w (Cut place)) place s o h_now book

-- A session that is closed, wherever it stands in a world and its end is open, takes the step Cut. A hub's own history is oldest entry first.
abbrev pub ClosesAreSteps : Type 0
ClosesAreSteps = (w : OrderWorld) (place : ℕ) (s : OrderSeen) (o : Opening) (history history_now : List Entry) (book : Option Book)
    → SessionStandsIn w place s o (newest history) book → IsOpen w place → history_now ≡ history ++ close_entry s.session.number ∷ [] → CutsLine w place s o (newest history_now) book
