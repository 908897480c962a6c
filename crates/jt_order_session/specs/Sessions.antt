-- What contracts see of an order session, and what its calls did (this project's own). To be believed.
use Rattle.std.specs.Prelude.{◌≡◌, ℕ, nat_lt, ◌==◌, ◌&&◌, List, [], ◌∷◌, ◌++◌, ◌⊎◌, length, Bool, true, false, not, Option, None, Some, Result, Ok, Err, IsOk, OnOk, OnErr, if◌then◌else◌}
use Rattle.std.specs.Option.{ForSome}
use Rattle.jt_value.specs.Octets.{AreOctets}
use Rattle.jt_value.specs.Sameness.{key_of}
use Rattle.jt_value.specs.Serials.{serial_of}
use Rattle.jt_escape.specs.Scan.{State as Splitting}
use Rattle.jt_escape.specs.Splitter.{StandsFor}
use Rattle.jt_header.specs.declared.header.Header.{Header}
use Rattle.jt_header.specs.Content.{IsHeader}
use Rattle.jt_stream.specs.Unplaced.{Unplaced, Message as Frame, items}
use Rattle.jt_store.specs.Tables.{WhereKnown}
use Rattle.jt_store.specs.declared.error.StoreError.{StoreError}
use Rattle.jt_platform.specs.Allowed.{Opening}
use Rattle.jt_platform.specs.History.{live, holder}
use Rattle.jt_platform.specs.declared.request.Entry.{Entry}
use Rattle.jt_platform.specs.declared.request.Reply.{Reply}
use Rattle.jt_platform.specs.declared.request.Reply.TheVariants as say
use Rattle.jt_session.specs.Talk.{Turn, Way, Goes, items_of}
use Rattle.jt_session.specs.Sessions.{Seen, Feeds}
use Rattle.jt_session.specs.declared.end.Fed.{Fed}
use Rattle.jt_order.specs.Orders.{IsOrder, OrderOf}
use Rattle.jt_order.specs.Books.{Book, with_result}
use Rattle.jt_obeying.specs.Orders.{order_at}
use Rattle.jt_order_turns.specs.Headers.{first_header, order_frame}
use Rattle.jt_order_session.specs.Responses.{response_in}
use Rattle.jt_order_session.specs.declared.response.Response.{Response}

-- the session, where the stream stands that is read beside it, the header of the first frame that was read, and the number of the order that
-- was sent last
pub record OrderSeen : Type 0 where
  pub session : Seen
  pub stream : Splitting
  pub first : Option Header
  pub sent : Option ℕ

-- what is seen of these parts
abbrev pub order_seen : Seen → Splitting → Option Header → Option ℕ → OrderSeen
order_seen session stream first sent = record { session = session; stream = stream; first = first; sent = sent }

-- a header that is kept, or this one
abbrev pub first_of : Option Header → Header → Option Header
first_of None h = Some h
first_of (Some first) h = Some first

-- a session that goes on was given these octets
pub record StandsForOrders (s : OrderSeen) (read : List ℕ) : Type 0 where
  pub octets : AreOctets read
  pub session : StandsFor s.session.stream read
  pub stream : StandsFor s.stream read
  pub waiting : s.session.waiting ≡ None
  pub first : s.first ≡ first_header (items read)

-- ---- answers

-- an entry that says Accepted
abbrev pub is_acceptance : Reply → Bool
is_acceptance say.Accepted = true
is_acceptance reply = false

abbrev pub is_accepted : Option Entry → Bool
is_accepted None = false
is_accepted (Some e) = is_acceptance e.reply

-- the order of this number was sent last
abbrev pub is_number : Option ℕ → ℕ → Bool
is_number None place = false
is_number (Some number) place = number == place

-- the response names the oldest order that is not answered, which was sent last
abbrev pub names_oldest : Option ℕ → Book → Response → Bool
names_oldest sent book r =
    let place = length book.results in
    nat_lt place (length book.issued) && (is_number sent place && ((r.reply == serial_of place) && (r.id == (order_at book.issued place).id)))

-- the book behind an accepted response: where it names the oldest order so, that is answered with its result
abbrev pub told_of : Option ℕ → Option Response → Option Book → Option Book
told_of sent None book = book
told_of sent (Some r) None = None
told_of sent (Some r) (Some book) = if names_oldest sent book r then with_result r.result (Some book) else Some book

-- the book behind a turn: of an accepted frame it is told; and behind turns, newest first
abbrev pub book_by : Option ℕ → Unplaced → Way → Option Book → Option Book
book_by sent (Frame h octets) (Goes (Some say.Accepted)) book = told_of sent (response_in h octets) book
book_by sent item way book = book

abbrev pub book_by_turns : Option ℕ → List Turn → Option Book → Option Book
book_by_turns sent [] book = book
book_by_turns sent (t ∷ older) book = book_by sent t.item t.way (book_by_turns sent older book)

-- the book was told of these turns, newest first; or of some first ones, and then failed or memory was wanted
pub record Tells (sent : Option ℕ) (book book_now : Option Book) (turns : List Turn) (answer : Result (Unit {0}) StoreError) : Type 0 where
  pub newer : List Turn
  pub older : List Turn
  pub parts : turns ≡ newer ++ older
  pub told : book_now ≡ book_by_turns sent older book
  pub all : IsOk answer → newer ≡ []

-- ---- offers

-- the holder is this session
abbrev pub is_session : ℕ → Option ℕ → Bool
is_session number None = false
is_session number (Some other) = other == number

-- the session is live for the phone of its first frame, and holds it
abbrev pub holds_phone : ℕ → Option Header → List Entry → Bool
holds_phone number None h = false
holds_phone number (Some first) h = live (key_of first.phone) h number && is_session number (holder (key_of first.phone) h)

-- the oldest order that is not answered, if there is one that was not sent last
abbrev pub is_due : Option ℕ → Book → Bool
is_due sent book = nat_lt (length book.results) (length book.issued) && not (is_number sent (length book.results))

-- the frame of the order of a number on a session whose first frame had this header
abbrev pub frame_on : Option Header → ℕ → OrderOf → List ℕ
frame_on None place order = []
frame_on (Some first) place order = order_frame first place order

abbrev pub frame_offered : OrderSeen → Book → List ℕ
frame_offered s book = if is_due s.sent book then frame_on s.first (length book.results) (order_at book.issued (length book.results)) else []

abbrev pub sent_by : Option ℕ → Book → Option ℕ
sent_by sent book = if is_due sent book then Some (length book.results) else sent

-- the frame of an order was put behind what was written, whose number was not the one that was sent last, and is now
pub record Sends (s : OrderSeen) (sent_now : Option ℕ) (out out_now : List ℕ) : Type 0 where
  pub place : ℕ
  pub order : OrderOf
  pub is_order : IsOrder order
  pub unsent : is_number s.sent place ≡ false
  pub sent : sent_now ≡ Some place
  pub wrote : out_now ≡ out ++ frame_on s.first place order

-- nothing was put behind what was written, or one such frame
abbrev pub OffersOne : OrderSeen → Option ℕ → (out out_now : List ℕ) → Type 0
OffersOne s sent_now out out_now = ((sent_now ≡ s.sent) × (out_now ≡ out)) ⊎ Sends s sent_now out out_now

-- Where the session holds its phone one such frame was put at most: where the book tells what it holds that of the oldest order which is not
-- answered, unless that was sent last. Else nothing was.
abbrev pub OffersTo : Bool → OrderSeen → Option ℕ → Option Book → (out out_now : List ℕ) → Type 0
OffersTo true s sent_now book out out_now =
    OffersOne s sent_now out out_now × WhereKnown book (λ b. (sent_now ≡ sent_by s.sent b) × (out_now ≡ out ++ frame_offered s b))
OffersTo false s sent_now book out out_now = (sent_now ≡ s.sent) × (out_now ≡ out)

-- the same, unless the book failed or memory was wanted
pub record Offers (s now : OrderSeen) (h : List Entry) (book : Option Book) (out out_now : List ℕ) (answer : Result (Unit {0}) StoreError) : Type 0 where
  pub session : now.session ≡ s.session
  pub stream : now.stream ≡ s.stream
  pub first : now.first ≡ s.first
  pub ok : OnOk answer (OffersTo (holds_phone s.session.number s.first h) s now.sent book out out_now)
  pub err : OnErr answer ((now.sent ≡ s.sent) × (out_now ≡ out))

-- ---- octets that were fed

-- the first error of two answers, one after the other
abbrev pub both_told : Result (Unit {0}) StoreError → Result (Unit {0}) StoreError → Result (Unit {0}) StoreError
both_told (Ok x) heard = heard
both_told (Err error) heard = Err error

-- the book was told so, or, where it is not told, stays
abbrev pub TellsIf : Bool → Option ℕ → Option Book → Option Book → List Turn → Result (Unit {0}) StoreError → Type 0
TellsIf true sent book book_now turns answer = Tells sent book book_now turns answer
TellsIf false sent book book_now turns answer = (book_now ≡ book) × IsOk answer

-- The octets were fed to the session, and the book was told of its turns if it is told at all. While the session goes on, the octets were
-- given to both.
pub record Walks (is_told : Bool) (s now : OrderSeen) (octets : List ℕ) (o : Opening) (h h_now : List Entry) (book book_now : Option Book) (out out_now : List ℕ) (fed : Fed) (answer : Result (Unit {0}) StoreError) : Type 0 where
  pub feeds : Feeds s.session now.session octets o h h_now out out_now fed
  pub tells : (read : List ℕ) → StandsForOrders s read → TellsIf is_told s.sent book book_now feeds.turns answer
  pub stands : (read : List ℕ) → StandsForOrders s read → now.session.over ≡ false → StandsForOrders now (read ++ octets)
  -- the header of the first frame also where the session is over: among the items that were read, up to that of the last turn
  pub first : (read : List ℕ) → StandsForOrders s read → now.first ≡ first_header (items read ++ items_of feeds.turns)
  pub sent : now.sent ≡ s.sent

-- and then the oldest order was offered, unless the book had failed
pub record FeedsOrders (s now : OrderSeen) (octets : List ℕ) (o : Opening) (h h_now : List Entry) (book book_now : Option Book) (out out_now : List ℕ) (fed : Fed) (answer : Result (Unit {0}) StoreError) : Type 0 where
  pub mid : OrderSeen
  pub front : List ℕ
  pub told : Result (Unit {0}) StoreError
  pub walks : Walks true s mid octets o h h_now book book_now out front fed told
  pub offers : OnOk told (Offers mid now h_now book_now front out_now answer)
  pub failed : OnErr told ((now ≡ mid) × (out_now ≡ front) × (answer ≡ told))

-- some octets were given to both: twice denied, since an invariant has at most one proof
abbrev pub HaveRead : OrderSeen → Type 0
HaveRead s = ((read : List ℕ) → StandsForOrders s read → ⊥) → ⊥

-- what stays true of an order session: the header that it kept is one, and while it goes on some octets were given to both
abbrev pub IsSession : OrderSeen → Type 0
IsSession s = ForSome s.first IsHeader × (s.session.over ≡ false → HaveRead s)
