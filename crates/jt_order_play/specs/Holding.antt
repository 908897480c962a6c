-- What the parts that run stand for. For the proofs, but for `order_play_of`, `told_places` and what these use, which are to be
-- believed: they say what a world of orders that is played shows.
use Rattle.std.specs.Prelude.{◌≡◌, ℕ, suc, ◌+◌, ◌<◌, ◌≤◌, List, [], ◌∷◌, ◌++◌, length, take, reverse, map, set, get_or, All, Bool, true, false, Option, None, Some, Result, Ok, Err}
use Rattle.std.specs.List.{flat_map}
use Rattle.jt_value.specs.Octets.{AreOctets}
use Rattle.jt_value.specs.Sameness.{key_of}
use Rattle.jt_escape.specs.Scan.{State as Splitting}
use Rattle.jt_store.specs.Memory.{KeeperState, Stock, tables_of}
use Rattle.jt_platform.specs.Hub.{HubValue, opening_of as hub_opening}
use Rattle.jt_platform.specs.History.{newest}
use Rattle.jt_platform.specs.Laws.{shelf_of}
use Rattle.jt_platform.specs.declared.request.Entry.{Entry}
use Rattle.jt_platform.specs.declared.request.Request.{Request}
use Rattle.jt_platform.specs.declared.request.Reply.{Reply}
use Rattle.jt_session.specs.Sessions.{end_by, entries_on}
use Rattle.jt_session.specs.Talk.{Way}
use Rattle.jt_terminal_rule.specs.declared.settings.Settings.{Settings}
use Rattle.jt_order.specs.Books.{Book}
use Rattle.jt_order.specs.Memory.{LogStock}
use Rattle.jt_escape.specs.Frame.{framed}
use Rattle.jt_escape.specs.Span.{IsContent}
use Rattle.jt_header.specs.Content.{Content}
use Rattle.jt_header.specs.Law.{IsLengthOfContent}
use Rattle.jt_header.specs.declared.header.Header.{Header}
use Rattle.jt_stream.specs.Item.{Item, Items}
use Rattle.jt_stream.specs.Unplaced.{Unplaced, Message as Frame, items, of_content, unplaced}
use Rattle.jt_terminal_rule.specs.Law.{HeardIsCutInSteps, HeardTakesSteps, RuleIsCutInSteps, RuleTellsTheUnit}
use Rattle.jt_order_turns.specs.Frames.{ResponsesName}
use Rattle.jt_order_turns.specs.Turns.{ResponsesNameNoOrder}
use Rattle.jt_order_octets.specs.Claim.{EachReachedIsObeyed, NoneIsRefused}
use Rattle.jt_order_turns.specs.Headers.{first_header}
use Rattle.jt_order_session.specs.Sessions.{OrderSeen, StandsForOrders}
use Rattle.jt_order_terminal.specs.Ledgers.{IsLedgerOf}
use Rattle.jt_order_terminal.specs.Terminals.{OrderTerminalValue, StandsForLine}
use Rattle.jt_octets.specs.World.{completed_item, line_at, opening_of, taken_of}
use Rattle.jt_octets.specs.Steps.{MayTake}
use Rattle.jt_play.specs.Holding.{IsClock, IsHeld, IsNewTerminal, IsRunning, Numbered, first_line, is_short, play_of}
use Rattle.jt_play.specs.Holding as plain
use Rattle.jt_order_octets.specs.World.{OrderWorld, sent_at}
use Rattle.jt_order_octets.specs.Steps.{BookFails, MayOffer, MayTell, Offers, Telling, TellsNothing, Up, after}
use Rattle.jt_order_play.specs.Playing.{OrderPlay, book_of, goes_on, may_offer, reads_more, reads_one, result_of_next, takes_one, told_by, with_world}
use Rattle.jt_order_play.specs.declared.error.OrderWorldError.{OrderWorldError}
use Rattle.jt_order_play.specs.declared.stage.Told.{Told}
use Rattle.jt_order_play.specs.declared.error.OrderWorldError.TheVariants as refused

-- ---- a line

-- a line with the number of its session, and the place of the order that was sent last on it
pub record LineOfOrders : Type 0 where
  pub plain : Numbered
  pub sent : Option ℕ

-- a session of orders that goes on stands for the octets that were taken, and the header of the first frame among them is kept in any case
pub record IsOrderHeld (octets : List ℕ) (taken : ℕ) (down : List ℕ) (read : ℕ) (over : Bool) (s : OrderSeen) : Type 0 where
  pub plain : IsHeld octets taken down read over s.session
  pub stands : over ≡ false → StandsForOrders s (take taken octets)
  pub first : s.first ≡ first_header (items (take taken octets))

-- the line, the hub and the book are those of the line in this place of a world
pub record StandsIn (w : OrderWorld) (place : ℕ) (line : LineOfOrders) (hub : HubValue KeeperState) (book : Book) : Type 0 where
  pub within : place < length w.base.lines
  pub is : line_at w.base.lines place ≡ line.plain.line
  pub sent : sent_at w place ≡ line.sent
  pub number : line.plain.number ≡ suc place
  pub opening : hub_opening (Some (tables_of hub.start)) hub.start.limit hub.fleet hub.secret ≡ opening_of w.base
  pub history : newest hub.history ≡ w.base.history
  pub book_is : book_of w ≡ book

-- the session offers, or not
abbrev pub offered : Bool → ℕ → OrderWorld → OrderWorld
offered true place w = after w (Offers place)
offered false place w = w

-- The session offered, or did not, which is a step of every world in which it stands. Where all was done it offered exactly if it is to.
pub record OffersInWorld (w : OrderWorld) (place : ℕ) (line : LineOfOrders) (done : Bool) : Type 0 where
  pub offers : Bool
  pub may : offers ≡ true → MayOffer w place
  pub is : offered offers place w ≡ record w { base = record w.base { lines = set w.base.lines place line.plain.line }; sent = set w.sent place line.sent }
  pub heard : taken_of line.plain.line.down ≡ taken_of (line_at w.base.lines place).down
  pub whole : done ≡ true → offers ≡ may_offer w place

-- the book failed where it was to be told
abbrev pub failed_by : Option ℕ → Telling
failed_by None = TellsNothing
failed_by (Some result) = BookFails

-- where all was done: the session met no want of memory, the book was told of each answer, and an order was offered exactly if it is to be
pub record IsWhole (w : OrderWorld) (place : ℕ) (way : Way) (telling : Telling) (offers : Bool) : Type 0 where
  pub short : is_short (end_by way) ≡ false
  pub told : telling ≡ told_by (result_of_next w place way)
  pub offers_is : offers ≡ may_offer (after w (Up place way telling)) place

-- The session took one octet, and the book was told, or failed; and then it offered, or did not: steps of every world in which it stands.
pub record TakesOne (w : OrderWorld) (place : ℕ) (line : LineOfOrders) (h : List Entry) (book : Book) (done : Bool) : Type 0 where
  pub way : Way
  pub telling : Telling
  pub offers : Bool
  pub may : MayTake w.base place way
  pub tells : MayTell w place (completed_item (line_at w.base.lines place).up) way telling
  pub offer : offers ≡ true → MayOffer (after w (Up place way telling)) place
  pub pairs : List (Request × Reply)
  pub is : offered offers place (after w (Up place way telling)) ≡ record w {
    base = record w.base {
      lines = set w.base.lines place line.plain.line;
      history = entries_on (suc place) pairs ++ w.base.history;
      keeper = shelf_of (key_of w.base.terminal.phone) w.base.keeper (entries_on (suc place) pairs);
    };
    results = book.results;
    sent = set w.sent place line.sent;
  }
  pub history : h ≡ entries_on (suc place) pairs ++ w.base.history
  pub issued : book.issued ≡ w.issued
  pub heard : taken_of line.plain.line.down ≡ taken_of (line_at w.base.lines place).down
  pub whole : done ≡ true → IsWhole w place way telling offers

-- ---- the world that runs

abbrev pub plain_lines : List LineOfOrders → List Numbered
plain_lines lines = map (λ (l : LineOfOrders). l.plain) lines

abbrev pub sent_on : List LineOfOrders → List (Option ℕ)
sent_on lines = map (λ (l : LineOfOrders). l.sent) lines

-- The world as it is played, of the parts that run. Of messages in packets nothing is kept, and no order was refused for its serial.
abbrev pub order_play_of : OrderTerminalValue Stock LogStock → HubValue KeeperState → Book → List LineOfOrders → List Entry → List ℕ → ℕ → OrderPlay
order_play_of t hub book lines past told clock =
    let p = play_of t.terminal hub (plain_lines lines) past told clock in
    record {
      world = record {
        base = record p.world { partial = [] };
        issued = book.issued;
        results = book.results;
        sent = sent_on lines;
        log = t.log.performed;
        tables = t.ledger.tables;
        refused = [];
      };
      held = p.held;
      state = p.state;
      clock = clock;
    }

-- while the terminal hears, its stream stands for what it read of the newest line
pub record IsHearing (stream : Splitting) (seen : List ℕ) : Type 0 where
  pub stands : StandsForLine stream seen
  pub place : stream.place ≤ length seen

abbrev pub Hears : Bool → Splitting → List ℕ → Type 0
Hears hears stream seen = hears ≡ true → IsHearing stream seen

-- what stays true of the parts
pub record IsStage (t : OrderTerminalValue Stock LogStock) (hears : Bool) (hub : HubValue KeeperState) (book : Book) (issued : ℕ) (lines : List LineOfOrders) (clock : ℕ) : Type 0 where
  pub running : IsRunning t.terminal hub (plain_lines lines)
  pub ledger : IsLedgerOf t.log.performed t.ledger
  pub hearing : Hears hears t.stream (plain.taken_on (plain.lines_in (plain_lines lines)))
  pub clock_is : IsClock t.terminal clock
  pub issued_is : issued ≡ length book.issued

abbrev pub blank : LineOfOrders
blank = record { plain = plain.blank; sent = None }

-- a line of this number that was just opened
abbrev pub first_order_line : ℕ → LineOfOrders
first_order_line number = record { plain = first_line number; sent = None }

-- the platform's ends of all lines are gone
abbrev pub shut_order_lines : List LineOfOrders → List LineOfOrders
shut_order_lines lines = map (λ (l : LineOfOrders). record l { plain = record l.plain { line = record l.plain.line { is_open = false } } }) lines

-- the places of the units that the terminal was told, newest first
abbrev pub told_places : List Told → List ℕ
told_places told = reverse (map (λ (t : Told). t.accepted + t.older) told)

-- the unit in this place was told with so many before it, or none was, and then there is none in this place
abbrev pub noted_at : List Told → ℕ → ℕ → List ℕ → List Told
noted_at told place accepted [] = take place told
noted_at told place accepted (older ∷ more) = set told place (record { accepted = accepted; older = older })

-- an order terminal over an empty vault and an empty log
pub record IsNewOrderTerminal (settings : Settings) (t : OrderTerminalValue Stock LogStock) : Type 0 where
  pub terminal : IsNewTerminal settings t.terminal
  pub log : t.log.performed ≡ []
  pub ledger : IsLedgerOf [] t.ledger

-- the newest of the lines is written these octets, if there is one
abbrev pub wrote_on : LineOfOrders → List ℕ → LineOfOrders
wrote_on l octets = record l { plain = plain.wrote_on l.plain octets }

abbrev pub last_of : List LineOfOrders → ℕ
last_of [] = 0
last_of (l ∷ lines) = length lines

abbrev pub wrote_last : List LineOfOrders → List ℕ → List LineOfOrders
wrote_last lines octets = set lines (last_of lines) (wrote_on (get_or lines (last_of lines) blank) octets)

-- ---- one octet

-- the terminal read one octet more, or none is left; where memory ran out nothing is said here
abbrev pub ReadsNext : {E : Type 0} → OrderPlay → OrderPlay → Result Bool E → Type 0
ReadsNext old new (Ok true) = (reads_more old ≡ true) × (new ≡ reads_one old)
ReadsNext old new (Ok false) = (reads_more old ≡ false) × (new ≡ old)
ReadsNext old new (Err error) = Unit {0}

-- the session took one octet more, or takes none; where that was cut short nothing is said here
abbrev pub TakesNext : {E : Type 0} → OrderPlay → OrderPlay → ℕ → Result Bool E → Type 0
TakesNext old new place (Ok true) = (goes_on (line_at old.world.base.lines place) ≡ true) × (new ≡ with_world old (takes_one old.world place))
TakesNext old new place (Ok false) = (goes_on (line_at old.world.base.lines place) ≡ false) × (new ≡ old)
TakesNext old new place (Err error) = Unit {0}

-- ---- refusals

-- whether a line was named that was never opened
abbrev pub is_no_line : {T : Type 0} → Result T OrderWorldError → Bool
is_no_line (Ok x) = false
is_no_line (Err (refused.NoLine line)) = true
is_no_line (Err (refused.Full limit)) = false
is_no_line (Err refused.Memory) = false

-- ---- laws

-- what reading an octet rests on
pub record ReadingLaws : Type 0 where
  pub front : (front rest : List ℕ) → (more : List Unplaced) × (items (front ++ rest) ≡ items front ++ more)
  pub one : (stream : List ℕ) (octet : ℕ) → length (items (stream ++ octet ∷ [])) ≤ length (items stream) + 1
  pub frames : (contents : List (List ℕ)) → All IsContent contents → items (flat_map framed contents) ≡ map of_content contents
  pub message : (header : Header) (body content : List ℕ) → Content header body content → of_content content ≡ Frame header body
  pub long : IsLengthOfContent
  pub some : (stream : List ℕ) → AreOctets stream → (list : List Item) × Items stream list
  pub are : (stream : List ℕ) (list : List Item) → Items stream list → map unplaced list ≡ items stream
  pub heard : HeardTakesSteps
  pub cut : RuleIsCutInSteps
  pub heard_cut : HeardIsCutInSteps
  pub told : RuleTellsTheUnit
  pub responses : ResponsesName
  pub others : ResponsesNameNoOrder
  pub obeyed : EachReachedIsObeyed
  pub none_refused : NoneIsRefused
