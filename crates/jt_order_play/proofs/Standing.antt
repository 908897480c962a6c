-- Parts that run, and the world of them: lines, and what one of them did.
use Rattle.std.proofs.Common.{ℕ, zero, suc, ◌<◌, ◌≡◌, List, [], ◌∷◌, ◌++◌, length, set, get_or, Option, Some, None, Bool, true, false, arith, refl, ap, sym, ◌∙◌, subst}
use Rattle.std.specs.Prelude.{if◌then◌else◌, ◌&&◌}
use Rattle.std.proofs.lemmas.List.{length-set, get_or_read, get_or-set_same}
use Rattle.jt_value.specs.Sameness.{key_of}
use Rattle.jt_value.proofs.Reaching as any
use Rattle.jt_store.specs.Memory.{KeeperState, Stock}
use Rattle.jt_store.specs.Tables.{Tables}
use Rattle.jt_store.specs.Verdicts.{Shelf}
use Rattle.jt_platform.specs.History.{closed, newest}
use Rattle.jt_platform.specs.Hub.{HubValue, opening_of as hub_opening}
use Rattle.jt_platform.specs.Laws.{shelf_of}
use Rattle.jt_platform.specs.declared.request.Entry.{Entry}
use Rattle.jt_platform.specs.declared.request.Fleet.{Fleet}
use Rattle.jt_session.specs.Sessions.{entries_on}
use Rattle.jt_order.specs.Books.{Book}
use Rattle.jt_order.specs.Orders.{OrderOf}
use Rattle.jt_order.specs.Memory.{LogStock}
use Rattle.jt_order_session.specs.Sessions.{holds_phone, is_due}
use Rattle.jt_order_terminal.specs.Terminals.{OrderTerminalValue}
use Rattle.jt_octets.specs.World.{Line, line_at, new_line, taken_of}
use Rattle.jt_play.specs.Holding.{IsRunning, Numbered, lines_in, shelf_in, taken_on}
use Rattle.jt_play.specs.Holding as plain
use Rattle.jt_play.proofs.Worlds.{length_in, line_in, set_in, shelf_append, taken_same, up_running}
use Rattle.jt_order_octets.specs.World.{OrderWorld, first_read, sent_at}
use Rattle.jt_order_octets.specs.Reaching.{Leads}
use Rattle.jt_order_octets.specs.Steps.{Event, MayCome, MayOffer, Offers, Up, after}
use Rattle.jt_order_play.specs.Playing.{OrderPlay, book_of, may_offer, offers_at, with_world}
use Rattle.jt_order_play.specs.Holding.{Hears, IsStage, OffersInWorld, LineOfOrders, StandsIn, TakesOne, blank, offered, order_play_of, plain_lines, sent_on}

-- ---- steps

pub leads_none : (w : OrderWorld) → Leads w w
leads_none w = any.leads_same MayCome after w w refl

pub leads_one : (w : OrderWorld) (event : Event) → MayCome w event → Leads w (after w event)
leads_one w event may = any.leads_one MayCome after w (after w event) event may refl

pub leads_both : (w mid now : OrderWorld) → Leads w mid → Leads mid now → Leads w now
leads_both w mid now a b = any.leads_both MayCome after w mid now a b

pub offered_leads : (b : Bool) (place : ℕ) (w : OrderWorld) → (b ≡ true → MayOffer w place) → Leads w (offered b place w)
offered_leads true place w may = leads_one w (Offers place) (may refl)
offered_leads false place w may = leads_none w

-- ---- lines

pub plain_length : (lines : List LineOfOrders) → length (plain_lines lines) ≡ length lines
plain_length [] = refl
plain_length (l ∷ lines) = ap (λ (n : ℕ). suc n) (plain_length lines)

pub plain_set : (lines : List LineOfOrders) (place : ℕ) (x : LineOfOrders) → plain_lines (set lines place x) ≡ set (plain_lines lines) place x.plain
plain_set [] zero x = refl
plain_set [] (suc place) x = refl
plain_set (l ∷ lines) zero x = refl
plain_set (l ∷ lines) (suc place) x = ap (λ (rest : List Numbered). l.plain ∷ rest) (plain_set lines place x)

pub sent_set : (lines : List LineOfOrders) (place : ℕ) (x : LineOfOrders) → sent_on (set lines place x) ≡ set (sent_on lines) place x.sent
sent_set [] zero x = refl
sent_set [] (suc place) x = refl
sent_set (l ∷ lines) zero x = refl
sent_set (l ∷ lines) (suc place) x = ap (λ (rest : List (Option ℕ)). l.sent ∷ rest) (sent_set lines place x)

pub plain_at : (lines : List LineOfOrders) (place : ℕ) → get_or (plain_lines lines) place plain.blank ≡ (get_or lines place blank).plain
plain_at [] place = refl
plain_at (l ∷ lines) zero = refl
plain_at (l ∷ lines) (suc place) = plain_at lines place

pub sent_there : (lines : List LineOfOrders) (place : ℕ) → get_or (sent_on lines) place None ≡ (get_or lines place blank).sent
sent_there [] place = refl
sent_there (l ∷ lines) zero = refl
sent_there (l ∷ lines) (suc place) = sent_there lines place

pub many_lines : (lines : List LineOfOrders) → length (lines_in (plain_lines lines)) ≡ length lines
many_lines lines = length_in (plain_lines lines) ∙ plain_length lines

pub get_or_again : (ls : List Numbered) (n : ℕ) (y : Numbered) → n < length ls → get_or ls n plain.blank ≡ get_or ls n y
get_or_again [] n y within = absurd (omega (arith, within))
get_or_again (l ∷ ls) zero y within = refl
get_or_again (l ∷ ls) (suc n) y within = get_or_again ls n y (omega (arith, within))

-- ---- a line stands in its place

module _ (t : OrderTerminalValue Stock LogStock) (hears : Bool) (hub : HubValue KeeperState) (book : Book) (issued : ℕ) (lines : List LineOfOrders) (past : List Entry) (told : List ℕ) (clock place : ℕ) (old : LineOfOrders) (stage : IsStage t hears hub book issued lines clock)
    (lt : place < length lines) (at : old ≡ get_or lines place old) where
  abbrev p : OrderPlay
  p = order_play_of t hub book lines past told clock

  abbrev key : List ℕ
  key = key_of t.terminal.state.settings.phone

  old_is : old ≡ get_or lines place blank
  old_is = get_or_read lines place old lt at blank

  plain_lt : place < length (plain_lines lines)
  plain_lt = subst (λ (n : ℕ). place < n) (sym (plain_length lines)) lt

  plain_is : old.plain ≡ get_or (plain_lines lines) place plain.blank
  plain_is = ap (λ (l : LineOfOrders). l.plain) old_is ∙ sym (plain_at lines place)

  within : place < length p.world.base.lines
  within = subst (λ (n : ℕ). place < n) (sym (many_lines lines)) lt

  pub line_there : line_at p.world.base.lines place ≡ old.plain.line
  line_there = line_in (plain_lines lines) place plain_lt ∙ ap (λ (n : Numbered). n.line) (sym plain_is)

  pub stands : StandsIn p.world place old hub book
  stands = record {
    within = within;
    is = line_there;
    sent = sent_there lines place ∙ ap (λ (l : LineOfOrders). l.sent) (sym old_is);
    number = ap (λ (n : Numbered). n.number) plain_is ∙ stage.running.numbers place plain_lt;
    opening = ap (λ (tables : Tables). hub_opening (Some tables) hub.start.limit hub.fleet hub.secret) stage.running.alone_is;
    history = refl;
    book_is = refl;
  }

  pub closed_there : old.plain.line.is_open ≡ true → closed (newest hub.history) old.plain.number ≡ false
  closed_there opened = ap (λ (n : ℕ). closed (newest hub.history) n) stands.number ∙ stage.running.unclosed place plain_lt (ap (λ (n : Numbered). n.line.is_open) (sym plain_is) ∙ opened)

  -- the world with other lines, another hub and another book
  abbrev world_with : List Line → KeeperState → Fleet → List ℕ → List Entry → Shelf → List OrderOf → List ℕ → List (Option ℕ) → OrderWorld
  world_with ls start fleet secret h keeper orders results sent = record p.world {
    base = record p.world.base { lines = ls; setting = record { fleet = fleet; secret = secret; limit = start.limit }; keeper = keeper; began = shelf_in start key; history = h };
    issued = orders;
    results = results;
    sent = sent;
  }

  same_world : (x : LineOfOrders) (now : HubValue KeeperState) (book_now : Book) (start : KeeperState) (fleet : Fleet) (secret : List ℕ) (h : List Entry) (orders : List OrderOf) → start ≡ now.start → fleet ≡ now.fleet → secret ≡ now.secret → h ≡ newest now.history → orders ≡ book_now.issued
      → world_with (set p.world.base.lines place x.plain.line) start fleet secret h (shelf_of key (shelf_in start key) h) orders book_now.results (set p.world.sent place x.sent) ≡ (order_play_of t now book_now (set lines place x) past told clock).world
  same_world x now book_now start fleet secret h orders a b c d e =
      ap (λ (ls : List Line). world_with ls start fleet secret h (shelf_of key (shelf_in start key) h) orders book_now.results (set p.world.sent place x.sent)) (sym (ap lines_in (plain_set lines place x) ∙ set_in (plain_lines lines) place x.plain))
      ∙ (ap (λ (s : List (Option ℕ)). world_with (lines_in (plain_lines (set lines place x))) start fleet secret h (shelf_of key (shelf_in start key) h) orders book_now.results s) (sym (sent_set lines place x))
      ∙ (ap (λ (z : KeeperState). world_with (lines_in (plain_lines (set lines place x))) z fleet secret h (shelf_of key (shelf_in z key) h) orders book_now.results (sent_on (set lines place x))) a
      ∙ (ap (λ (z : Fleet). world_with (lines_in (plain_lines (set lines place x))) now.start z secret h (shelf_of key (shelf_in now.start key) h) orders book_now.results (sent_on (set lines place x))) b
      ∙ (ap (λ (z : List ℕ). world_with (lines_in (plain_lines (set lines place x))) now.start now.fleet z h (shelf_of key (shelf_in now.start key) h) orders book_now.results (sent_on (set lines place x))) c
      ∙ (ap (λ (z : List Entry). world_with (lines_in (plain_lines (set lines place x))) now.start now.fleet now.secret z (shelf_of key (shelf_in now.start key) z) orders book_now.results (sent_on (set lines place x))) d
      ∙ ap (λ (z : List OrderOf). world_with (lines_in (plain_lines (set lines place x))) now.start now.fleet now.secret (newest now.history) (shelf_of key (shelf_in now.start key) (newest now.history)) z book_now.results (sent_on (set lines place x))) e)))))

  heard_there : (x : LineOfOrders) → taken_of x.plain.line.down ≡ taken_of (line_at p.world.base.lines place).down → taken_on (lines_in (plain_lines (set lines place x))) ≡ taken_on (lines_in (plain_lines lines))
  heard_there x same = ap taken_on (ap lines_in (plain_set lines place x) ∙ set_in (plain_lines lines) place x.plain) ∙ taken_same (lines_in (plain_lines lines)) place x.plain.line within same

  -- ---- it took an octet

  module _ (now : HubValue KeeperState) (book_now : Book) (x : LineOfOrders) (done : Bool) (r : TakesOne p.world place x (newest now.history) book_now done) (start : now.start ≡ hub.start) (fleet : now.fleet ≡ hub.fleet) (secret : now.secret ≡ hub.secret) where
    pub took_is : offered r.offers place (after p.world (Up place r.way r.telling)) ≡ (order_play_of t now book_now (set lines place x) past told clock).world
    took_is = r.is
        ∙ (ap (λ (z : Shelf). world_with (set p.world.base.lines place x.plain.line) hub.start hub.fleet hub.secret (entries_on (suc place) r.pairs ++ newest hub.history) z book.issued book_now.results (set p.world.sent place x.sent)) (sym (shelf_append key (shelf_in hub.start key) (entries_on (suc place) r.pairs) (newest hub.history)))
        ∙ same_world x now book_now hub.start hub.fleet hub.secret (entries_on (suc place) r.pairs ++ newest hub.history) book.issued (sym start) (sym fleet) (sym secret) (sym r.history) (sym r.issued))

    pub took_leads : Leads p.world (order_play_of t now book_now (set lines place x) past told clock).world
    took_leads = subst (Leads p.world) took_is (leads_both p.world (after p.world (Up place r.way r.telling)) (offered r.offers place (after p.world (Up place r.way r.telling)))
        (leads_one p.world (Up place r.way r.telling) (r.may, r.tells)) (offered_leads r.offers place (after p.world (Up place r.way r.telling)) r.offer))

    pub took_stage : x.plain.number ≡ old.plain.number → x.plain.line.is_open ≡ true → old.plain.line.is_open ≡ true → ((session : ℕ) → closed (newest now.history) session ≡ closed (newest hub.history) session) → now.reserved ≡ hub.reserved → IsStage t hears now book_now issued (set lines place x) clock
    took_stage number opened was same reserved = record {
      running = subst (λ (ls : List Numbered). IsRunning t.terminal now ls) (sym (plain_set lines place x))
          (up_running t.terminal hub now (plain_lines lines) place old.plain x.plain stage.running plain_lt (plain_is ∙ get_or_again (plain_lines lines) place old.plain plain_lt) number opened was same start reserved);
      ledger = stage.ledger;
      hearing = subst (Hears hears t.stream) (sym (heard_there x r.heard)) stage.hearing;
      clock_is = stage.clock_is;
      issued_is = stage.issued_is ∙ ap length (sym r.issued);
    }

  -- ---- it offered

  module _ (x : LineOfOrders) (done : Bool) (r : OffersInWorld p.world place x done) where
    pub offered_is : offered r.offers place p.world ≡ (order_play_of t hub book (set lines place x) past told clock).world
    offered_is = r.is ∙ same_world x hub book hub.start hub.fleet hub.secret (newest hub.history) book.issued refl refl refl refl refl

    pub offer_leads : Leads p.world (order_play_of t hub book (set lines place x) past told clock).world
    offer_leads = subst (Leads p.world) offered_is (offered_leads r.offers place p.world r.may)

    pub offer_stage : x.plain.number ≡ old.plain.number → x.plain.line.is_open ≡ true → old.plain.line.is_open ≡ true → IsStage t hears hub book issued (set lines place x) clock
    offer_stage number opened was = record {
      running = subst (λ (ls : List Numbered). IsRunning t.terminal hub ls) (sym (plain_set lines place x))
          (up_running t.terminal hub hub (plain_lines lines) place old.plain x.plain stage.running plain_lt (plain_is ∙ get_or_again (plain_lines lines) place old.plain plain_lt) number opened was (λ session. refl) refl refl);
      ledger = stage.ledger;
      hearing = subst (Hears hears t.stream) (sym (heard_there x r.heard)) stage.hearing;
      clock_is = stage.clock_is;
      issued_is = stage.issued_is;
    }

    -- where all was done it is what is played
    pub offer_whole : done ≡ true → order_play_of t hub book (set lines place x) past told clock ≡ with_world p (offers_at place p.world)
    offer_whole e = ap (λ (z : OrderWorld). with_world p z) (sym offered_is ∙ by r.offers (r.whole e))
      where
        by : (b : Bool) → b ≡ may_offer p.world place → offered b place p.world ≡ offers_at place p.world
        by true f = ap (λ (b : Bool). if b then after p.world (Offers place) else p.world) f
        by false f = ap (λ (b : Bool). if b then after p.world (Offers place) else p.world) f

-- ---- calls with a line in a place

-- a place in the world is one among the lines
pub lt_of : (t : OrderTerminalValue Stock LogStock) (hub : HubValue KeeperState) (book : Book) (lines : List LineOfOrders) (past : List Entry) (told : List ℕ) (clock place : ℕ) (p : OrderPlay) → order_play_of t hub book lines past told clock ≡ p → place < length p.world.base.lines → place < length lines
lt_of t hub book lines past told clock place p is lt = subst (λ (n : ℕ). place < n) (many_lines lines) (subst (λ (q : OrderPlay). place < length q.world.base.lines) (sym is) lt)

-- a fact of the line in the world is one of the line that was found
pub fact_of : (P : Line → Type 0) (t : OrderTerminalValue Stock LogStock) (hears : Bool) (hub : HubValue KeeperState) (book : Book) (issued : ℕ) (lines : List LineOfOrders) (past : List Entry) (told : List ℕ) (clock place : ℕ) (old : LineOfOrders) → IsStage t hears hub book issued lines clock → (p : OrderPlay) → order_play_of t hub book lines past told clock ≡ p
    → place < length lines → old ≡ get_or lines place old → P (line_at p.world.base.lines place) → P old.plain.line
fact_of P t hears hub book issued lines past told clock place old stage p is lt at fact =
    subst P (line_there t hears hub book issued lines past told clock place old stage lt at) (subst (λ (q : OrderPlay). P (line_at q.world.base.lines place)) (sym is) fact)

-- the line in the place where one was put
pub put_there : (t : OrderTerminalValue Stock LogStock) (hub : HubValue KeeperState) (book : Book) (lines : List LineOfOrders) (past : List Entry) (told : List ℕ) (clock place : ℕ) (x : LineOfOrders) → place < length lines → line_at (order_play_of t hub book (set lines place x) past told clock).world.base.lines place ≡ x.plain.line
put_there t hub book lines past told clock place x lt =
    ap (λ (ls : List Line). line_at ls place) (ap lines_in (plain_set lines place x) ∙ set_in (plain_lines lines) place x.plain)
    ∙ get_or-set_same (lines_in (plain_lines lines)) place x.plain.line new_line (subst (λ (n : ℕ). place < n) (sym (many_lines lines)) lt)

pub put_many : (t : OrderTerminalValue Stock LogStock) (hub now : HubValue KeeperState) (book book_now : Book) (lines : List LineOfOrders) (past : List Entry) (told : List ℕ) (clock place : ℕ) (x : LineOfOrders) (p : OrderPlay) → order_play_of t hub book lines past told clock ≡ p
    → length (order_play_of t now book_now (set lines place x) past told clock).world.base.lines ≡ length p.world.base.lines
put_many t hub now book book_now lines past told clock place x p is = many_lines (set lines place x) ∙ (length-set lines place x ∙ (sym (many_lines lines) ∙ ap (λ (q : OrderPlay). length q.world.base.lines) is))

-- and the other way round
pub fact_back : (P : Line → Type 0) (t : OrderTerminalValue Stock LogStock) (hears : Bool) (hub : HubValue KeeperState) (book : Book) (issued : ℕ) (lines : List LineOfOrders) (past : List Entry) (told : List ℕ) (clock place : ℕ) (old : LineOfOrders) → IsStage t hears hub book issued lines clock → (p : OrderPlay) → order_play_of t hub book lines past told clock ≡ p
    → place < length lines → old ≡ get_or lines place old → P old.plain.line → P (line_at p.world.base.lines place)
fact_back P t hears hub book issued lines past told clock place old stage p is lt at fact =
    subst (λ (q : OrderPlay). P (line_at q.world.base.lines place)) is (subst P (sym (line_there t hears hub book issued lines past told clock place old stage lt at)) fact)

-- a session whose end is closed offers nothing
pub quiet_whole : (p : OrderPlay) (place : ℕ) → (line_at p.world.base.lines place).is_open ≡ false → p ≡ with_world p (offers_at place p.world)
quiet_whole p place e = ap (with_world p) (sym (ap (λ (b : Bool). if b && (holds_phone (suc place) (first_read p.world place) p.world.base.history && is_due (sent_at p.world place) (book_of p.world)) then after p.world (Offers place) else p.world) e))
