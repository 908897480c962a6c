-- A platform's end that is closed.
use Rattle.std.proofs.Common.{ℕ, ◌<◌, ◌≡◌, List, [], ◌∷◌, ◌++◌, length, set, get_or, Option, None, Bool, true, refl, ap, sym, ◌∙◌, subst}
use Rattle.std.specs.Prelude.{if◌then◌else◌}
use Rattle.std.proofs.lemmas.List.{get_or_read, set-get_or}
use Rattle.jt_store.specs.Memory.{KeeperState, Stock}
use Rattle.jt_platform.specs.Hub.{HubValue, IsOwed}
use Rattle.jt_platform.specs.declared.request.Entry.{Entry}
use Rattle.jt_platform.specs.declared.request.Request.TheVariants as ask
use Rattle.jt_platform.specs.declared.request.Reply.TheVariants as say
use Rattle.jt_order.specs.Books.{Book}
use Rattle.jt_order.specs.Memory.{LogStock}
use Rattle.jt_order_terminal.specs.Terminals.{OrderTerminalValue}
use Rattle.jt_octets.specs.World.{World, Line, line_at}
use Rattle.jt_octets.specs.Steps.{shut}
use Rattle.jt_play.specs.Holding.{IsRunning, Numbered, lines_in, play_of, taken_on}
use Rattle.jt_play.proofs.Worlds as worlds
use Rattle.jt_order_octets.specs.World.{OrderWorld}
use Rattle.jt_order_octets.specs.Reaching.{Leads}
use Rattle.jt_order_octets.specs.Steps.{Cut, after}
use Rattle.jt_order_play.specs.Playing.{OrderPlay, cuts, with_world}
use Rattle.jt_order_play.specs.Holding.{Hears, IsStage, LineOfOrders, blank, order_play_of, plain_lines, sent_on}
use Rattle.jt_order_play.proofs.Standing.{get_or_again, leads_one, line_there, many_lines, plain_at, plain_length, plain_set, sent_set, sent_there}

module _ (t : OrderTerminalValue Stock LogStock) (hears : Bool) (hub now : HubValue KeeperState) (book : Book) (issued : ℕ) (lines : List LineOfOrders) (past : List Entry) (told : List ℕ) (clock place : ℕ) (old x : LineOfOrders) (stage : IsStage t hears hub book issued lines clock)
    (lt : place < length lines) (at : old ≡ get_or lines place old) (opened : old.plain.line.is_open ≡ true) where
  abbrev p : OrderPlay
  p = order_play_of t hub book lines past told clock

  old_is : old ≡ get_or lines place blank
  old_is = get_or_read lines place old lt at blank

  plain_lt : place < length (plain_lines lines)
  plain_lt = subst (λ (n : ℕ). place < n) (sym (plain_length lines)) lt

  plain_is : old.plain ≡ get_or (plain_lines lines) place old.plain
  plain_is = ap (λ (l : LineOfOrders). l.plain) old_is ∙ (sym (plain_at lines place) ∙ get_or_again (plain_lines lines) place old.plain plain_lt)

  -- the hub has room for the Close, and the session made none
  pub owed : (number : ℕ) → number ≡ old.plain.number → IsOwed hub.history hub.reserved number
  owed number same = subst (λ (n : ℕ). IsOwed hub.history hub.reserved n) (sym same)
      (worlds.cut_owed t.terminal hub (record hub { history = hub.history ++ record { session = old.plain.number; request = ask.Close; reply = say.Accepted } ∷ [] }) (plain_lines lines) past told clock place old.plain (record old.plain { line = shut old.plain.line })
      stage.running plain_lt plain_is opened refl refl refl refl refl refl)

  module _ (x_is : x ≡ record old { plain = record old.plain { line = shut old.plain.line } }) (entry : now.history ≡ hub.history ++ record { session = old.plain.number; request = ask.Close; reply = say.Accepted } ∷ [])
      (start : now.start ≡ hub.start) (fleet : now.fleet ≡ hub.fleet) (secret : now.secret ≡ hub.secret) (reserved : now.reserved ≡ hub.reserved) where
    shut_is : x.plain ≡ record old.plain { line = shut old.plain.line }
    shut_is = ap (λ (l : LineOfOrders). l.plain) x_is

    sent_same : sent_on (set lines place x) ≡ sent_on lines
    sent_same = sent_set lines place x ∙ (ap (λ (s : Option ℕ). set (sent_on lines) place s) (ap (λ (l : LineOfOrders). l.sent) x_is ∙ (ap (λ (l : LineOfOrders). l.sent) old_is ∙ sym (sent_there lines place))) ∙ set-get_or (sent_on lines) place None)

    cut_is : after p.world (Cut place) ≡ (order_play_of t now book (set lines place x) past told clock).world
    cut_is =
        ap (λ (z : World). record p.world { base = record z { partial = [] } }) (worlds.cut_is t.terminal hub now (plain_lines lines) past told clock place old.plain x.plain stage.running plain_lt plain_is opened shut_is entry start fleet secret reserved)
        ∙ (ap (λ (ls : List Numbered). record p.world { base = record (play_of t.terminal now ls past told clock).world { partial = [] } }) (sym (plain_set lines place x))
        ∙ ap (λ (s : List (Option ℕ)). record p.world { base = record (play_of t.terminal now (plain_lines (set lines place x)) past told clock).world { partial = [] }; sent = s }) (sym sent_same))

    open_there : (line_at p.world.base.lines place).is_open ≡ true
    open_there = ap (λ (l : Line). l.is_open) (line_there t hears hub book issued lines past told clock place old stage lt at) ∙ opened

    pub cut_leads : Leads p.world (order_play_of t now book (set lines place x) past told clock).world
    cut_leads = subst (Leads p.world) cut_is (leads_one p.world (Cut place) (record { opened = subst (λ (n : ℕ). place < n) (sym (many_lines lines)) lt; is_open = open_there }))

    pub cut_whole : order_play_of t now book (set lines place x) past told clock ≡ with_world p (cuts p.world place)
    cut_whole = ap (λ (z : OrderWorld). with_world p z) (sym (ap (λ (b : Bool). if b then after p.world (Cut place) else p.world) open_there ∙ cut_is))

    pub cut_stage : IsStage t hears now book issued (set lines place x) clock
    cut_stage = record {
      running = subst (λ (ls : List Numbered). IsRunning t.terminal now ls) (sym (plain_set lines place x))
          (worlds.cut_running t.terminal hub now (plain_lines lines) past told clock place old.plain x.plain stage.running plain_lt plain_is opened shut_is entry start fleet secret reserved);
      ledger = stage.ledger;
      hearing = subst (Hears hears t.stream) (sym (ap (λ (ls : List Numbered). taken_on (lines_in ls)) (plain_set lines place x)
          ∙ worlds.cut_taken t.terminal hub now (plain_lines lines) past told clock place old.plain x.plain stage.running plain_lt plain_is opened shut_is entry start fleet secret reserved)) stage.hearing;
      clock_is = stage.clock_is;
      issued_is = stage.issued_is;
    }
