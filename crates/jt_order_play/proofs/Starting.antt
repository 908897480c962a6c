-- Where nothing has happened.
use Rattle.std.proofs.Common.{ℕ, ◌≡◌, List, [], length, Some, false, ap, sym, ◌∙◌, subst}
use Rattle.std.proofs.lemmas.Bool.{false≢true}
use Rattle.std.proofs.lemmas.Option.{same_Some}
use Rattle.jt_value.specs.declared.limits.TheConstants.{ROW_LIMIT}
use Rattle.jt_store.specs.Memory.{KeeperState, Stock}
use Rattle.jt_platform.specs.Hub.{HubValue}
use Rattle.jt_platform.specs.declared.request.Entry.{Entry}
use Rattle.jt_platform.specs.declared.request.Fleet.{Fleet}
use Rattle.jt_terminal_rule.specs.declared.settings.Settings.{Settings}
use Rattle.jt_terminal_rule.specs.Messages.{AreSettings}
use Rattle.jt_terminal_answers.specs.Performing.{HeldTables}
use Rattle.jt_terminal_steps.specs.Running.{IsSound, TerminalValue}
use Rattle.jt_delivery.specs.World.{Setting}
use Rattle.jt_order.specs.Books.{Book}
use Rattle.jt_order.specs.Memory.{LogStock}
use Rattle.jt_order.specs.declared.performed.Performed.{Performed}
use Rattle.jt_obeying.specs.Orders.{no_tables}
use Rattle.jt_order_terminal.specs.Ledgers.{IsLedgerOf}
use Rattle.jt_order_terminal.specs.Terminals.{OrderTerminalValue}
use Rattle.jt_play.specs.Holding.{IsNewHub, IsNewTerminal, past_of, play_of}
use Rattle.jt_play.specs.Playing.{Play}
use Rattle.jt_play.proofs.Starting as starting
use Rattle.jt_order_octets.specs.World.{empty}
use Rattle.jt_order_octets.specs.Reaching.{Reached}
use Rattle.jt_order_play.specs.declared.stage.Told.{Told}
use Rattle.jt_order_play.specs.Playing.{OrderPlay}
use Rattle.jt_order_play.specs.Holding.{IsNewOrderTerminal, IsStage, LineOfOrders, order_play_of, told_places}
use Rattle.jt_order_play.specs.Scripts.{first_play}
use Rattle.jt_order_play.proofs.Doing.{bare}
use Rattle.jt_order_play.proofs.Standing.{leads_none}

-- what is known of an order terminal that starts over a new one and an empty log
pub is_new : (settings : Settings) (first : TerminalValue Stock) (t : OrderTerminalValue Stock LogStock) → IsNewTerminal settings first → t.terminal ≡ first → Some t.log.performed ≡ Some [] → IsLedgerOf [] t.ledger → IsNewOrderTerminal settings t
is_new settings first t new same log ledger = record {
  terminal = subst (IsNewTerminal settings) (sym same) new;
  log = same_Some t.log.performed [] log;
  ledger = ledger;
}

abbrev no_orders : Book
no_orders = record { issued = []; results = [] }

module _ (settings : Settings) (fleet : Fleet) (secret : List ℕ) (t : OrderTerminalValue Stock LogStock) (hub : HubValue KeeperState) (book : Book) (new_t : IsNewOrderTerminal settings t) (new_hub : IsNewHub fleet secret hub) (new_book : book ≡ no_orders) where
  pub new_stage : IsSound (Some t.terminal.vault.held) t.terminal.state → IsStage t false hub book 0 [] 0
  new_stage sound = record {
    running = starting.new_running settings fleet secret t.terminal hub new_t.terminal new_hub sound;
    ledger = subst (λ (log : List Performed). IsLedgerOf log t.ledger) (sym new_t.log) new_t.ledger;
    hearing = λ on. absurd (false≢true on);
    clock_is = starting.new_clock settings fleet secret t.terminal hub new_t.terminal new_hub;
    issued_is = ap (λ (b : Book). length b.issued) (sym new_book);
  }

  abbrev with : Play → Book → List Performed → HeldTables → OrderPlay
  with q b log tables = record {
    world = record { base = bare q.world; issued = b.issued; results = b.results; sent = []; log = log; tables = tables; refused = [] };
    held = q.held;
    state = q.state;
    clock = q.clock;
  }

  new_play : order_play_of t hub book [] [] [] 0 ≡ first_play settings (record { fleet = fleet; secret = secret; limit = ROW_LIMIT })
  new_play =
      let q = play_of t.terminal hub [] [] [] 0 in
      ap (λ (b : Book). with q b t.log.performed t.ledger.tables) new_book
      ∙ (ap (λ (log : List Performed). with q no_orders log t.ledger.tables) new_t.log
      ∙ (ap (λ (tables : HeldTables). with q no_orders [] tables) new_t.ledger.tables
      ∙ ap (λ (x : Play). with x no_orders [] no_tables) (starting.new_play settings fleet secret t.terminal hub new_t.terminal new_hub)))

  pub new_is : (lines : List LineOfOrders) (past : List (List Entry)) (told : List Told) → lines ≡ [] → past ≡ [] → told ≡ [] → order_play_of t hub book lines (past_of past) (told_places told) 0 ≡ first_play settings (record { fleet = fleet; secret = secret; limit = ROW_LIMIT })
  new_is lines past told no_lines no_past none_told =
      ap (λ (ls : List LineOfOrders). order_play_of t hub book ls (past_of past) (told_places told) 0) no_lines
      ∙ (ap (λ (h : List (List Entry)). order_play_of t hub book [] (past_of h) (told_places told) 0) no_past
      ∙ (ap (λ (x : List Told). order_play_of t hub book [] [] (told_places x) 0) none_told ∙ new_play))

-- which is reached
pub first_reached : (settings : Settings) (setting : Setting) → AreSettings settings → Reached (first_play settings setting).world
first_reached settings setting good = record { phone = settings.phone; good = good.phone; setting = setting; leads = leads_none (empty settings.phone setting) }
