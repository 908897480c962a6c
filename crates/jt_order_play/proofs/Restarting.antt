-- A terminal that starts anew over what its vault and its log load.
use Rattle.std.proofs.Common.{ℕ, ◌≤◌, ◌≡◌, List, Option, Some, Bool, false, ap, sym, ◌∙◌, subst}
use Rattle.std.specs.Prelude.{Result, Ok}
use Rattle.std.proofs.lemmas.Bool.{false≢true}
use Rattle.std.proofs.lemmas.Option.{same_Some}
use Rattle.jt_value.specs.Sameness.{key_of}
use Rattle.jt_escape.specs.Scan.{State as Splitting}
use Rattle.jt_store.specs.Memory.{KeeperState, Stock}
use Rattle.jt_store.specs.Vaults.{Held}
use Rattle.jt_platform.specs.Hub.{HubValue}
use Rattle.jt_platform.specs.declared.request.Entry.{Entry}
use Rattle.jt_terminal_rule.specs.declared.settings.Settings.{Settings}
use Rattle.jt_terminal_rule.specs.declared.state.State.{State}
use Rattle.jt_terminal_rule.specs.Messages.{AreSettings}
use Rattle.jt_terminal_rule.specs.Law.{StartIsARestart}
use Rattle.jt_terminal_rule.specs.Steps as step
use Rattle.jt_terminal_answers.specs.Performing.{HeldTables}
use Rattle.jt_terminal_steps.specs.Running.{IsSound, IsStarted}
use Rattle.jt_order.specs.Books.{Book}
use Rattle.jt_order.specs.Memory.{LogStock}
use Rattle.jt_order.specs.declared.performed.Performed.{Performed}
use Rattle.jt_obeying.specs.Orders.{no_tables, tables_of}
use Rattle.jt_obeying.specs.Performing.{terminal_performing}
use Rattle.jt_order_terminal.specs.Ledgers.{IsLedgerOf, Ledger}
use Rattle.jt_order_terminal.specs.Terminals.{OrderTerminalValue}
use Rattle.jt_play.specs.Holding.{play_of, lines_in, taken_on}
use Rattle.jt_play.specs.Playing.{Play}
use Rattle.jt_play.proofs.Acting.{some_held}
use Rattle.jt_play.proofs.Acting as acting
use Rattle.jt_play.proofs.Restarting as restarting
use Rattle.jt_order_octets.specs.Reaching.{Leads}
use Rattle.jt_order_octets.specs.Steps.{Does}
use Rattle.jt_order_play.specs.Playing.{OrderPlay, begins}
use Rattle.jt_order_play.specs.Holding.{Hears, IsStage, LineOfOrders, order_play_of, plain_lines}
use Rattle.jt_order_play.proofs.Doing.{bare}
use Rattle.jt_order_play.proofs.Standing.{leads_none, leads_one}

module _ (t now : OrderTerminalValue Stock LogStock) (hears : Bool) (hub : HubValue KeeperState) (book : Book) (issued : ℕ) (lines : List LineOfOrders) (past : List Entry) (told : List ℕ) (clock : ℕ) (stage : IsStage t hears hub book issued lines clock)
    (held_is : Some now.terminal.vault.held ≡ Some t.terminal.vault.held) (log_is : Some now.log.performed ≡ Some t.log.performed) where
  abbrev p : OrderPlay
  p = order_play_of t hub book lines past told clock

  abbrev pp : Play
  pp = play_of t.terminal hub (plain_lines lines) past told clock

  abbrev with : Play → List Performed → HeldTables → OrderPlay
  with q log tables = record { world = record p.world { base = bare q.world; log = log; tables = tables }; held = q.held; state = q.state; clock = q.clock }

  abbrev base_now : Play
  base_now = play_of now.terminal hub (plain_lines lines) past told clock

  same_log : now.log.performed ≡ t.log.performed
  same_log = same_Some now.log.performed t.log.performed log_is

  module _ (law : StartIsARestart) (ledger : IsLedgerOf now.log.performed now.ledger) (settings : Settings) (good : AreSettings settings) (own : key_of settings.phone ≡ key_of t.terminal.state.settings.phone) (st : IsStarted settings (Some t.terminal.vault.held) now.terminal.state) where
    abbrev done : Result (Unit {0}) (Unit {0})
    done = Ok tt

    tables_are : now.ledger.tables ≡ tables_of terminal_performing no_tables t.log.performed
    tables_are = ledger.tables ∙ ap (λ (log : List Performed). tables_of terminal_performing no_tables log) same_log

    pub begun_whole : order_play_of now hub book lines past told clock ≡ begins p settings
    begun_whole =
        ap (λ (log : List Performed). with base_now log now.ledger.tables) same_log
        ∙ (ap (λ (tables : HeldTables). with base_now t.log.performed tables) tables_are
        ∙ ap (λ (q : Play). with q t.log.performed (tables_of terminal_performing no_tables t.log.performed))
        (restarting.begun_whole law t.terminal now.terminal hub (plain_lines lines) past told clock stage.running settings good own held_is done st))

    pub begun_leads : Leads p.world (order_play_of now hub book lines past told clock).world
    begun_leads =
        let restarted = law t.terminal.vault.held t.terminal.state settings st.loaded stage.running.sound.order stage.running.sound.agrees.0 st.is st.order good.phone own in
        subst (λ (q : OrderPlay). Leads p.world q.world) (sym begun_whole) (leads_one p.world (Does (step.Restarts settings.phone)) (restarted.may, tt))

    pub begun_stage : IsSound (Some now.terminal.vault.held) now.terminal.state → now.terminal.vault.limit ≡ t.terminal.vault.limit → IsStage now false hub book issued lines clock
    begun_stage sound limit = record {
      running = restarting.begun_running law t.terminal now.terminal hub (plain_lines lines) past told clock stage.running settings good own held_is done st tt sound limit;
      ledger = ledger;
      hearing = λ on. absurd (false≢true on);
      clock_is = restarting.begun_clock law t.terminal now.terminal hub (plain_lines lines) past told clock stage.running settings good own held_is done st tt stage.clock_is;
      issued_is = stage.issued_is;
    }

  -- it did not start, and is as before
  module _ (state_is : now.terminal.state ≡ t.terminal.state) (ledger_is : now.ledger ≡ t.ledger) where
    -- the wrapped terminal with this state, over what the vault holds
    abbrev base_with : Held → State → Play
    base_with h s = play_of (record { vault = record now.terminal.vault { held = h }; state = s }) hub (plain_lines lines) past told clock

    pub failed_whole : order_play_of now hub book lines past told clock ≡ p
    failed_whole =
        ap (λ (log : List Performed). with base_now log now.ledger.tables) same_log
        ∙ (ap (λ (l : Ledger). with base_now t.log.performed l.tables) ledger_is
        ∙ (ap (λ (h : Held). with (base_with h now.terminal.state) t.log.performed t.ledger.tables) (some_held now.terminal.vault.held t.terminal.vault.held held_is)
        ∙ ap (λ (s : State). with (base_with t.terminal.vault.held s) t.log.performed t.ledger.tables) state_is))

    pub failed_leads : Leads p.world (order_play_of now hub book lines past told clock).world
    failed_leads = subst (λ (q : OrderPlay). Leads p.world q.world) (sym failed_whole) (leads_none p.world)

    pub failed_stage : now.stream ≡ t.stream → IsLedgerOf now.log.performed now.ledger → now.terminal.vault.limit ≡ t.terminal.vault.limit → IsStage now hears hub book issued lines clock
    failed_stage stream_is ledger limit = record {
      running = acting.still_running t.terminal hub (plain_lines lines) past told clock stage.running now.terminal
          (subst (λ (s : State). IsSound (Some now.terminal.vault.held) s) (sym state_is) (subst (λ (h : Option Held). IsSound h t.terminal.state) (sym held_is) stage.running.sound)) (ap (λ (s : State). s.settings) state_is) limit;
      ledger = ledger;
      hearing = subst (λ (z : Splitting). Hears hears z (taken_on (lines_in (plain_lines lines)))) (sym stream_is) stage.hearing;
      clock_is = record { late = subst (λ (n : ℕ). n ≤ clock) (sym (ap (λ (s : State). s.time) state_is)) stage.clock_is.late; small = stage.clock_is.small };
      issued_is = stage.issued_is;
    }
