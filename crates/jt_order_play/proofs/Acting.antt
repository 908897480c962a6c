-- The wrapped terminal meets an event that opens no line: what was done whole is what is played, and what was cut short is steps of the world.
use Rattle.std.proofs.Common.{ℕ, ◌≡◌, ◌≢◌, List, ◌++◌, Option, Some, None, Bool, refl, ap, sym, ◌∙◌, subst}
use Rattle.std.specs.List.{flat_map}
use Rattle.jt_value.specs.Sameness.{key_of}
use Rattle.jt_store.specs.Memory.{KeeperState, Stock}
use Rattle.jt_store.specs.Vaults.{Held}
use Rattle.jt_platform.specs.History.{newest}
use Rattle.jt_platform.specs.Hub.{HubValue}
use Rattle.jt_platform.specs.Laws.{shelf_of}
use Rattle.jt_platform.specs.declared.request.Entry.{Entry}
use Rattle.jt_terminal_rule.specs.declared.settings.Settings.{Settings}
use Rattle.jt_terminal_rule.specs.declared.state.State.{State}
use Rattle.jt_terminal_rule.specs.declared.state.Event.{Event as TerminalEvent}
use Rattle.jt_terminal_rule.specs.Rule.{Ruled, Step, down, response, rule, sends}
use Rattle.jt_terminal_rule.specs.Law.{AreSteps, RuleIsCutInSteps, RuleTakesSteps, changes_then_loss}
use Rattle.jt_terminal_rule.specs.Machines.{as_steps, held_after, machine_of}
use Rattle.jt_terminal_rule.specs.Steps.{Machine, MayRun, machine_run}
use Rattle.jt_terminal_rule.specs.Steps as step
use Rattle.jt_terminal_steps.specs.Running.{IsDown, IsSound, holds_after}
use Rattle.jt_order.specs.Books.{Book}
use Rattle.jt_order.specs.Memory.{LogStock}
use Rattle.jt_order_terminal.specs.Ledgers.{IsLedgerOf, Ledger}
use Rattle.jt_order_terminal.specs.Terminals.{IsNoMessage, OrderTerminalValue}
use Rattle.jt_octets.specs.World.{World}
use Rattle.jt_play.specs.Holding.{IsClock, IsNoOpening, IsRunning, Numbered, lines_in, play_of, shelf_in, taken_on}
use Rattle.jt_play.specs.Playing.{Play}
use Rattle.jt_play.specs.Playing as played
use Rattle.jt_play.proofs.Cutting.{down_same, quiet_world}
use Rattle.jt_order_octets.specs.World.{OrderWorld}
use Rattle.jt_order_octets.specs.Reaching.{Leads}
use Rattle.jt_order_play.specs.Playing.{OrderPlay, done, meets}
use Rattle.jt_order_play.specs.Holding.{Hears, IsStage, LineOfOrders, order_play_of, plain_lines, sent_on, wrote_last}
use Rattle.jt_order_play.proofs.Naming.{event_names, quiet_names, steps_fine}
use Rattle.jt_play.proofs.Acting.{held_is, machine_down}
use Rattle.jt_play.proofs.Acting as acting
use Rattle.jt_play.proofs.Opening.{rule_keeps}
use Rattle.jt_play.proofs.Worlds.{taken_wrote}
use Rattle.jt_terminal_rule.specs.declared.state.Event.TheVariants.{Opened}
use Rattle.jt_order_play.proofs.Doing.{bare, done_bare, done_is, done_leads, plain_wrote, quiet_opens, sent_wrote}

-- ---- an event

module _ (t : OrderTerminalValue Stock LogStock) (hears : Bool) (hub : HubValue KeeperState) (book : Book) (issued : ℕ) (lines : List LineOfOrders) (past : List Entry) (told : List ℕ) (clock : ℕ) (stage : IsStage t hears hub book issued lines clock)
    (e : TerminalEvent) (silent : response e ≡ None) (no_message : IsNoMessage e) (now : OrderTerminalValue Stock LogStock) (same : now.terminal.state.settings ≡ t.terminal.state.settings) (same_log : now.log ≡ t.log) (same_ledger : now.ledger ≡ t.ledger) where
  abbrev p : OrderPlay
  p = order_play_of t hub book lines past told clock

  abbrev pp : Play
  pp = play_of t.terminal hub (plain_lines lines) past told clock

  abbrev r : Ruled
  r = rule t.terminal.state e

  abbrev m : Machine
  m = machine_of t.terminal.vault.held t.terminal.state

  -- the world with this base
  abbrev world_on : World → OrderWorld
  world_on b = record p.world { base = b }

  -- another terminal, whose log and tables are the same, and lines on which the same was sent
  pub world_of : (lines_now : List LineOfOrders) → sent_on lines_now ≡ sent_on lines → (order_play_of now hub book lines_now past told clock).world ≡ world_on (bare (play_of now.terminal hub (plain_lines lines_now) past told clock).world)
  world_of lines_now sent =
      ap (λ (s : List (Option ℕ)). record (order_play_of now hub book lines_now past told clock).world { sent = s }) sent
      ∙ (ap (λ (g : LogStock). record p.world { base = bare (play_of now.terminal hub (plain_lines lines_now) past told clock).world; log = g.performed; tables = now.ledger.tables }) same_log
      ∙ ap (λ (l : Ledger). record p.world { base = bare (play_of now.terminal hub (plain_lines lines_now) past told clock).world; tables = l.tables }) same_ledger)

  -- cut short
  terminal_is : (held : Held) (state : State) → machine_of now.terminal.vault.held now.terminal.state ≡ machine_of held state → (play_of now.terminal hub (plain_lines lines) past told clock).world ≡ record pp.world { terminal = machine_of held state }
  terminal_is held state is =
      ap (λ (s : Settings). let key = key_of s.phone in record pp.world { terminal = machine_of now.terminal.vault.held now.terminal.state; keeper = shelf_of key (shelf_in hub.start key) (newest hub.history); began = shelf_in hub.start key }) same
      ∙ ap (λ (z : Machine). record pp.world { terminal = z }) is

  pub cut_acted : RuleIsCutInSteps → (begun left : List Step) → r.steps ≡ begun ++ left → Some now.terminal.vault.held ≡ holds_after begun (Some t.terminal.vault.held) → IsDown now.terminal.state
      → Leads p.world (order_play_of now hub book lines past told clock).world
  cut_acted law begun left parts held_now is_down =
      subst (Leads p.world) (sym world_is) (done_leads p.world (as_steps m (changes_then_loss begun)) may (steps_fine m (changes_then_loss begun) (quiet_names begun)))
    where
      cut : MayRun (step.hears m (response e)) (response e) (as_steps (step.hears m (response e)) (changes_then_loss begun)) × (machine_run (step.hears m (response e)) (as_steps (step.hears m (response e)) (changes_then_loss begun)) ≡ machine_of (held_after begun t.terminal.vault.held) (down t.terminal.state))
      cut = law t.terminal.vault.held t.terminal.state e stage.running.sound.good stage.running.sound.order stage.running.sound.agrees.0 begun left parts

      may : MayRun m None (as_steps m (changes_then_loss begun))
      may = subst (λ a. MayRun (step.hears m a) a (as_steps (step.hears m a) (changes_then_loss begun))) silent cut.0

      to : machine_run m (as_steps m (changes_then_loss begun)) ≡ machine_of (held_after begun t.terminal.vault.held) (down t.terminal.state)
      to = subst (λ a. machine_run (step.hears m a) (as_steps (step.hears m a) (changes_then_loss begun)) ≡ machine_of (held_after begun t.terminal.vault.held) (down t.terminal.state)) silent cut.1

      is_machine : machine_of now.terminal.vault.held now.terminal.state ≡ machine_of (held_after begun t.terminal.vault.held) (down t.terminal.state)
      is_machine = machine_down now.terminal.vault.held now.terminal.state is_down ∙ (ap (λ (h : Held). machine_of h (down now.terminal.state)) (held_is begun t.terminal.vault.held now.terminal.vault.held held_now) ∙ down_same (held_after begun t.terminal.vault.held) t.terminal.state now.terminal.state same)

      world_is : (order_play_of now hub book lines past told clock).world ≡ done p.world (as_steps m (changes_then_loss begun))
      world_is =
          world_of lines refl
          ∙ (ap (λ (w : World). world_on (bare w)) (terminal_is (held_after begun t.terminal.vault.held) (down t.terminal.state) is_machine)
          ∙ (ap (λ (z : Machine). world_on (bare (record pp.world { terminal = z }))) (sym to)
          ∙ (ap (λ (w : World). world_on (bare w)) (sym (quiet_world pp.world begun))
          ∙ (ap world_on (sym (done_bare pp.world (as_steps m (changes_then_loss begun)))) ∙ sym (done_is p.world (changes_then_loss begun) (quiet_opens begun))))))

  -- whole
  module _ (law : RuleTakesSteps) (other : IsNoOpening e) where
    steps : AreSteps m t.terminal.vault.held None r
    steps = subst (λ a. AreSteps (step.hears m a) t.terminal.vault.held a r) silent (law t.terminal.vault.held t.terminal.state e stage.running.sound.good stage.running.sound.order stage.running.sound.agrees.0)

    pub meets_leads : Leads p.world (meets p e).world
    meets_leads = done_leads p.world (as_steps m r.steps) steps.may (steps_fine m r.steps (event_names t.terminal.state e no_message))

    pub whole_acted : (lines_now : List LineOfOrders) → now.terminal.state ≡ r.state → Some now.terminal.vault.held ≡ holds_after r.steps (Some t.terminal.vault.held)
        → lines_now ≡ wrote_last lines (flat_map (λ (frame : List ℕ). frame) (sends t.terminal.state.settings r.steps)) → order_play_of now hub book lines_now past told clock ≡ meets p e
    whole_acted lines_now state_is held_now lines_are =
        let octets = flat_map (λ (frame : List ℕ). frame) (sends t.terminal.state.settings r.steps) in
        let whole : play_of now.terminal hub (plain_lines lines_now) past told clock ≡ played.meets pp e = acting.whole_acted t.terminal hub (plain_lines lines) past told clock stage.running e silent now.terminal same law other (plain_lines lines_now) state_is held_now (ap plain_lines lines_are ∙ plain_wrote lines octets) in
        ap (λ (w : OrderWorld). record { world = w; held = now.terminal.vault.held; state = now.terminal.state; clock = clock }) (world_of lines_now (ap sent_on lines_are ∙ sent_wrote lines octets))
        ∙ (ap (λ (q : Play). record { world = world_on (bare q.world); held = q.held; state = q.state; clock = q.clock }) whole
        ∙ ap (λ (w : OrderWorld). record { world = w; held = held_after r.steps t.terminal.vault.held; state = r.state; clock = clock })
        (ap world_on (sym (done_bare pp.world (as_steps m r.steps))) ∙ sym (done_is p.world r.steps (rule_keeps t.terminal.state e other))))

  -- ---- what stays true of the parts

  still_ledger : IsLedgerOf now.log.performed now.ledger
  still_ledger = subst (λ (g : LogStock). IsLedgerOf g.performed now.ledger) (sym same_log) (subst (λ (l : Ledger). IsLedgerOf t.log.performed l) (sym same_ledger) stage.ledger)

  module _ (sound : IsSound (Some now.terminal.vault.held) now.terminal.state) (same_limit : now.terminal.vault.limit ≡ t.terminal.vault.limit) (same_stream : now.stream ≡ t.stream) (clock_is : IsClock now.terminal clock) where
    still_running : IsRunning now.terminal hub (plain_lines lines)
    still_running = acting.still_running t.terminal hub (plain_lines lines) past told clock stage.running now.terminal sound same same_limit

    pub still_stage : IsStage now hears hub book issued lines clock
    still_stage = record {
      running = still_running;
      ledger = still_ledger;
      hearing = subst (λ z. Hears hears z (taken_on (lines_in (plain_lines lines)))) (sym same_stream) stage.hearing;
      clock_is = clock_is;
      issued_is = stage.issued_is;
    }

    pub wrote_stage : (octets : List ℕ) → IsStage now hears hub book issued (wrote_last lines octets) clock
    wrote_stage octets = record {
      running = subst (λ (ls : List Numbered). IsRunning now.terminal hub ls) (sym (plain_wrote lines octets)) (acting.wrote_running now.terminal hub (plain_lines lines) past told clock still_running octets);
      ledger = still_ledger;
      hearing = subst (λ (seen : List ℕ). Hears hears now.stream seen) (sym (ap (λ (ls : List Numbered). taken_on (lines_in ls)) (plain_wrote lines octets) ∙ taken_wrote (plain_lines lines) octets))
          (subst (λ z. Hears hears z (taken_on (lines_in (plain_lines lines)))) (sym same_stream) stage.hearing);
      clock_is = clock_is;
      issued_is = stage.issued_is;
    }

-- an event that opens no line is no opening
pub apart_of : (e : TerminalEvent) → IsNoOpening e → e ≢ Opened
apart_of e other is = subst IsNoOpening is other
