-- A new line, with all ways out of its opening: the wrapped terminal opens it, and nothing was sent on it.
use Rattle.std.proofs.Common.{ℕ, ◌+◌, ◌≤◌, ◌≡◌, List, [], ◌∷◌, ◌++◌, length, Option, Some, None, Bool, true, arith, ap, sym, ◌∙◌, subst}
use Rattle.std.specs.List.{flat_map}
use Rattle.std.proofs.lemmas.List.{map-append}
use Rattle.jt_value.specs.Sameness.{key_of}
use Rattle.jt_store.specs.Memory.{KeeperState, Stock}
use Rattle.jt_store.specs.Vaults.{Held}
use Rattle.jt_platform.specs.History.{newest}
use Rattle.jt_platform.specs.Hub.{HubValue}
use Rattle.jt_platform.specs.Laws.{shelf_of}
use Rattle.jt_platform.specs.declared.request.Entry.{Entry}
use Rattle.jt_terminal_rule.specs.declared.settings.Settings.{Settings}
use Rattle.jt_terminal_rule.specs.declared.state.State.{State}
use Rattle.jt_terminal_rule.specs.declared.state.Event.TheVariants as event
use Rattle.jt_terminal_rule.specs.Rule.{Ruled, Step, down, introduce, rule, sends}
use Rattle.jt_terminal_rule.specs.Law.{AreSteps, RuleTakesSteps}
use Rattle.jt_terminal_rule.specs.Machines.{as_steps, held_after, machine_of}
use Rattle.jt_terminal_rule.specs.Steps.{Machine, machine_after}
use Rattle.jt_terminal_rule.specs.Steps as step
use Rattle.jt_terminal_steps.specs.Running.{IsDown, IsSound, holds_after}
use Rattle.jt_order.specs.Books.{Book}
use Rattle.jt_order.specs.Memory.{LogStock}
use Rattle.jt_order_terminal.specs.Ledgers.{IsLedgerOf, Ledger}
use Rattle.jt_order_terminal.specs.Terminals.{OrderTerminalValue, StandsForLine}
use Rattle.jt_octets.specs.World.{World, Line, new_line}
use Rattle.jt_play.specs.Holding.{IsClock, IsRunning, Numbered, first_line, lines_in, play_of, shelf_in, taken_on}
use Rattle.jt_play.specs.Holding as plain
use Rattle.jt_play.specs.Playing.{Play}
use Rattle.jt_play.specs.Playing as played
use Rattle.jt_play.proofs.Acting.{machine_down, some_held}
use Rattle.jt_play.proofs.Acting as acting
use Rattle.jt_play.proofs.Beginning as beginning
use Rattle.jt_play.proofs.Cutting.{down_same}
use Rattle.jt_play.proofs.Opening.{NoneOpens}
use Rattle.jt_play.proofs.Worlds.{taken_wrote}
use Rattle.jt_order_octets.specs.World.{OrderWorld}
use Rattle.jt_order_octets.specs.Reaching.{Leads}
use Rattle.jt_order_octets.specs.Steps.{Does, after}
use Rattle.jt_order_play.specs.Playing.{OrderPlay, done, meets}
use Rattle.jt_order_play.specs.Holding.{IsHearing, IsStage, LineOfOrders, first_order_line, order_play_of, plain_lines, sent_on, wrote_last}
use Rattle.jt_order_play.proofs.Doing.{bare, done_bare, done_is, done_leads, plain_wrote, sent_wrote}
use Rattle.jt_order_play.proofs.Naming.{event_names, steps_fine}
use Rattle.jt_order_play.proofs.Standing.{leads_both, leads_one, plain_length}

-- behind the opening the terminal introduces itself, and opens no other line
abbrev behind : State → Option (List ℕ) → List Step
behind s code = (introduce (record s { sent = 0 }) code).steps

opens_once : (s : State) (code : Option (List ℕ)) → NoneOpens (behind s code)
opens_once s None = tt
opens_once s (Some code) = tt

module _ (t : OrderTerminalValue Stock LogStock) (hears : Bool) (hub : HubValue KeeperState) (book : Book) (issued : ℕ) (lines : List LineOfOrders) (past : List Entry) (told : List ℕ) (clock number most : ℕ) (stage : IsStage t hears hub book issued lines clock)
    (number_is : number ≡ length lines + 1) (grew : hub.reserved ≤ most) where
  abbrev room : HubValue KeeperState
  room = record hub { reserved = most }

  abbrev more : List LineOfOrders
  more = lines ++ first_order_line number ∷ []

  plain_more : plain_lines more ≡ plain_lines lines ++ first_line number ∷ []
  plain_more = map-append (λ (l : LineOfOrders). l.plain) lines (first_order_line number ∷ [])

  sent_more : sent_on more ≡ sent_on lines ++ None ∷ []
  sent_more = map-append (λ (l : LineOfOrders). l.sent) lines (first_order_line number ∷ [])

  lines_more : lines_in (plain_lines more) ≡ lines_in (plain_lines lines) ++ new_line ∷ []
  lines_more = ap lines_in plain_more ∙ map-append (λ (n : Numbered). n.line) (plain_lines lines) (first_line number ∷ [])

  plain_number : number ≡ length (plain_lines lines) + 1
  plain_number = number_is ∙ ap (λ (n : ℕ). n + 1) (sym (plain_length lines))

  -- the hub has room for one Close more
  pub room_stage : IsStage t hears room book issued lines clock
  room_stage = record {
    running = beginning.room_running t.terminal hub (plain_lines lines) past told clock number most stage.running plain_number grew;
    ledger = stage.ledger;
    hearing = stage.hearing;
    clock_is = stage.clock_is;
    issued_is = stage.issued_is;
  }

  more_running : number ≤ most → IsRunning t.terminal room (plain_lines more)
  more_running enough = subst (λ (ls : List Numbered). IsRunning t.terminal room ls) (sym plain_more) (beginning.more_running t.terminal hub (plain_lines lines) past told clock number most stage.running plain_number grew enough)

  -- nothing was read on the new line
  taken_none : taken_on (lines_in (plain_lines more)) ≡ []
  taken_none = ap (λ (ls : List Numbered). taken_on (lines_in ls)) plain_more ∙ beginning.taken_more t.terminal hub (plain_lines lines) past told clock number most stage.running plain_number grew

  abbrev p : OrderPlay
  p = order_play_of t hub book lines past told clock

  abbrev pp : Play
  pp = play_of t.terminal hub (plain_lines lines) past told clock

  abbrev m : Machine
  m = machine_of t.terminal.vault.held t.terminal.state

  abbrev m1 : Machine
  m1 = machine_after m step.Opens

  abbrev w1 : OrderWorld
  w1 = after p.world (Does step.Opens)

  module _ (now : OrderTerminalValue Stock LogStock) (same : now.terminal.state.settings ≡ t.terminal.state.settings) (same_log : now.log ≡ t.log) (same_ledger : now.ledger ≡ t.ledger) where
    -- the world of another terminal of the same phone, and of other lines
    abbrev with : Machine → Settings → List Line → List (Option ℕ) → LogStock → Ledger → OrderWorld
    with z s ls sent g l = record p.world {
      base = record p.world.base { terminal = z; lines = ls; keeper = shelf_of (key_of s.phone) (shelf_in hub.start (key_of s.phone)) (newest hub.history); began = shelf_in hub.start (key_of s.phone) };
      sent = sent;
      log = g.performed;
      tables = l.tables;
    }

    with_more : (z : Machine) → machine_of now.terminal.vault.held now.terminal.state ≡ z → (order_play_of now room book more past told clock).world ≡ record w1 { base = record w1.base { terminal = z } }
    with_more z is =
        ap (λ (y : Machine). with y now.terminal.state.settings (lines_in (plain_lines more)) (sent_on more) now.log now.ledger) is
        ∙ (ap (λ (s : Settings). with z s (lines_in (plain_lines more)) (sent_on more) now.log now.ledger) same
        ∙ (ap (λ (ls : List Line). with z t.terminal.state.settings ls (sent_on more) now.log now.ledger) lines_more
        ∙ (ap (λ (s : List (Option ℕ)). with z t.terminal.state.settings (lines_in (plain_lines lines) ++ new_line ∷ []) s now.log now.ledger) sent_more
        ∙ (ap (λ (g : LogStock). with z t.terminal.state.settings (lines_in (plain_lines lines) ++ new_line ∷ []) (sent_on lines ++ None ∷ []) g now.ledger) same_log
        ∙ ap (λ (l : Ledger). with z t.terminal.state.settings (lines_in (plain_lines lines) ++ new_line ∷ []) (sent_on lines ++ None ∷ []) t.log l) same_ledger))))

    -- cut short: the line is opened and lost
    pub cut_opened : Some now.terminal.vault.held ≡ Some t.terminal.vault.held → IsDown now.terminal.state → Leads p.world (order_play_of now room book more past told clock).world
    cut_opened held is_down =
        let e : machine_of now.terminal.vault.held now.terminal.state ≡ machine_after m1 step.Loses =
        machine_down now.terminal.vault.held now.terminal.state is_down ∙ (ap (λ (h : Held). machine_of h (down now.terminal.state)) (some_held now.terminal.vault.held t.terminal.vault.held held) ∙ (down_same t.terminal.vault.held t.terminal.state now.terminal.state same
        ∙ ap (λ (n : ℕ). record (machine_of t.terminal.vault.held (down t.terminal.state)) { reach = n }) (omega arith))) in
        subst (Leads p.world) (sym (with_more (machine_after m1 step.Loses) e))
        (leads_both p.world w1 (after w1 (Does step.Loses)) (leads_one p.world (Does step.Opens) (tt, tt)) (leads_one w1 (Does step.Loses) (tt, tt)))

    module _ (law : RuleTakesSteps) where
      abbrev r : Ruled
      r = rule t.terminal.state event.Opened

      steps : AreSteps m t.terminal.vault.held None r
      steps = law t.terminal.vault.held t.terminal.state event.Opened stage.running.sound.good stage.running.sound.order stage.running.sound.agrees.0

      pub opened_leads : Leads p.world (meets p event.Opened).world
      opened_leads = done_leads p.world (as_steps m r.steps) steps.may (steps_fine m r.steps (event_names t.terminal.state event.Opened tt))

      -- the world with a new line, on which nothing was sent
      abbrev world_on : World → OrderWorld
      world_on b = record p.world { base = b; sent = sent_on lines ++ None ∷ [] }

      opened_is : done p.world (as_steps m r.steps) ≡ world_on (bare (played.done pp.world (as_steps m r.steps)))
      opened_is = done_is w1 (behind t.terminal.state t.terminal.state.code) (opens_once t.terminal.state t.terminal.state.code) ∙ ap world_on (done_bare pp.world (as_steps m r.steps))

      -- whole
      pub whole_opened : (lines_now : List LineOfOrders) → now.terminal.state ≡ r.state → Some now.terminal.vault.held ≡ holds_after r.steps (Some t.terminal.vault.held)
          → lines_now ≡ wrote_last more (flat_map (λ (frame : List ℕ). frame) (sends t.terminal.state.settings r.steps)) → order_play_of now room book lines_now past told clock ≡ meets p event.Opened
      whole_opened lines_now state_is held_now lines_are =
          let octets = flat_map (λ (frame : List ℕ). frame) (sends t.terminal.state.settings r.steps) in
          let base = play_of now.terminal room (plain_lines lines_now) past told clock in
          let whole : base ≡ played.meets pp event.Opened = beginning.whole_opened t.terminal hub (plain_lines lines) past told clock number most stage.running plain_number grew now.terminal same law (plain_lines lines_now) state_is held_now
          (ap plain_lines lines_are ∙ (plain_wrote more octets ∙ ap (λ (ls : List Numbered). plain.wrote_last ls octets) plain_more)) in
          ap (λ (s : List (Option ℕ)). record { world = record (world_on (bare base.world)) { sent = s; log = now.log.performed; tables = now.ledger.tables }; held = now.terminal.vault.held; state = now.terminal.state; clock = clock }) (ap sent_on lines_are ∙ (sent_wrote more octets ∙ sent_more))
          ∙ (ap (λ (g : LogStock). record { world = record (world_on (bare base.world)) { log = g.performed; tables = now.ledger.tables }; held = now.terminal.vault.held; state = now.terminal.state; clock = clock }) same_log
          ∙ (ap (λ (l : Ledger). record { world = record (world_on (bare base.world)) { tables = l.tables }; held = now.terminal.vault.held; state = now.terminal.state; clock = clock }) same_ledger
          ∙ (ap (λ (q : Play). record { world = world_on (bare q.world); held = q.held; state = q.state; clock = q.clock }) whole
          ∙ ap (λ (w : OrderWorld). record { world = w; held = held_after r.steps t.terminal.vault.held; state = r.state; clock = clock }) (sym opened_is))))

    -- ---- what stays true of the parts

    module _ (sound : IsSound (Some now.terminal.vault.held) now.terminal.state) (same_limit : now.terminal.vault.limit ≡ t.terminal.vault.limit) (stands : StandsForLine now.stream []) (place : now.stream.place ≡ 0) (clock_is : IsClock now.terminal clock) (enough : number ≤ most) where
      opened_running : IsRunning now.terminal room (plain_lines more)
      opened_running = acting.still_running t.terminal room (plain_lines more) past told clock (more_running enough) now.terminal sound same same_limit

      opened_ledger : IsLedgerOf now.log.performed now.ledger
      opened_ledger = subst (λ (g : LogStock). IsLedgerOf g.performed now.ledger) (sym same_log) (subst (λ (l : Ledger). IsLedgerOf t.log.performed l) (sym same_ledger) stage.ledger)

      -- its stream stands for nothing yet
      hears_from_new : (seen : List ℕ) → seen ≡ [] → IsHearing now.stream seen
      hears_from_new seen is = subst (IsHearing now.stream) (sym is) (record { stands = stands; place = omega (arith, place) })

      pub opened_stage : IsStage now true room book issued more clock
      opened_stage = record {
        running = opened_running;
        ledger = opened_ledger;
        hearing = λ on. hears_from_new (taken_on (lines_in (plain_lines more))) taken_none;
        clock_is = clock_is;
        issued_is = stage.issued_is;
      }

      pub opened_wrote : (octets : List ℕ) → IsStage now true room book issued (wrote_last more octets) clock
      opened_wrote octets = record {
        running = subst (λ (ls : List Numbered). IsRunning now.terminal room ls) (sym (plain_wrote more octets)) (acting.wrote_running now.terminal room (plain_lines more) past told clock opened_running octets);
        ledger = opened_ledger;
        hearing = λ on. hears_from_new (taken_on (lines_in (plain_lines (wrote_last more octets)))) (ap (λ (ls : List Numbered). taken_on (lines_in ls)) (plain_wrote more octets) ∙ (taken_wrote (plain_lines more) octets ∙ taken_none));
        clock_is = clock_is;
        issued_is = stage.issued_is;
      }
