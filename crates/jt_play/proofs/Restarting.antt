-- A terminal that starts anew over what its vault loads.
use Rattle.std.proofs.Common.{ℕ, ◌≤◌, ◌≡◌, List, length, drop, Option, Some, None, arith, refl, ap, sym, ◌∙◌, subst}
use Rattle.std.specs.Prelude.{Result, Ok, Err, OnOk, OnErr}
use Rattle.jt_value.specs.Sameness.{key_of}
use Rattle.jt_store.specs.Memory.{KeeperState, Stock, tables_of}
use Rattle.jt_store.specs.Verdicts.{alone}
use Rattle.jt_store.specs.Vaults.{Held, IsLoaded, formed_count, pending}
use Rattle.jt_store.specs.declared.unit.Loaded.{Loaded}
use Rattle.jt_platform.specs.declared.request.Entry.{Entry}
use Rattle.jt_platform.specs.History.{newest}
use Rattle.jt_platform.specs.Hub.{HubValue}
use Rattle.jt_platform.specs.Laws.{shelf_of}
use Rattle.jt_terminal_rule.specs.declared.settings.Settings.{Settings}
use Rattle.jt_terminal_rule.specs.declared.state.State.{State}
use Rattle.jt_terminal_rule.specs.Messages.{AreSettings}
use Rattle.jt_terminal_rule.specs.Law.{IsRestarted, StartIsARestart}
use Rattle.jt_terminal_rule.specs.Machines.{machine_of}
use Rattle.jt_terminal_rule.specs.Rule.{start_state}
use Rattle.jt_terminal_rule.specs.Steps.{Machine}
use Rattle.jt_terminal_rule.specs.Steps as step
use Rattle.jt_terminal_steps.specs.Running.{IsSound, IsStarted, TerminalValue}
use Rattle.jt_octets.specs.World.{World}
use Rattle.jt_octets.specs.Steps.{Does, after}
use Rattle.jt_octets.specs.Reaching.{Leads}
use Rattle.jt_play.specs.Holding.{IsClock, IsRunning, Numbered, play_of, shelf_in}
use Rattle.jt_play.specs.Playing.{Play, begins, loaded_of}
use Rattle.jt_play.proofs.Acting.{some_held, still_running}
use Rattle.jt_play.proofs.Downward.{leads_none, leads_one}

-- what a vault loads is one function of what it holds
loaded_is : (h : Held) (l : Loaded) → IsLoaded h l → l ≡ loaded_of h
loaded_is h l is =
    ap (λ z. record { fixes = z; units = l.units; mark = l.mark; next = l.next; code = l.code; recorded = l.recorded; accepted = l.accepted }) is.fixes
    ∙ (ap (λ z. record { fixes = drop (formed_count h) h.recorded; units = z; mark = l.mark; next = l.next; code = l.code; recorded = l.recorded; accepted = l.accepted }) is.units
    ∙ (ap (λ z. record { fixes = drop (formed_count h) h.recorded; units = pending h; mark = z; next = l.next; code = l.code; recorded = l.recorded; accepted = l.accepted }) is.mark
    ∙ (ap (λ z. record { fixes = drop (formed_count h) h.recorded; units = pending h; mark = h.mark; next = z; code = l.code; recorded = l.recorded; accepted = l.accepted }) is.next
    ∙ (ap (λ z. record { fixes = drop (formed_count h) h.recorded; units = pending h; mark = h.mark; next = h.next; code = z; recorded = l.recorded; accepted = l.accepted }) is.code
    ∙ (ap (λ z. record { fixes = drop (formed_count h) h.recorded; units = pending h; mark = h.mark; next = h.next; code = h.code; recorded = z; accepted = l.accepted }) is.recorded
    ∙ ap (λ z. record { fixes = drop (formed_count h) h.recorded; units = pending h; mark = h.mark; next = h.next; code = h.code; recorded = length h.recorded; accepted = z }) is.accepted)))))

module _ (law : StartIsARestart) (t now : TerminalValue Stock) (hub : HubValue KeeperState) (lines : List Numbered) (past : List Entry) (told : List ℕ) (clock : ℕ) (running : IsRunning t hub lines)
    (settings : Settings) (good : AreSettings settings) (own : key_of settings.phone ≡ key_of t.state.settings.phone) (held_is : Some now.vault.held ≡ Some t.vault.held) where
  abbrev with : Held → State → Play
  with held s = play_of (record { vault = record now.vault { held = held }; state = s }) hub lines past told clock

  now_is : (s : State) → now.state ≡ s → with now.vault.held now.state ≡ with t.vault.held s
  now_is s a = ap (λ (h : Held). with h now.state) (some_held now.vault.held t.vault.held held_is) ∙ ap (λ (x : State). with t.vault.held x) a

  abbrev w : World
  w = (play_of t hub lines past told clock).world

  restarted : (st : IsStarted settings (Some t.vault.held) now.state) → IsRestarted t.vault.held t.state (start_state settings st.loaded)
  restarted st = law t.vault.held t.state settings st.loaded running.sound.order running.sound.agrees.0 st.is st.order good.phone own

  world_is : (st : IsStarted settings (Some t.vault.held) now.state) → after w (Does (step.Restarts settings.phone)) ≡ (with t.vault.held (start_state settings st.loaded)).world
  world_is st =
      ap (λ (m : Machine). record w { terminal = m }) (restarted st).to
      ∙ ap (λ (key : List ℕ). record w { terminal = machine_of t.vault.held (start_state settings st.loaded); keeper = shelf_of key (shelf_in hub.start key) (newest hub.history); began = shelf_in hub.start key }) (sym own)

  pub begun_leads : {T E : Type 0} (r : Result T E) → OnOk r (IsStarted settings (Some t.vault.held) now.state) → OnErr r (now.state ≡ t.state) → Leads w (play_of now hub lines past told clock).world
  begun_leads (Ok x) st err = subst (λ (p : Play). Leads w p.world) (sym (now_is (start_state settings st.loaded) st.state)) (subst (Leads w) (world_is st) (leads_one w (Does (step.Restarts settings.phone)) (restarted st).may))
  begun_leads (Err e) ok err = subst (λ (p : Play). Leads w p.world) (sym (now_is t.state err)) (leads_none w)

  pub begun_whole : {T E : Type 0} (r : Result T E) → OnOk r (IsStarted settings (Some t.vault.held) now.state) → OnOk r (play_of now hub lines past told clock ≡ begins (play_of t hub lines past told clock) settings)
  begun_whole (Ok x) st =
      now_is (start_state settings st.loaded) st.state
      ∙ (ap (λ (z : World). record { world = z; held = t.vault.held; state = start_state settings st.loaded; clock = clock }) (sym (world_is st))
      ∙ ap (λ (l : Loaded). record { world = after w (Does (step.Restarts settings.phone)); held = t.vault.held; state = start_state settings l; clock = clock }) (loaded_is t.vault.held st.loaded st.is))
  begun_whole (Err e) st = st

  pub begun_running : {T E : Type 0} (r : Result T E) → OnOk r (IsStarted settings (Some t.vault.held) now.state) → OnErr r (now.state ≡ t.state) → OnOk r (IsSound (Some now.vault.held) now.state) → now.vault.limit ≡ t.vault.limit → IsRunning now hub lines
  begun_running (Ok x) st err sound limit = record {
    sound = sound;
    numbers = running.numbers;
    alone_is = subst (λ (key : List ℕ). tables_of hub.start ≡ alone key (shelf_in hub.start key)) (sym (ap (λ (s : State). key_of s.settings.phone) st.state ∙ own)) running.alone_is;
    unclosed = running.unclosed;
    unopened = running.unopened;
    reserved = running.reserved;
    limit = limit ∙ running.limit;
  }
  begun_running (Err e) ok err sound limit =
      still_running t hub lines past told clock running now (subst (λ (s : State). IsSound (Some now.vault.held) s) (sym err) (subst (λ (h : Option Held). IsSound h t.state) (sym held_is) running.sound)) (ap (λ (s : State). s.settings) err) limit

  pub begun_clock : {T E : Type 0} (r : Result T E) → OnOk r (IsStarted settings (Some t.vault.held) now.state) → OnErr r (now.state ≡ t.state) → IsClock t clock → IsClock now clock
  begun_clock (Ok x) st err is = record { late = subst (λ (n : ℕ). n ≤ clock) (sym (ap (λ (s : State). s.time) st.state)) (omega arith); small = is.small }
  begun_clock (Err e) ok err is = record { late = subst (λ (n : ℕ). n ≤ clock) (sym (ap (λ (s : State). s.time) err)) is.late; small = is.small }
