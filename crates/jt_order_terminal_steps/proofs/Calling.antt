-- What the clauses of a call say where vault and log tell what they hold: what the law asks, and so what it says.
use Rattle.std.proofs.Common.{ℕ, Bool, ◌≡◌, ◌≢◌, List, [], ◌++◌, Option, Some, None, true, refl, ap, sym, ◌∙◌, subst}
use Rattle.std.specs.Prelude.{is_none}
use Rattle.jt_value.specs.Octets.{AreOctets}
use Rattle.jt_value.specs.Sameness.{key_of}
use Rattle.jt_store.specs.Tables.{WhereKnown}
use Rattle.jt_store.specs.Vaults.{Held}
use Rattle.jt_delivery.specs.World.{Setting}
use Rattle.jt_terminal_rule.specs.declared.settings.Settings.{Settings}
use Rattle.jt_terminal_rule.specs.declared.state.Event.{Event}
use Rattle.jt_terminal_rule.specs.declared.state.Event.TheVariants as event
use Rattle.jt_terminal_rule.specs.declared.state.GiveUp.{GiveUp}
use Rattle.jt_terminal_rule.specs.declared.state.State.{State}
use Rattle.jt_terminal_rule.specs.Law.{nothing_held}
use Rattle.jt_terminal_rule.specs.Machines.{held_after, is_up}
use Rattle.jt_terminal_rule.specs.Messages.{AreSettings}
use Rattle.jt_terminal_rule.specs.Rule.{rule, sends}
use Rattle.jt_terminal_rule.specs.Steps as step
use Rattle.jt_terminal_steps.specs.Running.{CutShort, IsDown, IsSame, IsSound, IsStarted, TerminalValue, holds_after}
use Rattle.jt_terminal_steps.proofs.Chaining.{holds_after-told}
use Rattle.jt_order.specs.declared.performed.Performed.{Performed}
use Rattle.jt_order_terminal.specs.Ledgers.{IsLedgerOf, Ledger}
use Rattle.jt_order_terminal.specs.Terminals.{Done, FailsAt, IsNoMessage, OrderTerminalValue, StandsForLine, does_at_items, does_at_octets, items_behind, log_with}
use Rattle.jt_octets.specs.World.{newest, taken_of}
use Rattle.jt_order_octets.specs.World.{OrderWorld, empty}
use Rattle.jt_order_octets.specs.Reaching.{Reached}
use Rattle.jt_order_octets.specs.Steps.{Does, after}
use Rattle.jt_order_terminal_steps.specs.Standing.{AreNext, TerminalParts, TerminalStandsIn, after_call, with_line_at}
use Rattle.jt_order_terminal_steps.specs.Calls.{EventLeaves, FeedLeaves}
use Rattle.jt_order_terminal_steps.specs.Claim.{EventIsSteps, FailedEventIsSteps, FailedFeedIsRead, FailedFeedIsSteps, FeedIsRead, FeedIsSteps, FirstStartStands, LeadsTo, StartIsAStep, units_told}
use Rattle.jt_order_terminal_steps.specs.Holding.{BothTell, parts_with}
use Rattle.jt_order_terminal_steps.proofs.Octet.{items_up}

-- behind octets a line is in use unless it was given up
pub up_behind : (up : Bool) (s : State) (l : Ledger) (seen octets : List ℕ) (now : State) (end : Option GiveUp) → up ≡ is_up s.phase → is_up s.phase ≡ true → now ≡ (does_at_octets up s l seen octets).state → end ≡ (does_at_octets up s l seen octets).end
    → is_up now.phase ≡ is_none end
up_behind up s l seen octets now end here on state_is end_is =
    let all : does_at_octets up s l seen octets ≡ does_at_items s l (items_behind seen octets) = ap (λ (b : Bool). does_at_octets b s l seen octets) (here ∙ on) in
    ap (λ (z : State). is_up z.phase) (state_is ∙ ap (λ (d : Done). d.state) all) ∙ (items_up s l (items_behind seen octets) on ∙ ap (λ (x : Option GiveUp). is_none x) (sym (end_is ∙ ap (λ (d : Done). d.end) all)))

module _ {V G : Type 0} (holds : V → Option Held) (performed : G → Option (List Performed)) where
  -- what is kept of the log is that of the log that is told
  told_ledger : (n : OrderTerminalValue V G) (log : List Performed) → performed n.log ≡ Some log → WhereKnown (performed n.log) (λ held. IsLedgerOf held n.ledger) → IsLedgerOf log n.ledger
  told_ledger n log is ledger = subst (λ (o : Option (List Performed)). WhereKnown o (λ held. IsLedgerOf held n.ledger)) is ledger

  told_sound : (n : OrderTerminalValue V G) (held : Held) → holds n.terminal.vault ≡ Some held → IsSound (holds n.terminal.vault) n.terminal.state → IsSound (Some held) n.terminal.state
  told_sound n held is sound = subst (λ (h : Option Held). IsSound h n.terminal.state) is sound

  -- ---- starts

  started : StartIsAStep → (w : OrderWorld) (old : TerminalParts) (settings : Settings) (n : OrderTerminalValue V G) → TerminalStandsIn w old → holds n.terminal.vault ≡ Some old.held → performed n.log ≡ Some old.log → AreSettings settings
      → key_of settings.phone ≡ key_of old.state.settings.phone → IsStarted settings (Some old.held) n.terminal.state → StandsForLine n.stream [] → WhereKnown (performed n.log) (λ held. IsLedgerOf held n.ledger) → IsSound (holds n.terminal.vault) n.terminal.state
      → BothTell holds performed n (λ now. LeadsTo w (after w (Does (step.Restarts settings.phone))) now)
  started law w old settings n stands vault log good own is stream ledger sound = record {
    held = old.held;
    log = old.log;
    vault = vault;
    kept = log;
    fact = law w settings old (parts_with n old.held old.log) stands good own (record { is = is; held = refl; log = refl; stream = stream; ledger = told_ledger n old.log log ledger; sound = told_sound n old.held vault sound });
  }

  pub restarted : StartIsAStep → (w : OrderWorld) (settings : Settings) (t n : OrderTerminalValue V G) → BothTell holds performed t (TerminalStandsIn w) → (holds n.terminal.vault ≡ holds t.terminal.vault) × (performed n.log ≡ performed t.log) → AreSettings settings
      → key_of settings.phone ≡ key_of t.terminal.state.settings.phone → IsStarted settings (holds t.terminal.vault) n.terminal.state → StandsForLine n.stream [] → WhereKnown (performed n.log) (λ held. IsLedgerOf held n.ledger) → IsSound (holds n.terminal.vault) n.terminal.state
      → BothTell holds performed n (λ now. LeadsTo w (after w (Does (step.Restarts settings.phone))) now)
  restarted law w settings t n told same good own is stream ledger sound =
      started law w (parts_with t told.held told.log) settings n told.fact (same.0 ∙ told.vault) (same.1 ∙ told.kept) good own (subst (λ (h : Option Held). IsStarted settings h n.terminal.state) told.vault is) stream ledger sound

  pub started_again : StartIsAStep → (w : OrderWorld) (old : TerminalParts) (settings : Settings) (terminal : TerminalValue V) (log : G) (n : OrderTerminalValue V G)
      → (n.terminal ≡ terminal) × (performed n.log ≡ performed log) × StandsForLine n.stream [] → WhereKnown (performed log) (λ held. IsLedgerOf held n.ledger)
      → TerminalStandsIn w old → holds terminal.vault ≡ Some old.held → performed log ≡ Some old.log → AreSettings settings → key_of settings.phone ≡ key_of old.state.settings.phone
      → IsStarted settings (Some old.held) terminal.state → IsSound (holds terminal.vault) terminal.state
      → BothTell holds performed n (λ now. LeadsTo w (after w (Does (step.Restarts settings.phone))) now)
  started_again law w old settings terminal log n same ledger stands vault kept good own is sound =
      started law w old settings n stands (ap (λ (t : TerminalValue V). holds t.vault) same.0 ∙ vault) (same.1 ∙ kept) good own
      (subst (λ (t : TerminalValue V). IsStarted settings (Some old.held) t.state) (sym same.0) is) same.2
      (subst (λ (o : Option (List Performed)). WhereKnown o (λ held. IsLedgerOf held n.ledger)) (sym same.1) ledger)
      (subst (λ (t : TerminalValue V). IsSound (holds t.vault) t.state) (sym same.0) sound)

  pub started_first : FirstStartStands → (setting : Setting) (settings : Settings) (terminal : TerminalValue V) (log : G) (n : OrderTerminalValue V G)
      → (n.terminal ≡ terminal) × (performed n.log ≡ performed log) × StandsForLine n.stream [] → WhereKnown (performed log) (λ held. IsLedgerOf held n.ledger)
      → holds terminal.vault ≡ Some nothing_held → performed log ≡ Some [] → IsStarted settings (Some nothing_held) terminal.state → IsSound (holds terminal.vault) terminal.state
      → BothTell holds performed n (TerminalStandsIn (empty settings.phone setting))
  started_first law setting settings terminal log n same ledger vault kept is sound =
      let here : holds n.terminal.vault ≡ Some nothing_held = ap (λ (t : TerminalValue V). holds t.vault) same.0 ∙ vault in
      let there : performed n.log ≡ Some [] = same.1 ∙ kept in
      record {
        held = nothing_held;
        log = [];
        vault = here;
        kept = there;
        fact = law settings setting (parts_with n nothing_held []) (record {
          is = subst (λ (t : TerminalValue V). IsStarted settings (Some nothing_held) t.state) (sym same.0) is;
          held = refl;
          log = refl;
          ledger = told_ledger n [] there (subst (λ (o : Option (List Performed)). WhereKnown o (λ held. IsLedgerOf held n.ledger)) (sym same.1) ledger);
          sound = told_sound n nothing_held here (subst (λ (t : TerminalValue V). IsSound (holds t.vault) t.state) (sym same.0) sound);
        });
      }

  -- it did not start
  pub unstarted : (w : OrderWorld) (t n : OrderTerminalValue V G) → BothTell holds performed t (TerminalStandsIn w) → (holds n.terminal.vault ≡ holds t.terminal.vault) × (performed n.log ≡ performed t.log)
      → (n.terminal.state ≡ t.terminal.state) × (n.ledger ≡ t.ledger) × (n.stream ≡ t.stream) → BothTell holds performed n (TerminalStandsIn w)
  unstarted w t n told same err = record {
    held = told.held;
    log = told.log;
    vault = same.0 ∙ told.vault;
    kept = same.1 ∙ told.kept;
    fact = subst (TerminalStandsIn w) (λ i. record { state = sym err.0 i; held = told.held; stream = sym err.2 i; ledger = sym err.1 i; log = told.log }) told.fact;
  }

  module _ (w : OrderWorld) (t n : OrderTerminalValue V G) (told : BothTell holds performed t (TerminalStandsIn w)) where
    abbrev old : TerminalParts
    old = parts_with t told.held told.log

    -- ---- events

    module _ (e : Event) (no_message : IsNoMessage e) (settings : n.terminal.state.settings ≡ t.terminal.state.settings) (sound : IsSound (holds n.terminal.vault) n.terminal.state) (log : (n.log ≡ t.log) × (n.ledger ≡ t.ledger))
        (opened : e ≡ event.Opened → StandsForLine n.stream [] × (n.stream.place ≡ 0)) (same : e ≢ event.Opened → n.stream ≡ t.stream) where
      kept_now : performed n.log ≡ Some told.log
      kept_now = ap performed log.0 ∙ told.kept

      has_met : (held : Held) → holds n.terminal.vault ≡ Some held → EventLeaves e old (parts_with n held told.log)
      has_met held vault = record { settings = settings; sound = told_sound n held vault sound; log = refl; ledger = log.1; opened = λ is. (opened is).0; same = same }

      pub met_whole : EventIsSteps → (frames : List (List ℕ)) → n.terminal.state ≡ (rule t.terminal.state e).state → holds n.terminal.vault ≡ holds_after (rule t.terminal.state e).steps (holds t.terminal.vault)
          → frames ≡ sends t.terminal.state.settings (rule t.terminal.state e).steps → BothTell holds performed n (λ now. LeadsTo w (after_call (with_line_at e w) now 0 frames []) now)
      met_whole law frames state vault sent =
          let steps = (rule t.terminal.state e).steps in
          let held = held_after steps told.held in
          let is : holds n.terminal.vault ≡ Some held = vault ∙ (ap (holds_after steps) told.vault ∙ holds_after-told steps told.held) in
          record {
            held = held;
            log = told.log;
            vault = is;
            kept = kept_now;
            fact = law w e old (parts_with n held told.log) frames told.fact no_message (record { met = has_met held is; state = state; vault = sym (holds_after-told steps told.held); sends = sent });
          }

      pub met_in_part : FailedEventIsSteps → CutShort (rule t.terminal.state e).steps (holds t.terminal.vault) (holds n.terminal.vault) → IsDown n.terminal.state
          → BothTell holds performed n (λ now. LeadsTo w (after_call (with_line_at e w) now 0 [] []) now)
      met_in_part law cut is_down =
          let held = held_after cut.done told.held in
          let is : holds n.terminal.vault ≡ Some held = cut.held ∙ (ap (holds_after cut.done) told.vault ∙ holds_after-told cut.done told.held) in
          record {
            held = held;
            log = told.log;
            vault = is;
            kept = kept_now;
            fact = law w e old (parts_with n held told.log) told.fact no_message (record { met = has_met held is; cut = record { done = cut.done; left = cut.left; parts = cut.parts; held = sym (holds_after-told cut.done told.held) }; down = is_down });
          }

    -- ---- octets

    module _ (reached : ∥ Reached w ∥₁) (octets : List ℕ) (are : AreOctets octets) (next : AreNext octets w) (up : is_up t.terminal.state.phase ≡ true)
        (same : IsSame t.terminal.state n.terminal.state) (stays_sound : IsSound (holds t.terminal.vault) t.terminal.state → IsSound (holds n.terminal.vault) n.terminal.state) (ledger : WhereKnown (performed n.log) (λ held. IsLedgerOf held n.ledger)) where
      abbrev seen : List ℕ
      seen = taken_of (newest w.base).down

      sound_now : IsSound (holds n.terminal.vault) n.terminal.state
      sound_now = stays_sound (subst (λ (h : Option Held). IsSound h t.terminal.state) (sym told.vault) told.fact.sound)

      is_fed : (held : Held) (log : List Performed) → holds n.terminal.vault ≡ Some held → performed n.log ≡ Some log → FeedLeaves old (parts_with n held log)
      is_fed held log vault kept = record { same = same; sound = told_sound n held vault sound_now; ledger = told_ledger n log kept ledger }

      abbrev d : Done
      d = does_at_octets (is_up t.terminal.state.phase) t.terminal.state t.ledger seen octets

      pub fed_whole : FeedIsSteps → (frames : List (List ℕ)) (places : List ℕ) (end : Option GiveUp)
          → (n.terminal.state ≡ d.state) × (n.ledger ≡ d.ledger) × (holds n.terminal.vault ≡ holds_after d.steps (holds t.terminal.vault)) × (performed n.log ≡ log_with d.performed (performed t.log))
          → (frames ≡ d.frames) × (places ≡ d.told) × (end ≡ d.end) → (end ≡ None → StandsForLine n.stream (seen ++ octets))
          → BothTell holds performed n (λ now. FeedIsRead w octets old now frames (units_told w old octets) end)
      fed_whole law frames places end did says stands =
          let held = held_after d.steps told.held in
          let log = told.log ++ d.performed in
          let vault : holds n.terminal.vault ≡ Some held = did.2 ∙ (ap (holds_after d.steps) told.vault ∙ holds_after-told d.steps told.held) in
          let kept : performed n.log ≡ Some log = did.3 ∙ ap (log_with d.performed) told.kept in
          record {
            held = held;
            log = log;
            vault = vault;
            kept = kept;
            fact = law w reached octets old (parts_with n held log) frames end told.fact up are next (record {
              fed = is_fed held log vault kept;
              state = did.0;
              kept = did.1;
              vault = sym (holds_after-told d.steps told.held);
              log = refl;
              sends = says.0;
              end_is = says.2;
              stands = stands;
            });
          }

      pub fed_in_part : FailedFeedIsSteps → FailsAt t.terminal.state t.ledger (items_behind seen octets) (holds t.terminal.vault) (holds n.terminal.vault) (performed t.log) (performed n.log) → IsDown n.terminal.state
          → BothTell holds performed n (λ now. FailedFeedIsRead w octets old now)
      fed_in_part law fails is_down =
          let f = does_at_items t.terminal.state t.ledger fails.before in
          let held = held_after fails.cut.done (held_after f.steps told.held) in
          let log = (told.log ++ f.performed) ++ fails.commits.gained in
          let vault : holds n.terminal.vault ≡ Some held = fails.cut.held ∙ (ap (λ (h : Option Held). holds_after fails.cut.done (holds_after f.steps h)) told.vault
          ∙ (ap (holds_after fails.cut.done) (holds_after-told f.steps told.held) ∙ holds_after-told fails.cut.done (held_after f.steps told.held))) in
          let kept : performed n.log ≡ Some log = fails.commits.held ∙ ap (λ (o : Option (List Performed)). log_with fails.commits.gained (log_with f.performed o)) told.kept in
          record {
            held = held;
            log = log;
            vault = vault;
            kept = kept;
            fact = law w reached octets old (parts_with n held log) told.fact up are next (record {
              fed = is_fed held log vault kept;
              fails = subst (λ (o : Option (List Performed)). FailsAt t.terminal.state t.ledger (items_behind seen octets) (Some told.held) (Some held) (Some told.log) o) kept
                  (subst (λ (o : Option (List Performed)). FailsAt t.terminal.state t.ledger (items_behind seen octets) (Some told.held) (Some held) o (performed n.log)) told.kept
                  (subst (λ (h : Option Held). FailsAt t.terminal.state t.ledger (items_behind seen octets) (Some told.held) h (performed t.log) (performed n.log)) vault
                  (subst (λ (h : Option Held). FailsAt t.terminal.state t.ledger (items_behind seen octets) h (holds n.terminal.vault) (performed t.log) (performed n.log)) told.vault fails)));
              down = is_down;
            });
          }
