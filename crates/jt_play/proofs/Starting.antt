-- Where nothing has happened.
use Rattle.std.proofs.Common.{ℕ, ◌≤◌, ◌≡◌, List, [], Option, Some, None, Bool, true, false, arith, refl, ap, sym, ◌∙◌, subst}
use Rattle.std.specs.Prelude.{if◌then◌else◌}
use Rattle.std.proofs.lemmas.List.Elements.{All-nil}
use Rattle.jt_position.specs.Fixes.{IsFix}
use Rattle.jt_params.specs.Tables.{HasOctets}
use Rattle.jt_value.specs.Sameness.{key_of, same_key}
use Rattle.jt_value.specs.declared.limits.TheConstants.{FIX_LIMIT, ROW_LIMIT}
use Rattle.jt_store.specs.Memory.{KeeperState, Stock, tables_of}
use Rattle.jt_store.specs.Verdicts.{alone}
use Rattle.jt_store.specs.Vaults.{Held, IsLoaded}
use Rattle.jt_store.specs.declared.row.Registered.{Registered}
use Rattle.jt_store.specs.declared.row.Row.{Row}
use Rattle.jt_store.specs.declared.unit.Loaded.{Loaded}
use Rattle.jt_platform.specs.declared.request.Entry.{Entry}
use Rattle.jt_platform.specs.declared.request.Fleet.{Fleet}
use Rattle.jt_platform.specs.History.{newest}
use Rattle.jt_platform.specs.Hub.{HubValue}
use Rattle.jt_platform.specs.Laws.{shelf_of}
use Rattle.jt_terminal_rule.specs.declared.settings.Settings.{Settings}
use Rattle.jt_terminal_rule.specs.declared.state.State.{State}
use Rattle.jt_terminal_rule.specs.Messages.{AreSettings}
use Rattle.jt_terminal_rule.specs.Law.{FirstStartIsInOrder, nothing_held, nothing_loaded}
use Rattle.jt_terminal_rule.specs.Rule.{start_state}
use Rattle.jt_terminal_rule.specs.Machines.{machine_of}
use Rattle.jt_terminal_steps.specs.Running.{IsSound, IsStarted, TerminalValue}
use Rattle.jt_delivery.specs.World.{Setting}
use Rattle.jt_octets.specs.World.{empty}
use Rattle.jt_octets.specs.Reaching.{Reached}
use Rattle.jt_play.specs.Holding.{IsClock, IsNewHub, IsNewTerminal, IsRunning, Numbered, past_of, play_of, shelf_in, told_of}
use Rattle.jt_play.specs.declared.stage.Told.{Told}
use Rattle.jt_play.specs.Laws.{first_play}
use Rattle.jt_play.specs.Playing.{Play}
use Rattle.jt_play.proofs.Acting.{some_held}
use Rattle.jt_play.proofs.Downward.{leads_none}

-- what an empty vault loads
pub nothing_is_loaded : (l : Loaded) → IsLoaded nothing_held l → l ≡ nothing_loaded
nothing_is_loaded l is =
    ap (λ (x : List (List ℕ)). record l { fixes = x }) is.fixes
    ∙ (ap (λ x. record l { fixes = []; units = x }) is.units
    ∙ (ap (λ (x : ℕ). record l { fixes = []; units = []; mark = x }) is.mark
    ∙ (ap (λ (x : ℕ). record { fixes = []; units = []; mark = nothing_loaded.mark; next = x; code = l.code; recorded = l.recorded; accepted = l.accepted }) is.next
    ∙ (ap (λ (x : Option (List ℕ)). record { fixes = []; units = []; mark = nothing_loaded.mark; next = 0; code = x; recorded = l.recorded; accepted = l.accepted }) is.code
    ∙ (ap (λ (x : ℕ). record { fixes = []; units = []; mark = nothing_loaded.mark; next = 0; code = None; recorded = x; accepted = l.accepted }) is.recorded
    ∙ ap (λ (x : ℕ). record { fixes = []; units = []; mark = nothing_loaded.mark; next = 0; code = None; recorded = 0; accepted = x }) is.accepted)))))

-- a terminal that starts over it is sound
pub sound_new : FirstStartIsInOrder → (settings : Settings) → AreSettings settings → HasOctets (start_state settings nothing_loaded).params → IsSound (Some nothing_held) (start_state settings nothing_loaded)
sound_new law settings good octets = record {
  good = good;
  order = (law settings).0;
  fixes = All-nil IsFix;
  params = octets;
  agrees = ((law settings).1, record { recorded = refl; accepted = refl });
}

pub started_new : (settings : Settings) (s : State) → IsStarted settings (Some nothing_held) s → s ≡ start_state settings nothing_loaded
started_new settings s is = is.state ∙ ap (start_state settings) (nothing_is_loaded is.loaded is.is)

-- what is known of a terminal that starts over an empty vault
pub is_new : (settings : Settings) (v : Stock) (t : TerminalValue Stock) → v.held ≡ nothing_held → v.limit ≡ FIX_LIMIT → IsStarted settings (Some v.held) t.state → Some t.vault.held ≡ Some v.held → t.vault.limit ≡ v.limit → IsNewTerminal settings t
is_new settings v t empty most st held limit = record {
  state = started_new settings t.state (subst (λ (h : Held). IsStarted settings (Some h) t.state) empty st);
  held = some_held t.vault.held v.held held ∙ empty;
  limit = limit ∙ most;
}

pub is_sound : FirstStartIsInOrder → (settings : Settings) → AreSettings settings → HasOctets (start_state settings nothing_loaded).params → (t : TerminalValue Stock) → IsNewTerminal settings t → IsSound (Some t.vault.held) t.state
is_sound law settings good octets t new =
    subst (λ (h : Held). IsSound (Some h) t.state) (sym new.held) (subst (IsSound (Some nothing_held)) (sym new.state) (sound_new law settings good octets))

-- an empty keeper has nothing for any phone
no_registered : (b : Bool) → ◌≡◌ {A = Option Registered} None (if b then None else None)
no_registered true = refl
no_registered false = refl

no_rows : (b : Bool) → ◌≡◌ {A = List Row} [] (if b then [] else [])
no_rows true = refl
no_rows false = refl

abbrev kept : List (List ℕ × Registered) → List (List ℕ × List Row) → KeeperState → KeeperState
kept registered rows k = record k { registered = registered; rows = rows }

empty_alone : (key : List ℕ) (k : KeeperState) → tables_of (kept [] [] k) ≡ alone key (shelf_in (kept [] [] k) key)
empty_alone key k = λ i. record { registered = λ (q : List ℕ). no_registered (same_key key q) i; rows = λ (q : List ℕ). no_rows (same_key key q) i }

kept_is : (k : KeeperState) → k.registered ≡ [] → k.rows ≡ [] → k ≡ kept [] [] k
kept_is k a b = ap (λ (x : List (List ℕ × Registered)). kept x k.rows k) a ∙ ap (λ (x : List (List ℕ × List Row)). kept [] x k) b

module _ (settings : Settings) (fleet : Fleet) (secret : List ℕ) (t : TerminalValue Stock) (hub : HubValue KeeperState) (new_t : IsNewTerminal settings t) (new_hub : IsNewHub fleet secret hub) where
  abbrev key : List ℕ
  key = key_of t.state.settings.phone

  pub new_running : IsSound (Some t.vault.held) t.state → IsRunning t hub []
  new_running sound = record {
    sound = sound;
    numbers = λ place lt. absurd (omega (arith, lt));
    alone_is = subst (λ (k : KeeperState). tables_of k ≡ alone key (shelf_in k key)) (sym (kept_is hub.start new_hub.registered new_hub.rows)) (empty_alone key hub.start);
    unclosed = λ place lt is_open. absurd (omega (arith, lt));
    unopened = λ session lt. ap (λ (h : List Entry). Rattle.jt_platform.specs.History.closed (newest h) session) new_hub.history;
    reserved = λ place lt is_open. absurd (omega (arith, lt));
    limit = new_t.limit;
  }

  pub new_clock : IsClock t 0
  new_clock = record { late = subst (λ (n : ℕ). n ≤ 0) (sym (ap (λ (s : State). s.time) new_t.state)) (omega arith); small = omega arith }

  abbrev with : Held → State → KeeperState → List Entry → Fleet → List ℕ → ℕ → Play
  with held s k h f x limit = record {
    world = record {
      terminal = machine_of held s;
      partial = [];
      lines = [];
      setting = record { fleet = f; secret = x; limit = limit };
      keeper = shelf_of (key_of s.settings.phone) (shelf_in k (key_of s.settings.phone)) (newest h);
      began = shelf_in k (key_of s.settings.phone);
      history = newest h;
      past = [];
      told = [];
    };
    held = held;
    state = s;
    clock = 0;
  }

  pub new_play : play_of t hub [] [] [] 0 ≡ first_play settings (record { fleet = fleet; secret = secret; limit = ROW_LIMIT })
  new_play =
      ap (λ (h : Held). with h t.state hub.start hub.history hub.fleet hub.secret hub.start.limit) new_t.held
      ∙ (ap (λ (s : State). with nothing_held s hub.start hub.history hub.fleet hub.secret hub.start.limit) new_t.state
      ∙ (ap (λ (h : List Entry). with nothing_held (start_state settings nothing_loaded) hub.start h hub.fleet hub.secret hub.start.limit) new_hub.history
      ∙ (ap (λ (k : KeeperState). with nothing_held (start_state settings nothing_loaded) k [] hub.fleet hub.secret hub.start.limit) (kept_is hub.start new_hub.registered new_hub.rows)
      ∙ (ap (λ (f : Fleet). with nothing_held (start_state settings nothing_loaded) (kept [] [] hub.start) [] f hub.secret hub.start.limit) new_hub.fleet_is
      ∙ (ap (λ (x : List ℕ). with nothing_held (start_state settings nothing_loaded) (kept [] [] hub.start) [] fleet x hub.start.limit) new_hub.secret_is
      ∙ ap (λ (n : ℕ). with nothing_held (start_state settings nothing_loaded) (kept [] [] hub.start) [] fleet secret n) new_hub.limit)))))

  pub new_is : (lines : List Numbered) (past : List (List Entry)) (told : List Told) → lines ≡ [] → past ≡ [] → told ≡ [] → play_of t hub lines (past_of past) (told_of told) 0 ≡ first_play settings (record { fleet = fleet; secret = secret; limit = ROW_LIMIT })
  new_is lines past told no_lines no_past none_told =
      ap (λ (ls : List Numbered). play_of t hub ls (past_of past) (told_of told) 0) no_lines
      ∙ (ap (λ (h : List (List Entry)). play_of t hub [] (past_of h) (told_of told) 0) no_past
      ∙ (ap (λ (x : List Told). play_of t hub [] [] (told_of x) 0) none_told ∙ new_play))

-- which is reached
pub first_reached : (settings : Settings) (setting : Setting) → AreSettings settings → Reached (first_play settings setting).world
first_reached settings setting good = record { phone = settings.phone; good = good.phone; setting = setting; leads = leads_none (empty settings.phone setting) }
