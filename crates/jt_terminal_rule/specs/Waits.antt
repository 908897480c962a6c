-- How long a terminal waits for an answer before it gives a line up (this project's own). To be believed.
use Rattle.std.specs.Prelude.{ℕ, zero, suc, ◌≡◌, ◌<◌, ◌≤◌, ◌+◌, ◌-◌, List, Some, true}
use Rattle.jt_store.specs.declared.unit.Loaded.{Loaded}
use Rattle.jt_terminal_rule.specs.declared.settings.Settings.{Settings}
use Rattle.jt_terminal_rule.specs.declared.state.State.{State}
use Rattle.jt_terminal_rule.specs.declared.state.Event.{Event}
use Rattle.jt_terminal_rule.specs.declared.state.Event.TheVariants.{Tick}
use Rattle.jt_terminal_rule.specs.declared.state.GiveUp.TheVariants.{TimedOut}
use Rattle.jt_terminal_rule.specs.Rule.{Heard, down, is_waiting, with_fix, start_state, wait_behind}
use Rattle.jt_terminal_rule.specs.Rule as rule

-- the sum of the waits behind so many sendings
abbrev pub sum_of_waits : ℕ → ℕ → ℕ
sum_of_waits first zero = 0
sum_of_waits first (suc n) = sum_of_waits first n + wait_behind first (suc n)

-- where an answer is waited for, the waits behind all sendings but the last one lie between the first sending and the last one
pub record IsTimed (s : State) : Type 0 where
  pub some : is_waiting s.phase s.sent ≡ true → 1 ≤ s.wait.sendings
  pub passed : is_waiting s.phase s.sent ≡ true → s.wait.since + sum_of_waits s.wait.first (s.wait.sendings - 1) ≤ s.wait.last

-- the line was given up at this moment, so many milliseconds: there were more sendings than repeats, and all the waits behind them have
-- passed since the first one
abbrev pub IsLate : State → ℕ → ℕ → ℕ → Type 0
IsLate s now since at = (at ≡ now) × (since ≡ s.wait.since) × (s.wait.repeats < s.wait.sendings) × (since + sum_of_waits s.wait.first s.wait.sendings ≤ now)

-- A line is given up for want of an answer only once there were more sendings than repeats, and all the waits behind them have passed
-- since the first one.
pub record PassesAllWaits : Type 0 where
  pub first : (settings : Settings) (loaded : Loaded) → IsTimed (start_state settings loaded)
  pub noted : (s : State) (fix : List ℕ) → IsTimed s → IsTimed (with_fix s fix)
  pub lost : (s : State) → IsTimed (down s)
  pub kept : (s : State) (event : Event) → IsTimed s → IsTimed (rule.rule s event).state
  pub heard : (s : State) (x : Heard) → IsTimed s → IsTimed (rule.on_hearing s x).state
  pub late : (s : State) (now since at : ℕ) → IsTimed s → (rule.rule s (Tick now)).end ≡ Some (TimedOut since at) → IsLate s now since at
