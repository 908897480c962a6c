-- A terminal that records fixes: this project's own. To be believed.
use Rattle.std.specs.Prelude.{ℕ, List, [], ◌∷◌, Option}
use Rattle.jt_store.specs.Vaults.{Held, Notes, changed}
use Rattle.jt_terminal_rule.specs.declared.state.State.{State}
use Rattle.jt_terminal_rule.specs.Rule.{with_fix}

-- a terminal's state, and what its vault holds, where it tells it
pub record Noting : Type 0 where
  pub state : State
  pub held : Option Held

abbrev pub noting : State → Option Held → Noting
noting state held = record { state = state; held = held }

-- a state that recorded these fixes, one after another
abbrev pub noted_all : State → List (List ℕ) → State
noted_all state [] = state
noted_all state (fix ∷ fixes) = noted_all (with_fix state fix) fixes

-- what a vault holds that recorded these fixes behind what it held
abbrev pub held_with : Option Held → List (List ℕ) → Option Held
held_with held [] = held
held_with held (fix ∷ fixes) = held_with (changed (Notes fix) held) fixes

-- a terminal that recorded these fixes
abbrev pub with_fixes : Noting → List (List ℕ) → Noting
with_fixes old fixes = record { state = noted_all old.state fixes; held = held_with old.held fixes }
