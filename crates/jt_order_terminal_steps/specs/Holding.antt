-- What a contract sees of an order terminal whose vault and log tell what they hold (this project's own). To be believed.
use Rattle.std.specs.Prelude.{◌≡◌, List, Option, Some}
use Rattle.jt_store.specs.Vaults.{Held}
use Rattle.jt_order.specs.declared.performed.Performed.{Performed}
use Rattle.jt_order_terminal.specs.Terminals.{OrderTerminalValue}
use Rattle.jt_order_terminal_steps.specs.Standing.{TerminalParts}

abbrev pub parts_with : {V G : Type 0} → OrderTerminalValue V G → Held → List Performed → TerminalParts
parts_with t held log = record { state = t.terminal.state; held = held; stream = t.stream; ledger = t.ledger; log = log }

-- The vault tells that it holds this, and the log that it has these performed orders; and with both the fact is true of the terminal. `holds` and
-- `performed` are what vaults and logs of these kinds tell.
pub record BothTell {V G : Type 0} (holds : V → Option Held) (performed : G → Option (List Performed)) (t : OrderTerminalValue V G) (Fact : TerminalParts → Type 0) : Type 0 where
  pub held : Held
  pub log : List Performed
  pub vault : holds t.terminal.vault ≡ Some held
  pub kept : performed t.log ≡ Some log
  pub fact : Fact (parts_with t held log)

-- the parts that they tell
abbrev pub parts_in : {V G : Type 0} {holds : V → Option Held} {performed : G → Option (List Performed)} {t : OrderTerminalValue V G} {Fact : TerminalParts → Type 0} → BothTell holds performed t Fact → TerminalParts
parts_in {t = t} told = parts_with t told.held told.log
