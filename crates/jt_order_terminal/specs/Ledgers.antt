-- What an order terminal keeps of its log (this project's own). To be believed.
use Rattle.std.specs.Prelude.{◌≡◌, ℕ, nat_le, List, length, Option}
use Rattle.jt_value.specs.Serials.{serial_of}
use Rattle.jt_terminal_answers.specs.Performing.{HeldTables}
use Rattle.jt_order.specs.declared.performed.Performed.{Performed}
use Rattle.jt_obeying.specs.Orders.{last_performed, no_tables, tables_of}
use Rattle.jt_obeying.specs.Performing.{terminal_performing}

-- a number with the serial of how many orders were performed, 0 where there is none; the one performed last; and the tables
pub record Ledger : Type 0 where
  pub count : ℕ
  pub last : Option Performed
  pub tables : HeldTables

-- the ledger is that of these performed orders
pub record IsLedgerOf (log : List Performed) (ledger : Ledger) : Type 0 where
  pub serial : serial_of ledger.count ≡ serial_of (length log)
  pub some : nat_le 1 ledger.count ≡ nat_le 1 (length log)
  pub last : ledger.last ≡ last_performed log
  pub tables : ledger.tables ≡ tables_of terminal_performing no_tables log
