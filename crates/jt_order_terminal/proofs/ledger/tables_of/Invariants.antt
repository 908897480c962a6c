use Rattle.std.proofs.Common.{◌≡◌, take}
use Rattle.jt_obeying.specs.Orders.{no_tables, tables_of}
use Rattle.jt_obeying.specs.Performing.{terminal_performing}
use Rattle.jt_order_terminal.proofs.ledger.tables_of.Given as goal

abbrev pub invariant-loop-one : goal.invariant-loop-one
invariant-loop-one l = l.tables ≡ tables_of terminal_performing no_tables (take l.one-index l.performed)
