-- Orders that were performed, and the tables that they leave (this project's own). To be believed.
use Rattle.std.specs.Prelude.{ℕ, ◌-◌, ◌==◌, if◌then◌else◌, Bool, List, [], ◌∷◌, map, length, get_or, slice_get, Option}
use Rattle.std.specs.FinMap.{empty}
use Rattle.jt_value.specs.declared.phone.Edition.{Edition}
use Rattle.jt_regions.specs.Changes.{no_regions}
use Rattle.jt_terminal_answers.specs.Performing.{HeldTables}
use Rattle.jt_order.specs.Orders.{OrderOf}
use Rattle.jt_order.specs.Rules.{ruling_by}
use Rattle.jt_order.specs.declared.performed.Performed.{Performed}
use Rattle.jt_order.specs.declared.rules.Ruling.{Ruling}

-- ---- lists of them

-- the orders of a log, and their results
abbrev pub orders_in : List Performed → List OrderOf
orders_in log = map (λ (p : Performed). p.order) log

abbrev pub results_in : List Performed → List ℕ
results_in log = map (λ (p : Performed). p.result) log

-- the order of a place, and one without meaning past the end
abbrev pub order_at : List OrderOf → ℕ → OrderOf
order_at orders place = get_or orders place (record { id = 0; body = [] })

-- the result of a place in the log, and 0 past the end
abbrev pub result_at : List Performed → ℕ → ℕ
result_at log place = get_or (results_in log) place 0

-- ---- tables

-- the tables of a terminal that performed nothing
abbrev pub no_tables : HeldTables
no_tables = record { params = empty; regions = no_regions }

-- The result of an order at a terminal, and the tables it leaves. The edition is the one in which the message of an order is read.
pub record Performing : Type 0 where
  -- whether the body of an order is refused
  pub refuses : Edition → OrderOf → Bool
  -- the result of an order over tables
  pub result : Edition → HeldTables → OrderOf → ℕ
  -- the tables that an order leaves where its result is 0, in whichever edition it was read
  pub leaves : HeldTables → OrderOf → HeldTables

-- the order, with the result that it has over these tables
abbrev pub performed_over : Performing → Edition → HeldTables → OrderOf → Performed
performed_over performing edition t order = record { order = order; result = performing.result edition t order }

-- the tables behind a performed order; one with another result than 0 changes nothing
abbrev pub tables_behind : Performing → HeldTables → Performed → HeldTables
tables_behind performing t p = if p.result == 0 then performing.leaves t p.order else t

-- the tables behind performed orders, one after another
abbrev pub tables_of : Performing → HeldTables → List Performed → HeldTables
tables_of performing t [] = t
tables_of performing t (p ∷ more) = tables_of performing (tables_behind performing t p) more

-- ---- the three rules

-- the order that was performed last
abbrev pub last_performed : List Performed → Option Performed
last_performed log = slice_get log (length log - 1)

-- what an order terminal with this log makes of an order of this serial
abbrev pub ruling : List Performed → ℕ → OrderOf → Ruling
ruling log serial order = ruling_by (length log) (last_performed log) serial order
