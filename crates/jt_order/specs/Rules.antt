-- The three rules by which a terminal answers an order (this project's own). To be believed.
use Rattle.std.specs.Prelude.{ℕ, ◌-◌, nat_le, ◌==◌, ◌&&◌, if◌then◌else◌, Bool, false, bytes_eq, Option, Some, None}
use Rattle.jt_value.specs.Serials.{serial_of}
use Rattle.jt_order.specs.Orders.{OrderOf}
use Rattle.jt_order.specs.declared.performed.Performed.{Performed}
use Rattle.jt_order.specs.declared.rules.Ruling.{Ruling}
use Rattle.jt_order.specs.declared.rules.Ruling.TheVariants.{Again, Performs, Refuses}

-- whether two orders have one id and one body
abbrev pub is_same : OrderOf → OrderOf → Bool
is_same a b = (a.id == b.id) && bytes_eq a.body b.body

-- whether a message has the serial, id and body of the order that was performed last, where so many were performed
abbrev pub is_last : ℕ → Option Performed → ℕ → OrderOf → Bool
is_last count None serial order = false
is_last count (Some last) serial order = nat_le 1 count && ((serial == serial_of (count - 1)) && is_same order last.order)

-- the result of the order that was performed last
abbrev pub kept_result : Option Performed → ℕ
kept_result None = 0
kept_result (Some last) = last.result

-- The first of the three rules that applies to an order of this serial, where so many were performed: it is the one that was performed
-- last; its serial is that of the next one; or neither.
abbrev pub ruling_by : ℕ → Option Performed → ℕ → OrderOf → Ruling
ruling_by count last serial order =
    if is_last count last serial order then Again (kept_result last)
    else if serial == serial_of count then Performs
    else Refuses
