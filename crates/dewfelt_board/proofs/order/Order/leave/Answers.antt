use Rattle.std.proofs.Common.{arith}
use Rattle.dewfelt_board.proofs.Orders.{rising_higher}
use Rattle.dewfelt_board.proofs.order.Order.leave.Goals as goal

pub invariant_of-self : goal.invariant_of-self
invariant_of-self c = record {
  rising = rising_higher 0 c.take_out.new.self.last c.saturating_add-self.result c.take_out.new.self.changes.items (omega arith) c.take_out.new.self.rising;
  once = c.take_out.new.self.once;
}
