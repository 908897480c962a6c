use Rattle.std.proofs.Common.{arith}
use Rattle.jt_terminal_rule.proofs.Windows.{none_left}
use Rattle.jt_terminal_rule.proofs.window.Window.fill.Goals as goal

pub invariant_of-self : goal.invariant_of-self
invariant_of-self g c =
    let full = c.move_all_up.ensures.full in
    let count = c.move_all_up.ensures.count in
    (c.move_all_up.ensures.capacity, λ lt. none_left c.move_all_up.new.behind (omega (arith, full, count, lt)))
