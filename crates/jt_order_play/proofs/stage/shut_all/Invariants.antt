use Rattle.std.specs.Prelude.{◌≡◌, ◌≤◌, ◌-◌, ◌++◌, length, take, drop}
use Rattle.jt_order_play.specs.Holding.{shut_order_lines}
use Rattle.jt_order_play.proofs.stage.shut_all.Given as goal

abbrev pub invariant-loop-place : goal.invariant-loop-place
invariant-loop-place l = record { within : l.place ≤ l.count; many : length l.lines.items ≡ l.count; done : l.lines.items ≡ shut_order_lines (take l.place l.fn.lines.items) ++ drop l.place l.fn.lines.items }

abbrev pub decreases-loop-place : goal.decreases-loop-place
decreases-loop-place l = l.count - l.place
