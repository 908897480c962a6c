use Rattle.std.proofs.Common.{◌≡◌, ◌+◌, ◌++◌, length, min}
use Rattle.jt_terminal_rule.proofs.window.move_all_up.Given as goal

abbrev pub invariant-loop : goal.invariant-loop
invariant-loop g l =
    (l.ring.items ++ l.behind ≡ l.fn.ring.items ++ l.fn.behind)
    × (l.ring.capacity ≡ 16)
    × (length l.ring.items + length l.behind ≡ length l.fn.behind)
    × (length l.ring.items ≡ min l.counter (length l.fn.behind))
