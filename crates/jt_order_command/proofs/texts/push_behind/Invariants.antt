use Rattle.std.specs.Prelude.{◌≡◌, ◌-◌, ◌++◌, length, drop, string_bytes}
use Rattle.jt_order_command.specs.Texts.{orders_text}
use Rattle.jt_order_command.proofs.texts.push_behind.Given as goal

abbrev pub invariant-loop-number : goal.invariant-loop-number
invariant-loop-number l =
    string_bytes l.text ++ orders_text l.before l.number (drop l.number l.performed) (drop l.number l.results)
    ≡ string_bytes l.fn.text ++ orders_text l.before l.answered (drop l.answered l.performed) (drop l.answered l.results)

abbrev pub decreases-loop-number : goal.decreases-loop-number
decreases-loop-number l = length l.performed - l.number
