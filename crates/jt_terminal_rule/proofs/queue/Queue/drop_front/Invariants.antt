use Rattle.std.proofs.Common.{◌≡◌, drop}
use Rattle.jt_terminal_rule.proofs.queue.Queue.drop_front.Given as goal

abbrev pub invariant-loop : goal.invariant-loop
invariant-loop g l = l.self-inside.items.items ≡ drop l.counter l.initial.self-inside.items.items
