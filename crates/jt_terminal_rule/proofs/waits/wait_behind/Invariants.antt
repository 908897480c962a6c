use Rattle.std.proofs.Common.{◌≡◌}
use Rattle.jt_terminal_rule.specs.Rule.{wait_behind}
use Rattle.jt_terminal_rule.proofs.waits.wait_behind.Given as goal

abbrev pub invariant-loop-count : goal.invariant-loop-count
invariant-loop-count l = l.wait ≡ wait_behind l.first l.count
