use Rattle.std.proofs.Common.{◌≡◌}
use Rattle.jt_terminal_rule.specs.Rule.{first_named}
use Rattle.jt_terminal.proofs.Naming.{named_behind}
use Rattle.jt_terminal.proofs.telling.first_named.Given as goal

abbrev pub invariant-loop-place : goal.invariant-loop-place
invariant-loop-place l = first_named l.ack l.sent l.units ≡ named_behind l.ack l.sent l.units l.place
