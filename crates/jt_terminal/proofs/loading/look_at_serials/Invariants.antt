use Rattle.std.proofs.Common.{take}
use Rattle.jt_terminal_rule.specs.Machines.{AreSerials}
use Rattle.jt_terminal.proofs.loading.look_at_serials.Given as goal

abbrev pub invariant-loop-unit : goal.invariant-loop-unit
invariant-loop-unit l = AreSerials (take l.unit-index l.units)
