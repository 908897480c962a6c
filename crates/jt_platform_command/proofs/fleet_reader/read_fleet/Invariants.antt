use Rattle.std.proofs.Common.{◌≡◌, ◌-◌}
use Rattle.jt_platform_command.specs.Naming.{GoesOn}
use Rattle.jt_platform_command.proofs.fleet_reader.read_fleet.Given as goal

abbrev pub invariant-loop-naming : goal.invariant-loop-naming
invariant-loop-naming g l = GoesOn l.lines l.naming l.number (g.S.Source.left l.fn.source) (g.S.Source.left l.source) × (g.S.Source.faults l.source ≡ g.S.Source.faults l.fn.source)

abbrev pub decreases-loop-naming : goal.decreases-loop-naming
decreases-loop-naming g l = 10000001 - l.number
