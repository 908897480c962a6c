use Rattle.std.proofs.Common.{◌≡◌, ◌≤◌, ◌+◌, ◌*◌, ◌-◌, drop, length}
use Rattle.jt_terminal_rule.specs.Forming.{fitting_behind}
use Rattle.jt_terminal_rule.proofs.units.fitting.Given as goal

abbrev pub invariant-loop-fix : goal.invariant-loop-fix
invariant-loop-fix l = (l.used ≤ 1023) × (l.count ≤ length l.waiting) × (3 + 2 * l.count ≤ l.used) × (fitting_behind 3 l.waiting ≡ l.count + fitting_behind l.used (drop l.count l.waiting))

abbrev pub decreases-loop-fix : goal.decreases-loop-fix
decreases-loop-fix l = length l.waiting - l.count
