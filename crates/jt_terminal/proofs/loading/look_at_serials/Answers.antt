use Rattle.std.proofs.Common.{sym, subst, take, arith}
use Rattle.jt_terminal_rule.specs.Machines.{AreSerials}
use Rattle.jt_terminal_rule.proofs.Forming.{serials_push}
use Rattle.jt_terminal_rule.proofs.Measuring.{get_at, take_at}
use Rattle.jt_terminal.proofs.loading.look_at_serials.Goals as goal

pub loop-unit-preserved : goal.loop-unit-preserved
loop-unit-preserved c =
    subst AreSerials (sym (take_at c.args.units.now c.loop-unit.unit-index c.unit-item.result (get_at c.args.units.now c.loop-unit.unit-index c.unit-item.result c.loop-unit-test.true c.unit-item.is))) (serials_push (take c.loop-unit.unit-index c.args.units.now) c.unit-item.result c.loop-unit.invariant (omega arith))
