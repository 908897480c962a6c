use Rattle.std.proofs.Common.{◌∙◌, sym, arith}
use Rattle.jt_terminal_rule.proofs.Measuring.{wait_zero, wait_long}
use Rattle.jt_terminal_rule.proofs.waits.wait_behind.Goals as goal

pub returns-then-wait-eq0 : goal.returns-then-wait-eq0
returns-then-wait-eq0 c = sym (wait_zero c.args.first c.loop-count.count c.args.sendings (omega arith) (omega arith) (sym c.loop-count.invariant ∙ c.if-wait-eq0.true))

pub returns-then-wait-ge-LONGEST : goal.returns-then-wait-ge-LONGEST
returns-then-wait-ge-LONGEST c =
    let is = c.loop-count.invariant in
    let le = c.if-wait-ge-LONGEST.true in
    sym (wait_long c.args.first c.loop-count.count c.args.sendings (omega arith) (omega arith) (omega (arith, is, le)))
