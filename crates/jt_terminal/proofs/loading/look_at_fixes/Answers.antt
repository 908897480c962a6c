use Rattle.std.proofs.Common.{sym, subst, All, take, arith}
use Rattle.std.proofs.lemmas.List.{take_all}
use Rattle.std.proofs.lemmas.List.Elements.{All-push}
use Rattle.jt_position.specs.Fixes.{IsFix}
use Rattle.jt_terminal_rule.proofs.Measuring.{get_at, take_at}
use Rattle.jt_terminal.proofs.loading.look_at_fixes.Goals as goal

pub loop-fix-preserved : goal.loop-fix-preserved
loop-fix-preserved c =
    subst (All IsFix) (sym (take_at c.args.fixes.now c.loop-fix.fix-index c.fix-item.result (get_at c.args.fixes.now c.loop-fix.fix-index c.fix-item.result c.loop-fix-test.true c.fix-item.is))) (All-push IsFix (take c.loop-fix.fix-index c.args.fixes.now) c.fix-item.result c.loop-fix.invariant c.as_slice-octets.ensures.fix)

pub returns : goal.returns
returns c = subst (All IsFix) (take_all c.loop-fix.fix-index c.args.fixes.now (omega arith)) c.loop-fix.invariant
