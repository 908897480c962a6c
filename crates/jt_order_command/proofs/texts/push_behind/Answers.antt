use Rattle.std.proofs.Common.{arith}
use Rattle.jt_order_command.proofs.Telling.{one_more, put_one}
use Rattle.jt_order_command.proofs.texts.push_behind.Goals as goal

pub loop-number-preserved : goal.loop-number-preserved
loop-number-preserved c =
    put_one _ _ _ _ _ _
    (one_more c.args.before c.loop-number.number c.args.performed.now c.args.results.now c.index-performed-number.result (omega (arith, c.loop-number-test.true)) c.index-performed-number.is)
    c.loop-number.invariant
    c.in_ok-push_order.ensures
