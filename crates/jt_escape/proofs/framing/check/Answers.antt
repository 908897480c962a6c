use Rattle.std.proofs.Common.{◌-◌, length, drop, arith, take_all, length-drop}
use Rattle.jt_escape.proofs.Checks.{one_more, all_rows}
use Rattle.jt_escape.proofs.framing.check.Goals as goal

pub loop-left-preserved : goal.loop-left-preserved
loop-left-preserved c =
    let left = c.loop-left.left.now in
    one_more c.loop-left.lanes c.check_row-lanes.result left _ c.args.octets.now (omega arith) (omega arith) c.check_row-lanes.ensures
    (take_all (length left - 16) (drop 16 left) (omega (arith, length-drop 16 left))) c.loop-left.invariant

pub returns : goal.returns
returns c =
    rw (c.check_on.ensures, c.check_lanes.ensures) (all_rows c.loop-left.lanes c.loop-left.left.now c.args.octets.now c.loop-left.invariant)
