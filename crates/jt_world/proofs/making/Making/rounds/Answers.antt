use Rattle.std.proofs.Common.{◌<◌, arith}
use Rattle.jt_world.proofs.Made.{next_round}
use Rattle.jt_world.proofs.making.Making.rounds.Goals as goal

pub loop-k-preserved : goal.loop-k-preserved
loop-k-preserved c =
    let test = c.loop-k-test.true in
    let lt : c.loop-k.k < c.args.count = omega (arith, test) in
    next_round c.args.self.now c.loop-k.self c.round-newest.new.self c.args.count c.loop-k.k c.loop-k.newest c.round-newest.result c.loop-k.invariant lt
    c.round-newest.ensures.says c.round-newest.ensures.newest c.round-newest.ensures.small
