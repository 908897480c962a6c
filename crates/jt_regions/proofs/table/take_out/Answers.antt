use Rattle.std.proofs.Common.{arith}
use Rattle.jt_regions.proofs.Filling.{take_more_out}
use Rattle.jt_regions.proofs.table.take_out.Goals as goal

pub loop-id-preserved : goal.loop-id-preserved
loop-id-preserved g c = record {
  regions = λ id. take_more_out c.args.ids.now c.loop-id.id-index id _ _ _ c.loop-id-test.true (c.remove.ensures.updates.0 id) (c.loop-id.invariant.regions id);
  len = omega arith;
}
