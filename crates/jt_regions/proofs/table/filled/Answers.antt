use Rattle.std.specs.Option.{is_some}
use Rattle.jt_value.proofs.FiniteMaps.{size_more}
use Rattle.jt_regions.proofs.Filling.{put_more}
use Rattle.jt_regions.proofs.table.filled.Goals as goal

pub loop-region-preserved : goal.loop-region-preserved
loop-region-preserved g c = record {
  regions = λ id. put_more g.T.Identified.id_of c.args.list.now c.loop-region.region-index c.region-item.result c.in_ok-clone.field-0 c.id.result id _ _ _ c.loop-region-test.true c.region-item.is (g.met.T.Identified.copied _ _ c.in_ok-clone.ensures.cases) c.id.ensures (c.in_ok-insert.ensures.updates.0 id) (c.loop-region.invariant.regions id);
  len = size_more (is_some c.in_ok-insert.field-0) _ _ _ _ c.in_ok-insert.ensures.len c.loop-region.invariant.len;
}
