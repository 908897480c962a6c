use Rattle.std.proofs.Common.{Some, cond, drop, sym, ap, ◌+◌, ◌∙◌}
use Rattle.std.specs.FinMap.{from_entries}
use Rattle.jt_regions.specs.Kinds.{first_missing}
use Rattle.jt_regions.proofs.Filling.{missing_at}
use Rattle.jt_regions.proofs.table.absent.Goals as goal

pub returns-then-not-contains_key : goal.returns-then-not-contains_key
returns-then-not-contains_key g c =
    let rest = first_missing g.T.Identified.id_of (from_entries c.args.regions.now.entries) (drop (c.loop-region.region-index + 1) c.args.list.now) in
    let at = missing_at g.T.Identified.id_of c.args.regions.now.entries c.args.list.now c.loop-region.region-index c.id-id.result c.region-item.result c.contains_key.result c.loop-region-test.true c.region-item.is c.id-id.ensures c.contains_key.ensures in
    sym (ap (λ has. cond has rest (Some c.id-id.result)) c.if-not-contains_key.true) ∙ sym at ∙ c.loop-region.invariant

pub loop-region-preserved : goal.loop-region-preserved
loop-region-preserved g c =
    let rest = first_missing g.T.Identified.id_of (from_entries c.args.regions.now.entries) (drop (c.loop-region.region-index + 1) c.args.list.now) in
    let at = missing_at g.T.Identified.id_of c.args.regions.now.entries c.args.list.now c.loop-region.region-index c.id-id.result c.region-item.result c.contains_key.result c.loop-region-test.true c.region-item.is c.id-id.ensures c.contains_key.ensures in
    sym (ap (λ has. cond has rest (Some c.id-id.result)) c.if-not-contains_key.false) ∙ sym at ∙ c.loop-region.invariant
