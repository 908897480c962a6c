use Rattle.std.proofs.Common.{rules}
use Rattle.std.proofs.Math.Dec.{ltb}
use Rattle.std.proofs.lemmas.Bool.{ltb-false}
use Rattle.std.proofs.lemmas.List.Sorted.{IsPartitionPoint-from_clause, IsPartitionedBy-ltb}
use borrow.Author.Tests.{ltb-true}
use Rattle.jt_store.proofs.Rising.{rising}
use Rattle.jt_store.proofs.rows.place_from.Goals as goal

pub returns-clause-below : goal.returns-clause-below
returns-clause-below c = λ k d low lt.
    let parted = IsPartitionedBy-ltb (λ row. row.number) c.args.rows.now c.args.number (λ i j x le within. rising 0 c.args.rows.now i j x c.requires le within) in
    let point = IsPartitionPoint-from_clause (λ row. ltb row.number c.args.number) _ _ c.partition_point.ensures.partitioned parted (λ a r q called. search rules) in
    ltb-true _ _ (point.0 k d low lt)

pub returns-clause-above : goal.returns-clause-above
returns-clause-above c = λ k d low lt.
    let parted = IsPartitionedBy-ltb (λ row. row.number) c.args.rows.now c.args.number (λ i j x le within. rising 0 c.args.rows.now i j x c.requires le within) in
    let point = IsPartitionPoint-from_clause (λ row. ltb row.number c.args.number) _ _ c.partition_point.ensures.partitioned parted (λ a r q called. search rules) in
    ltb-false _ _ (point.1 k d low lt)
