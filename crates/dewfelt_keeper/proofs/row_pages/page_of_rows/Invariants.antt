use Rattle.std.proofs.Common.{◌≡◌, ◌≤◌, ◌-◌, length}
use Rattle.jt_value.specs.Sameness.{key_of}
use Rattle.dewfelt_keeper.proofs.RowPaging.{Grown}
use Rattle.dewfelt_keeper.proofs.row_pages.page_of_rows.Given as goal

abbrev pub invariant-loop-alloc : goal.invariant-loop-alloc
invariant-loop-alloc g l = record {
  same : g.K.Keeper.tables l.keeper ≡ g.K.Keeper.tables l.fn.keeper;
  grown : Grown (key_of l.phone) l.from l.page.items l.number (g.K.Keeper.tables l.fn.keeper);
  few : length l.page.items ≤ l.most;
}

abbrev pub decreases-loop-alloc : goal.decreases-loop-alloc
decreases-loop-alloc g l = l.most - length l.page.items
