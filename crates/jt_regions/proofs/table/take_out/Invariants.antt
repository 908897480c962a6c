use Rattle.std.proofs.Common.{◌≡◌, ℕ, ◌≤◌, eqb, cond, take, None}
use Rattle.std.specs.List.{list_any}
use Rattle.std.specs.Ordering.{nat_cmp}
use Rattle.std.specs.BTreeMap.{get, btree_map_len}
use Rattle.jt_regions.proofs.table.take_out.Given as goal

abbrev pub invariant-loop-id : goal.invariant-loop-id
invariant-loop-id g l = record {
  regions : (id : ℕ) → get nat_cmp l.regions id ≡ cond (list_any (eqb id) (take l.id-index l.ids)) None (get nat_cmp l.fn.regions id);
  len : btree_map_len l.regions ≤ btree_map_len l.fn.regions;
}
