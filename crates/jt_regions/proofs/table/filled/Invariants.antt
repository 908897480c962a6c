use Rattle.std.proofs.Common.{◌≡◌, ℕ, ◌+◌, ◌≤◌, take}
use Rattle.std.specs.Ordering.{nat_cmp}
use Rattle.std.specs.BTreeMap.{get, btree_map_len}
use Rattle.std.specs.Option.{option_or}
use Rattle.jt_regions.specs.Kinds.{last_with}
use Rattle.jt_regions.proofs.table.filled.Given as goal

abbrev pub invariant-loop-region : goal.invariant-loop-region
invariant-loop-region g l = record {
  regions : (id : ℕ) → get nat_cmp l.filled id ≡ option_or (last_with g.T.Identified.id_of (take l.region-index l.list) id) (get nat_cmp l.fn.regions id);
  len : btree_map_len l.filled ≤ btree_map_len l.fn.regions + l.region-index;
}
