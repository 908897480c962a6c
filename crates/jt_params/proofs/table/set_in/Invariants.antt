use Rattle.std.proofs.Common.{◌≡◌, ℕ, ◌+◌, ◌≤◌, take}
use Rattle.std.specs.BTreeMap as tree
use Rattle.std.specs.Option.{option_or}
use Rattle.std.specs.Ordering.{nat_cmp}
use Rattle.jt_params.specs.Tables.{last_value}
use Rattle.jt_params.proofs.table.set_in.Given as goal

abbrev pub invariant-loop-param : goal.invariant-loop-param
invariant-loop-param l = record {
  values : (id : ℕ) → tree.get nat_cmp l.values id ≡ option_or (last_value (take l.param-index l.params) id) (tree.get nat_cmp l.initial.values id);
  size : tree.btree_map_len l.values ≤ tree.btree_map_len l.initial.values + l.param-index;
}
