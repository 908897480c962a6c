use Rattle.std.proofs.Common.{◌≡◌, ◌≤◌, ◌-◌, length}
use Rattle.std.specs.Option.{option_copied, option_map}
use Rattle.jt_value.specs.Sameness.{key_of}
use Rattle.jt_store.specs.Tables.{WhereKnown}
use Rattle.dewfelt_keeper.specs.Registries.{AreNext, last_behind}
use Rattle.dewfelt_keeper.proofs.paging.page_of.Given as goal

abbrev pub invariant-loop-alloc : goal.invariant-loop-alloc
invariant-loop-alloc g l = record {
  same : g.K.Keeper.tables l.keeper ≡ g.K.Keeper.tables l.fn.keeper;
  pages : WhereKnown (g.K.Keeper.tables l.fn.keeper) (λ t. AreNext t.registered (option_map key_of (option_copied l.after)) l.page × (option_map key_of l.last ≡ last_behind (option_map key_of (option_copied l.after)) l.page));
  few : length l.page ≤ l.most;
}

abbrev pub decreases-loop-alloc : goal.decreases-loop-alloc
decreases-loop-alloc g l = l.most - length l.page
