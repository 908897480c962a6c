use Rattle.std.proofs.Common.{ap, ◌∙◌}
use Rattle.std.specs.FinMap.{from_entries}
use Rattle.std.specs.Ordering.{nat_cmp}
use Rattle.std.proofs.lemmas.Map.Entries.{entries_from_clone}
use Rattle.jt_regions.proofs.table.Table.copy.Goals as goal

pub returns : goal.returns
returns g c = ap (from_entries {R = nat_cmp}) (entries_from_clone _ _ (λ x y same. same) g.met.T.Identified.copied _ _ c.in_ok-clone.ensures.cases) ∙ c.self.view_is
