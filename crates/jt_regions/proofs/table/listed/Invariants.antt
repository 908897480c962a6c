use Rattle.std.proofs.Common.{◌≡◌, ◌++◌, map}
use Rattle.jt_regions.proofs.table.listed.Given as goal

abbrev pub invariant-loop-region : goal.invariant-loop-region
invariant-loop-region g l = l.list.items ++ map (λ entry. entry.1) l.region-iterator ≡ map (λ entry. entry.1) l.regions.entries
