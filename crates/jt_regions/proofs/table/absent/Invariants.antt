use Rattle.std.proofs.Common.{◌≡◌, drop}
use Rattle.std.specs.FinMap.{from_entries}
use Rattle.jt_regions.specs.Kinds.{first_missing}
use Rattle.jt_regions.proofs.table.absent.Given as goal

abbrev pub invariant-loop-region : goal.invariant-loop-region
invariant-loop-region g l = first_missing g.T.Identified.id_of (from_entries l.regions.entries) (drop l.region-index l.list) ≡ first_missing g.T.Identified.id_of (from_entries l.regions.entries) l.list
