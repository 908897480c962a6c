use Rattle.jt_regions.proofs.Filling.{after}
use Rattle.jt_regions.proofs.table.after.Goals as goal

pub returns-clause-regions : goal.returns-clause-regions
returns-clause-regions g c = after g.T.Identified.id_of c.args.setting c.args.list.now c.args.regions.now.entries c.in_ok-kept.kept.entries c.in_ok-next.next.entries c.requires.own c.in_ok-kept.ensures.regions c.len-count.ensures.ordered c.in_ok-next.ensures.regions
