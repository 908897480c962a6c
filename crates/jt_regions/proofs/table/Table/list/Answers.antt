use Rattle.jt_regions.proofs.Filling.{list_is}
use Rattle.jt_regions.proofs.table.Table.list.Goals as goal

pub returns : goal.returns
returns g c = list_is c.listed.result c.self.inside.regions.entries c.args.self.now c.listed.ensures.ordered c.self.view_is c.listed.ensures.regions
