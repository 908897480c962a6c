use Rattle.jt_regions.proofs.Filling.{after_one}
use Rattle.jt_regions.proofs.table.put_over.Goals as goal

pub returns-clause-ok : goal.returns-clause-ok
returns-clause-ok g c = after_one g.T.Identified.id_of c.args.region.now c.in_ok-region.region c.id.result c.args.regions.now.entries c.insert.new.self.entries c.requires (g.met.T.Identified.copied _ _ c.in_ok-region.ensures.cases) c.id.ensures c.in_ok-insert.ensures.ordered (λ id. c.in_ok-insert.ensures.updates.0 id)
