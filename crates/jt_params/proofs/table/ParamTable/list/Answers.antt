use Rattle.jt_params.proofs.TableLaws.{list_is, list_short, list_fits}
use Rattle.jt_params.proofs.table.ParamTable.list.Goals as goal

pub returns-clause-params : goal.returns-clause-params
returns-clause-params c = list_is c.listed_in.result c.self.inside.values.entries c.args.self.now c.listed_in.ensures.ordered c.self.view_is c.listed_in.ensures.params

pub returns-clause-few : goal.returns-clause-few
returns-clause-few c = list_short c.listed_in.result c.self.inside.values.entries c.self.invariant c.listed_in.ensures.params

pub returns-clause-octets : goal.returns-clause-octets
returns-clause-octets c = list_fits c.listed_in.result c.self.inside.values.entries c.args.self.now c.self.view_is c.listed_in.ensures.found c.listed_in.ensures.params
