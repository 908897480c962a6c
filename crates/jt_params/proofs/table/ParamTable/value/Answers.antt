use Rattle.std.proofs.Common.{◌∙◌, sym, ap}
use Rattle.std.specs.FinMap.{get}
use Rattle.jt_params.specs.Tables.{Table}
use Rattle.jt_value.proofs.FiniteMaps.{get_is}
use Rattle.jt_params.proofs.table.ParamTable.value.Goals as goal

pub returns : goal.returns
returns c = c.get.ensures.value ∙ sym (get_is c.self.inside.values.entries c.args.id) ∙ ap (λ (table : Table). get table c.args.id) c.self.view_is
