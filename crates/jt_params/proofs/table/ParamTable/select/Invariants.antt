use Rattle.std.proofs.Common.{◌≡◌, take}
use Rattle.jt_params.specs.Tables.{selected}
use Rattle.jt_params.proofs.table.ParamTable.select.Given as goal

abbrev pub invariant-loop-id : goal.invariant-loop-id
invariant-loop-id l = l.params ≡ selected l.self (take l.id-index l.ids)
