use Rattle.std.proofs.Common.{◌≡◌, ◌++◌}
use Rattle.jt_params.specs.Tables.{params_of}
use Rattle.jt_params.proofs.table.listed_in.Given as goal

abbrev pub invariant-loop-id : goal.invariant-loop-id
invariant-loop-id l = l.params.items ++ params_of l.id-iterator ≡ params_of l.values.entries
