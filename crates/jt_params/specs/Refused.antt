-- Why a parameter table does not take parameters. To be believed.
use Rattle.std.specs.Prelude.{◌≡◌, ◌<◌, List}
use Rattle.std.specs.FinMap.{len}
use Rattle.jt_value.specs.declared.limits.TheConstants.{OCTET_COUNT_LIMIT}
use Rattle.jt_params.specs.declared.param.Param.{Param}
use Rattle.jt_params.specs.declared.table.ParamError.{ParamError}
use Rattle.jt_params.specs.declared.table.ParamError.TheVariants as errors
use Rattle.jt_params.specs.Tables.{Table, Sets}

-- TooMany has the number of parameters in the table that they would make, which is more than 255; want of memory has no cause
abbrev pub IsTooMany : List Param → Table → ParamError → Type 0
IsTooMany params before (errors.TooMany count) = (after : Table) × Sets params before after × (count ≡ len after) × (OCTET_COUNT_LIMIT < count)
IsTooMany params before errors.Memory = Unit {0}
