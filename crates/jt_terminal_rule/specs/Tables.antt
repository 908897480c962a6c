-- What a setting makes of a terminal's parameters, as a function (this project's own). To be believed.
use Rattle.std.specs.Prelude.{ℕ, nat_le, if◌then◌else◌, List, [], ◌∷◌, Option, None, Some}
use Rattle.std.specs.FinMap.{insert, len}
use Rattle.jt_value.specs.declared.limits.TheConstants.{OCTET_COUNT_LIMIT}
use Rattle.jt_params.specs.declared.param.Param.{Param}
use Rattle.jt_params.specs.Tables.{Table}

-- parameters that are set in order: a later one of an id replaces an earlier one, and one that the table has
abbrev pub set_params : List Param → Table → Table
set_params [] table = table
set_params (p ∷ params) table = set_params params (insert table p.id p.value)

-- the most parameters that a table has
abbrev pub param_limit : ℕ
param_limit = OCTET_COUNT_LIMIT

-- the table with the parameters, unless it would have too many
abbrev pub params_after : List Param → Table → Option Table
params_after params table = if nat_le (len (set_params params table)) param_limit then Some (set_params params table) else None
