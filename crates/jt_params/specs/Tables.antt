-- A parameter table is a finite map from id to value. To be believed.
use Rattle.std.specs.Prelude.{◌≡◌, ℕ, ◌==◌, if◌then◌else◌, List, [], ◌∷◌, map, Option, Some, None, IfSome}
use Rattle.std.specs.FinMap.{FinMap, get, entries}
use Rattle.std.specs.List.{flat_map, AllByRecursion}
use Rattle.std.specs.Option.{option_or, option_map, option_to_list}
use Rattle.std.specs.Ordering.{nat_cmp}
use Rattle.jt_params.specs.declared.param.ParamValue.{ParamValue}
use Rattle.jt_params.specs.declared.param.ParamValue.TheVariants.{Dword}
use Rattle.jt_params.specs.declared.param.Param.{Param}
use Rattle.jt_params.specs.Params.{param}

-- from ids to values
abbrev pub Table : Type 0
Table = FinMap nat_cmp ParamValue

abbrev pub param_of : ℕ → ParamValue → Param
param_of id value = record { id = id; value = value }

-- the last value that a list has for an id
abbrev pub last_value : List Param → ℕ → Option ParamValue
last_value [] id = None
last_value (p ∷ ps) id = option_or (last_value ps id) (if p.id == id then Some p.value else None)

-- The parameters, set in order, make of the table `before` the table `after`: under each id it has the last value that they have for
-- the id, and where they have none the value that it had.
abbrev pub Sets : List Param → Table → Table → Type 0
Sets params before after = (id : ℕ) → get after id ≡ option_or (last_value params id) (get before id)

-- the parameters make one table of each table
pub record IsOneTable : Type 0 where
  pub has : (params : List Param) (before : Table) → (after : Table) × Sets params before after
  pub one : (params : List Param) (before after other : Table) → Sets params before after → Sets params before other → after ≡ other

-- the parameters of entries
abbrev pub params_of : List (ℕ × ParamValue) → List Param
params_of pairs = map (λ pair. param_of pair.0 pair.1) pairs

-- all parameters of a table, in order of their ids
abbrev pub listed : Table → List Param
listed table = params_of (entries table)

-- the parameter of an id, if the table has it
abbrev pub param_at : Table → ℕ → Option Param
param_at table id = option_map (param_of id) (get table id)

-- the parameters of these ids that the table has, in the order of the ids
abbrev pub selected : Table → List ℕ → List Param
selected table ids = flat_map (λ id. option_to_list (param_at table id)) ids

-- the number of a value of four octets
abbrev pub dword_of : ParamValue → Option ℕ
dword_of (Dword n) = Some n
dword_of _ = None

-- each parameter has octets
abbrev pub HaveOctets : List Param → Type 0
HaveOctets params = AllByRecursion param.Fits params

-- each parameter of the table has octets
abbrev pub HasOctets : Table → Type 0
HasOctets table = (id : ℕ) → IfSome (param_at table id) param.Fits
