-- What the calls that answer make of a terminal's state.
use Rattle.std.specs.Prelude.{◌≡◌, ◌⊎◌, Bool, true, false, List, Some, None}
use Rattle.jt_params.specs.declared.param.Param.{Param}
use Rattle.jt_params.specs.Tables.{Table}
use Rattle.jt_regions.specs.Tables.{Regions}
use Rattle.jt_regions.specs.declared.change.RegionChange.{RegionChange}
use Rattle.jt_terminal_rule.specs.declared.state.State.{State}
use Rattle.jt_terminal_rule.specs.Answers.{Answer, timing_after}
use Rattle.jt_terminal_rule.specs.Rule.{changed_by}
use Rattle.jt_regions.specs.Changes.{regions_after}
use Rattle.jt_terminal_rule.specs.Tables.{params_after}

-- nothing was done of an answer, or times and tables are all the answer's and nothing else is another
abbrev pub AllOrNothing : State → Answer → State → Type 0
AllOrNothing old a now = (now ≡ old) ⊎ (now ≡ changed_by old a)

-- a table took the parameters, or would have had too many
abbrev pub SetIn : Bool → Table → List Param → Table → Type 0
SetIn true old params now = params_after params old ≡ Some now
SetIn false old params now = (params_after params old ≡ None) × (now ≡ old)

-- a table took the change, or did not
abbrev pub ChangedIn : Bool → Regions → RegionChange → Regions → Type 0
ChangedIn true old change now = regions_after change old ≡ Some now
ChangedIn false old change now = (regions_after change old ≡ None) × (now ≡ old)

-- the table took the parameters, and with them the times, or would have had too many
abbrev pub TookParams : Bool → State → List Param → State → Type 0
TookParams true old params now = (params_after params old.params ≡ Some now.params) × (now ≡ record old { timing = timing_after params old.timing; params = now.params })
TookParams false old params now = (params_after params old.params ≡ None) × (now ≡ old)

-- the table took the change, or did not
abbrev pub TookChange : Bool → State → RegionChange → State → Type 0
TookChange true old change now = (regions_after change old.regions ≡ Some now.regions) × (now ≡ record old { regions = now.regions })
TookChange false old change now = (regions_after change old.regions ≡ None) × (now ≡ old)
