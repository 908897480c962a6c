-- What messages of the platform make of a terminal's tables (the standard's messages; which of them are performed is this project's own). To be
-- believed.
use Rattle.std.specs.Prelude.{ℕ, Option, Some, None}
use Rattle.jt_params.specs.Tables.{Table}
use Rattle.jt_regions.specs.declared.change.RegionChange.{RegionChange}
use Rattle.jt_regions.specs.declared.change.RegionChange.TheVariants as change
use Rattle.jt_regions.specs.Tables.{Regions}
use Rattle.jt_codec.specs.declared.message.Message.{Message}
use Rattle.jt_codec.specs.declared.message.Message.TheVariants as message
use Rattle.jt_regions.specs.Changes.{regions_after}
use Rattle.jt_terminal_rule.specs.Tables.{params_after}

-- what messages change: the parameters and the regions that a terminal holds
pub record HeldTables : Type 0 where
  pub params : Table
  pub regions : Regions

-- what a terminal holds of these parameters and regions
abbrev pub tables : Table → Regions → HeldTables
tables params regions = record { params = params; regions = regions }

-- the tables with these parameters, or these regions, and result 0; or they do not take them, and the result is 1
abbrev pub with_params : HeldTables → Option Table → ℕ × HeldTables
with_params t None = (1, t)
with_params t (Some params) = (0, record t { params = params })

abbrev pub with_regions : HeldTables → Option Regions → ℕ × HeldTables
with_regions t None = (1, t)
with_regions t (Some regions) = (0, record t { regions = regions })

-- the tables behind a change of regions
abbrev pub with_change : HeldTables → RegionChange → ℕ × HeldTables
with_change t c = with_regions t (regions_after c t.regions)

-- the result of a message over the tables, and the tables behind it; 3 is not supported
abbrev pub message_outcome : HeldTables → Message → ℕ × HeldTables
message_outcome t (message.SetParams params) = with_params t (params_after params t.params)
message_outcome t (message.Text flag kind text) = (0, t)
message_outcome t (message.Circles setting list) = with_change t (change.Circles setting list)
message_outcome t (message.Rectangles setting list) = with_change t (change.Rectangles setting list)
message_outcome t (message.Polygon polygon) = with_change t (change.Polygon polygon)
message_outcome t (message.Route route) = with_change t (change.Route route)
message_outcome t (message.Delete kind ids) = with_change t (change.Delete kind ids)
message_outcome t _ = (3, t)
