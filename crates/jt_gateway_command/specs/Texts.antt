-- What is printed of the lines of a gateway's script: this project's own texts. To be believed.
use Rattle.std.specs.Prelude.{ℕ, ◌-◌, if◌then◌else◌, Bool, true, false, List, [], ◌++◌, codes}
use Rattle.std.specs.Fmt.{decimal}
use Rattle.std.specs.List.{flat_map}
use Rattle.jt_platform.specs.declared.request.Entry.{Entry}
use Rattle.jt_event_lines.specs.EntryLines.{entry_line, is_told}
use Rattle.jt_play.specs.Scripts.{totals_of}
use Rattle.jt_gateway.specs.Gateway.{GatewayScene, entries_of}
use Rattle.jt_gateway.specs.declared.event.GatewayEvent.{GatewayEvent}
use Rattle.jt_gateway.specs.declared.event.GatewayEvent.TheVariants as asked

-- the world in which an event is stands before each line of its entries
unfoldable pub world_name : GatewayEvent → List ℕ
world_name (asked.A event) = codes "a "
world_name (asked.B event) = codes "b "
world_name asked.Pump = []
world_name asked.RestartMiddle = []

-- the line of an entry, if one is printed of it, behind this name
abbrev pub named_line : List ℕ → Entry → List ℕ
named_line name entry = if is_told entry then name ++ entry_line entry else []

abbrev pub named_lines : List ℕ → List Entry → List ℕ
named_lines name entries = flat_map (named_line name) entries

abbrev pub is_pump : GatewayEvent → Bool
is_pump (asked.A event) = false
is_pump (asked.B event) = false
is_pump asked.Pump = true
is_pump asked.RestartMiddle = false

-- so many fixes were passed on
unfoldable pub pump_line : ℕ → List ℕ
pump_line count = codes "pump " ++ decimal count ++ codes "\n"

abbrev pub pump_text : Bool → ℕ → List ℕ
pump_text pumps count = if pumps then pump_line count else []

-- how many fixes more world b recorded, of counts that stand still at 2^64 - 1
abbrev pub more_recorded : GatewayScene → GatewayScene → ℕ
more_recorded old new = (totals_of new.b.play).recorded - (totals_of old.b.play).recorded

-- what is printed of an event that was done
abbrev pub event_text : GatewayScene → GatewayEvent → GatewayScene → List ℕ
event_text old event new = pump_text (is_pump event) (more_recorded old new) ++ named_lines (world_name event) (entries_of old new event)

-- the fixes that world a recorded, those that it stored, and those that world b stored
unfoldable pub three_counts : ℕ → ℕ → ℕ → List ℕ
three_counts recorded middle upstream =
    codes "recorded=" ++ decimal recorded ++ codes " middle=" ++ decimal middle ++ codes " upstream=" ++ decimal upstream ++ codes "\n"

abbrev pub end_line : GatewayScene → List ℕ
end_line g = three_counts (totals_of g.a.play).recorded (totals_of g.a.play).stored (totals_of g.b.play).stored
