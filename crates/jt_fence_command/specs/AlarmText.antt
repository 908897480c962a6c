-- How alarms are printed: this project's own texts. To be believed.
use Rattle.std.specs.Prelude.{ℕ, List, ◌++◌, codes}
use Rattle.std.specs.Fmt.{decimal}
use Rattle.std.specs.List.{flat_map}
use Rattle.jt_region_bodies.specs.declared.kind.RegionKind.{RegionKind}
use Rattle.jt_region_bodies.specs.declared.kind.RegionKind.TheVariants as kind
use Rattle.jt_fence.specs.declared.alarm.Alarm.{Alarm}
use Rattle.jt_fence.specs.declared.alarm.What.{What}
use Rattle.jt_fence.specs.declared.alarm.What.TheVariants as what

unfoldable pub what_word : What → List ℕ
what_word what.Enter = codes "enter"
what_word what.Leave = codes "leave"
what_word what.Over = codes "over"

unfoldable pub kind_word : RegionKind → List ℕ
kind_word kind.Circle = codes "circle"
kind_word kind.Rectangle = codes "rectangle"
kind_word kind.Polygon = codes "polygon"
kind_word kind.Route = codes "route"

-- an alarm that the fix of this number raises
unfoldable pub alarm_line : ℕ → Alarm → List ℕ
alarm_line number alarm =
    codes "fix " ++ decimal number ++ codes " " ++ what_word alarm.what ++ codes " " ++ kind_word alarm.kind ++ codes " " ++ decimal alarm.id ++ codes "\n"

abbrev pub alarm_lines : ℕ → List Alarm → List ℕ
alarm_lines number alarms = flat_map (alarm_line number) alarms

-- how many fixes and alarms there were
unfoldable pub totals_line : ℕ → ℕ → List ℕ
totals_line fixes events = codes "fixes=" ++ decimal fixes ++ codes " events=" ++ decimal events ++ codes "\n"
