-- What a line of a track says: this project's own forms. To be believed.
use Rattle.std.specs.Prelude.{ℕ, ◌+◌, ◌==◌, nat_le, if◌then◌else◌, List, length, take, drop, position, codes, Option, Some, None, Result, Ok, Err}
use Rattle.std.specs.Str.{bytes_eq}
use Rattle.hex.specs.Hex.{decode_of}
use Rattle.hex.specs.declared.error.FromHexError.{FromHexError}
use Rattle.jt_value.specs.declared.limits.TheConstants.{BODY_LIMIT, WORD_COUNT_LIMIT}
use Rattle.jt_value.specs.declared.refusal.Refusal.{Refusal}
use Rattle.jt_position.specs.declared.position.Position.{Position}
use Rattle.jt_position.specs.Fixes.{position_at}
use Rattle.jt_position.specs.Positions.{position as position_body}
use Rattle.jt_region_bodies.specs.declared.rectangle.Rectangle.{Rectangle}
use Rattle.jt_region_bodies.specs.declared.polygon.Polygon as declared
use Rattle.jt_region_bodies.specs.declared.deletion.Deletion.{Deletion}
use Rattle.jt_region_bodies.specs.declared.kind.RegionKind.{RegionKind}
use Rattle.jt_region_bodies.specs.declared.kind.RegionKind.TheVariants as kind
use Rattle.jt_region_bodies.specs.Regions.{rectangles, polygon, deletion}
use Rattle.jt_regions.specs.declared.change.RegionChange.TheVariants as change
use Rattle.jt_regions.specs.Tables.{AtMost}
use Rattle.jt_script.specs.declared.world_event.WorldEvent.{WorldEvent}
use Rattle.jt_script.specs.declared.world_event.WorldEvent.TheVariants as event
use Rattle.jt_script.specs.declared.reading.EventLine.{EventLine}
use Rattle.jt_script.specs.declared.reading.EventLine.TheVariants as script
use Rattle.jt_script.specs.EventLines as script_lines
use Rattle.jt_input.specs.Text.{is_within}
use Rattle.jt_fence_command.specs.declared.line.FenceLine.{FenceLine}
use Rattle.jt_fence_command.specs.declared.line.FenceLine.TheVariants.{Passed, Fix, Change, Bad}
use Rattle.jt_fence_command.specs.declared.line.FenceWord.{FenceWord}
use Rattle.jt_fence_command.specs.declared.line.FenceWord.TheVariants as word

-- ---- octets

abbrev pub position_says : Result Position Refusal → FenceLine
position_says (Ok position) = Fix position.fixed
position_says (Err refusal) = Bad

-- a position report's body of at most 1,023 octets is a fix
unfoldable pub fix_say : List ℕ → FenceLine
fix_say octets = if nat_le (length octets) BODY_LIMIT then position_says (position_body.read octets 0) else Bad

abbrev pub setting_says : Result (ℕ × List Rectangle) Refusal → FenceLine
setting_says (Ok x) = Change (change.Rectangles x.0 x.1)
setting_says (Err refusal) = Bad

-- the body of a setting of rectangles
unfoldable pub rectangles_say : List ℕ → FenceLine
rectangles_say octets = setting_says (rectangles.read octets 0)

abbrev pub region_says : Result declared.Polygon Refusal → FenceLine
region_says (Ok polygon) = Change (change.Polygon polygon)
region_says (Err refusal) = Bad

-- the body of a setting of a polygon
unfoldable pub polygon_say : List ℕ → FenceLine
polygon_say octets = region_says (polygon.read octets 0)

abbrev pub deletion_says : RegionKind → Result Deletion Refusal → FenceLine
deletion_says kind (Ok deletion) = Change (change.Delete kind deletion.ids)
deletion_says kind (Err refusal) = Bad

-- the body of a deletion of regions of a kind
unfoldable pub deletion_say : RegionKind → List ℕ → FenceLine
deletion_say kind octets = deletion_says kind (deletion.read octets 0)

-- ---- a word, a space and hexadecimal digits

unfoldable pub word_named : List ℕ → Option FenceWord
word_named name =
    if bytes_eq name (codes "rectangles") then Some word.Rectangles
    else if bytes_eq name (codes "polygon") then Some word.Polygon
    else if bytes_eq name (codes "delete-rectangles") then Some word.DeleteRectangles
    else if bytes_eq name (codes "delete-polygons") then Some word.DeletePolygons
    else None

-- octets behind a word
abbrev pub octets_say : FenceWord → List ℕ → FenceLine
octets_say word.Rectangles octets = rectangles_say octets
octets_say word.Polygon octets = polygon_say octets
octets_say word.DeleteRectangles octets = deletion_say kind.Rectangle octets
octets_say word.DeletePolygons octets = deletion_say kind.Polygon octets

abbrev pub decoded_say : FenceWord → Result (List ℕ) FromHexError → FenceLine
decoded_say word (Ok octets) = octets_say word octets
decoded_say word (Err error) = Bad

-- pairs of digits behind a word, of either case
abbrev pub digits_say : FenceWord → List ℕ → FenceLine
digits_say word digits = decoded_say word (decode_of digits)

abbrev pub named_says : Option FenceWord → List ℕ → FenceLine
named_says None digits = Bad
named_says (Some word) digits = digits_say word digits

abbrev pub parted_say : List ℕ → Option ℕ → FenceLine
parted_say line None = Bad
parted_say line (Some space) = named_says (word_named (take space line)) (drop (space + 1) line)

-- a line that is parted by its first space
unfoldable pub words_say : List ℕ → FenceLine
words_say line = parted_say line (position (λ octet. octet == 32) line)

-- ---- lines

-- `fix K` and `raw X` are those of a rehearsal's script, whose other events are none here
abbrev pub event_says : WorldEvent → FenceLine
event_says (event.Fix lat) = fix_say (position_body.spell (position_at lat))
event_says (event.Raw octets) = fix_say octets
event_says event.Open = Bad
event_says (event.Up number count) = Bad
event_says (event.Down count) = Bad
event_says (event.Tick milliseconds) = Bad
event_says (event.Beat times) = Bad
event_says event.Run = Bad
event_says (event.Cut number) = Bad
event_says event.Lost = Bad
event_says event.RestartTerminal = Bad
event_says event.RestartPlatform = Bad
event_says (event.RestartAs edition) = Bad

-- empty lines and comments are those of such a script too
abbrev pub script_says : List ℕ → EventLine → FenceLine
script_says line script.Passed = Passed
script_says line (script.Event event) = event_says event
script_says line script.Bad = words_say line

-- what a line says
unfoldable pub says : List ℕ → FenceLine
says line = script_says line (script_lines.says line)

-- what the line of this number says, and one beyond the limits is bad whatever it says
unfoldable pub meaning : ℕ → List ℕ → FenceLine
meaning number line = if is_within number line then says line else Bad

-- a change that a line says has at most 65,535 regions or ids
abbrev pub HasFewRegions : FenceLine → Type 0
HasFewRegions (Change change) = AtMost WORD_COUNT_LIMIT change
HasFewRegions (Fix fixed) = Unit {0}
HasFewRegions Passed = Unit {0}
HasFewRegions Bad = Unit {0}
