-- The fields of regions and their deletion: this project's texts. To be believed.
use Rattle.std.specs.Prelude.{ℕ, List, ◌++◌, length, take, drop, Option, Some, None, codes}
use Rattle.std.specs.List.{flat_map}
use Rattle.std.specs.Fmt.{decimal}
use Rattle.hex.specs.Hex.{encode_lower}
use Rattle.jt_region_bodies.specs.declared.limit.Limit.{Limit}
use Rattle.jt_region_bodies.specs.declared.circle.Circle.{Circle}
use Rattle.jt_region_bodies.specs.declared.rectangle.Rectangle.{Rectangle}
use Rattle.jt_region_bodies.specs.declared.polygon.Vertex.{Vertex}
use Rattle.jt_region_bodies.specs.declared.polygon.Polygon.{Polygon}
use Rattle.jt_region_bodies.specs.declared.route.RoutePoint.{RoutePoint}
use Rattle.jt_region_bodies.specs.declared.route.Route.{Route}
use Rattle.jt_text.specs.Values.{byte_digits, word_digits}

-- the digits of the start and of the end; a part that is not there is `-`
abbrev pub times_text : Option (List ℕ) → List ℕ
times_text None = codes ":-:-"
times_text (Some times) = codes ":" ++ encode_lower (take 6 times) ++ codes ":" ++ encode_lower (drop 6 times)

-- the top speed and the duration
abbrev pub limit_text : Option Limit → List ℕ
limit_text None = codes ":-:-"
limit_text (Some limit) = codes ":" ++ decimal limit.speed ++ codes ":" ++ decimal limit.duration

-- the longest and the shortest time
abbrev pub thresholds_text : Option (ℕ × ℕ) → List ℕ
thresholds_text None = codes ":-:-"
thresholds_text (Some thresholds) = codes ":" ++ decimal thresholds.0 ++ codes ":" ++ decimal thresholds.1

-- the id and the attribute
unfoldable pub region_start : ℕ → ℕ → List ℕ
region_start id attribute = decimal id ++ codes ":0x" ++ word_digits attribute

unfoldable pub circle_text : Circle → List ℕ
circle_text m =
    codes " circle=" ++ region_start m.id m.attribute ++ codes ":" ++ decimal m.lat ++ codes ":" ++ decimal m.lon
    ++ codes ":" ++ decimal m.radius ++ times_text m.times ++ limit_text m.limit

unfoldable pub rectangle_text : Rectangle → List ℕ
rectangle_text m =
    codes " rectangle=" ++ region_start m.id m.attribute ++ codes ":" ++ decimal m.top ++ codes ":" ++ decimal m.left
    ++ codes ":" ++ decimal m.bottom ++ codes ":" ++ decimal m.right ++ times_text m.times ++ limit_text m.limit

unfoldable pub vertex_text : Vertex → List ℕ
vertex_text m = codes " vertex=" ++ decimal m.lat ++ codes ":" ++ decimal m.lon

-- the ids of a point and of its segment, and its place
unfoldable pub point_place : RoutePoint → List ℕ
point_place m = codes " point=" ++ decimal m.point ++ codes ":" ++ decimal m.segment ++ codes ":" ++ decimal m.lat ++ codes ":" ++ decimal m.lon

unfoldable pub point_text : RoutePoint → List ℕ
point_text m =
    point_place m ++ codes ":" ++ decimal m.width ++ codes ":0x" ++ byte_digits m.attribute ++ thresholds_text m.thresholds
    ++ limit_text m.limit

unfoldable pub circles_fields : ℕ → List Circle → List ℕ
circles_fields setting list = codes " setting=" ++ decimal setting ++ codes " count=" ++ decimal (length list) ++ flat_map circle_text list

unfoldable pub rectangles_fields : ℕ → List Rectangle → List ℕ
rectangles_fields setting list = codes " setting=" ++ decimal setting ++ codes " count=" ++ decimal (length list) ++ flat_map rectangle_text list

unfoldable pub polygon_fields : Polygon → List ℕ
polygon_fields m =
    codes " polygon=" ++ region_start m.id m.attribute ++ times_text m.times ++ limit_text m.limit
    ++ codes " count=" ++ decimal (length m.vertices) ++ flat_map vertex_text m.vertices

unfoldable pub route_fields : Route → List ℕ
route_fields m =
    codes " route=" ++ region_start m.id m.attribute ++ times_text m.times ++ codes " count=" ++ decimal (length m.points)
    ++ flat_map point_text m.points

-- an id of a deletion
abbrev pub deleted_id_text : ℕ → List ℕ
deleted_id_text id = codes " id=" ++ decimal id

unfoldable pub deletion_fields : List ℕ → List ℕ
deletion_fields ids = codes " count=" ++ decimal (length ids) ++ flat_map deleted_id_text ids
