-- Circles, rectangles, polygons and routes, and their deletion, as the standard's message bodies of 2013 have them. To be believed.
use Rattle.std.specs.Prelude.{◌≡◌, ℕ, ◌/◌, ◌%◌, ◌^◌, ◌==◌, Bool, List, ◌++◌, length, take, drop, Option}
use Rattle.jt_value.specs.Octets.{AreOctets}
use Rattle.jt_layout.specs.Layout.{Part, Body, byte, word, dword, octets_of, ◌▹◌, ended, part_as, part_typed, body_as, only_if, counted}
use Rattle.jt_region_bodies.specs.declared.limit.Limit.{Limit}
use Rattle.jt_region_bodies.specs.declared.circle.Circle.{Circle}
use Rattle.jt_region_bodies.specs.declared.rectangle.Rectangle.{Rectangle}
use Rattle.jt_region_bodies.specs.declared.polygon.Vertex.{Vertex}
use Rattle.jt_region_bodies.specs.declared.polygon.Polygon.{Polygon}
use Rattle.jt_region_bodies.specs.declared.route.RoutePoint.{RoutePoint}
use Rattle.jt_region_bodies.specs.declared.route.Route.{Route}
use Rattle.jt_region_bodies.specs.declared.deletion.Deletion.{Deletion}

-- a bit of an attribute
abbrev pub bit : ℕ → ℕ → Bool
bit place attribute = attribute / 2 ^ place % 2 == 1

-- bit 0 of a region's attribute says that its times are there
abbrev pub has_times : ℕ → Bool
has_times attribute = bit 0 attribute

-- bit 1 of a region's or a point's attribute says that its limit is there
abbrev pub has_limit : ℕ → Bool
has_limit attribute = bit 1 attribute

-- bit 0 of a point's attribute says that its thresholds are there
abbrev pub has_thresholds : ℕ → Bool
has_thresholds attribute = bit 0 attribute

-- start BCD[6] and end BCD[6], twelve octets together
unfoldable pub period : Part (List ℕ)
period = part_typed (octets_of 6 ▹ λ _. octets_of 6) (λ x. x.0 ++ x.1) (λ times. (take 6 times, drop 6 times)) (λ times. (length times ≡ 12) × AreOctets times)

abbrev pub times_of : ℕ → Part (Option (List ℕ))
times_of attribute = only_if (has_times attribute) period

-- top speed W in km/h and duration B in seconds
unfoldable pub limit : Part Limit
limit = part_as (word ▹ λ _. byte) (λ x. record { speed = x.0; duration = x.1 }) (λ m. (m.speed, m.duration))

abbrev pub limit_of : ℕ → Part (Option Limit)
limit_of attribute = only_if (has_limit attribute) limit

-- longest W and shortest W in seconds
abbrev pub thresholds_of : ℕ → Part (Option (ℕ × ℕ))
thresholds_of attribute = only_if (has_thresholds attribute) (word ▹ λ _. word)

-- id D, attribute Wx, lat D, lon D, radius D, times, limit
unfoldable pub circle : Part Circle
circle = part_as (dword ▹ λ _. word ▹ λ attribute. dword ▹ λ _. dword ▹ λ _. dword ▹ λ _. times_of attribute ▹ λ _. limit_of attribute)
    (λ x. record { id = x.0; attribute = x.1.0; lat = x.1.1.0; lon = x.1.1.1.0; radius = x.1.1.1.1.0; times = x.1.1.1.1.1.0; limit = x.1.1.1.1.1.1 })
    (λ m. (m.id, (m.attribute, (m.lat, (m.lon, (m.radius, (m.times, m.limit)))))))

-- id D, attribute Wx, top lat D, left lon D, bottom lat D, right lon D, times, limit
unfoldable pub rectangle : Part Rectangle
rectangle = part_as (dword ▹ λ _. word ▹ λ attribute. dword ▹ λ _. dword ▹ λ _. dword ▹ λ _. dword ▹ λ _. times_of attribute ▹ λ _. limit_of attribute)
    (λ x. record { id = x.0; attribute = x.1.0; top = x.1.1.0; left = x.1.1.1.0; bottom = x.1.1.1.1.0; right = x.1.1.1.1.1.0; times = x.1.1.1.1.1.1.0; limit = x.1.1.1.1.1.1.1 })
    (λ m. (m.id, (m.attribute, (m.top, (m.left, (m.bottom, (m.right, (m.times, m.limit))))))))

-- lat D, lon D
unfoldable pub vertex : Part Vertex
vertex = part_as (dword ▹ λ _. dword) (λ x. record { lat = x.0; lon = x.1 }) (λ m. (m.lat, m.lon))

-- point id D, segment id D, lat D, lon D, width B, attribute Bx, thresholds, limit
unfoldable pub point : Part RoutePoint
point = part_as (dword ▹ λ _. dword ▹ λ _. dword ▹ λ _. dword ▹ λ _. byte ▹ λ _. byte ▹ λ attribute. thresholds_of attribute ▹ λ _. limit_of attribute)
    (λ x. record { point = x.0; segment = x.1.0; lat = x.1.1.0; lon = x.1.1.1.0; width = x.1.1.1.1.0; attribute = x.1.1.1.1.1.0; thresholds = x.1.1.1.1.1.1.0; limit = x.1.1.1.1.1.1.1 })
    (λ m. (m.point, (m.segment, (m.lat, (m.lon, (m.width, (m.attribute, (m.thresholds, m.limit))))))))

-- setting B, count B, then that many circles
unfoldable pub circles : Body (ℕ × List Circle)
circles = ended (byte ▹ λ setting. counted byte circle)

-- setting B, count B, then that many rectangles
unfoldable pub rectangles : Body (ℕ × List Rectangle)
rectangles = ended (byte ▹ λ setting. counted byte rectangle)

-- id D, attribute Wx, times, limit, count W, then that many vertices
unfoldable pub polygon : Body Polygon
polygon = body_as (ended (dword ▹ λ _. word ▹ λ attribute. times_of attribute ▹ λ _. limit_of attribute ▹ λ _. counted word vertex))
    (λ x. record { id = x.0; attribute = x.1.0; times = x.1.1.0; limit = x.1.1.1.0; vertices = x.1.1.1.1 })
    (λ m. (m.id, (m.attribute, (m.times, (m.limit, m.vertices)))))

-- id D, attribute Wx, times, count W, then that many points
unfoldable pub route : Body Route
route = body_as (ended (dword ▹ λ _. word ▹ λ attribute. times_of attribute ▹ λ _. counted word point))
    (λ x. record { id = x.0; attribute = x.1.0; times = x.1.1.0; points = x.1.1.1 })
    (λ m. (m.id, (m.attribute, (m.times, m.points))))

-- count B, then that many id D
unfoldable pub deletion : Body Deletion
deletion = body_as (ended (counted byte dword)) (λ ids. record { ids = ids }) (λ m. m.ids)
