-- How the four maps are stored as one value. A step definition for the proofs; no public clause cites it.
use Rattle.std.specs.Prelude.{refl}
use Rattle.std.specs.Coded.{Coded, code_by, coded×, coded_ℕ}
use Rattle.std.specs.FinMap.{FinMap, code}
use Rattle.std.specs.Ordering.{nat_cmp}
use Rattle.jt_region_bodies.specs.declared.circle.Circle.{Circle}
use Rattle.jt_region_bodies.specs.declared.rectangle.Rectangle.{Rectangle}
use Rattle.jt_region_bodies.specs.declared.polygon.Polygon.{Polygon}
use Rattle.jt_region_bodies.specs.declared.route.Route.{Route}
use Rattle.jt_region_bodies.specs.contracts.circle.Circle as circle
use Rattle.jt_region_bodies.specs.contracts.rectangle.Rectangle as rectangle
use Rattle.jt_region_bodies.specs.contracts.polygon.Polygon as polygon
use Rattle.jt_region_bodies.specs.contracts.route.Route as route
use Rattle.jt_regions.specs.Tables.{Regions}

-- the four maps as pairs
abbrev pub regions_code : Coded Regions
regions_code =
    code_by ((FinMap nat_cmp Circle × FinMap nat_cmp Rectangle) × (FinMap nat_cmp Polygon × FinMap nat_cmp Route))
    (coded× (coded× (code coded_ℕ circle.the_row.coded) (code coded_ℕ rectangle.the_row.coded)) (coded× (code coded_ℕ polygon.the_row.coded) (code coded_ℕ route.the_row.coded)))
    (λ t. ((t.circles, t.rectangles), (t.polygons, t.routes)))
    (λ p. record { circles = p.0.0; rectangles = p.0.1; polygons = p.1.0; routes = p.1.1 })
    (λ _. refl)
