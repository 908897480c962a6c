-- The table of a terminal's regions: four finite maps from id to region, and what a change makes of them (this project's own). To be believed.
use Rattle.std.specs.Prelude.{◌≡◌, ℕ, ◌≤◌, List, [], ◌∷◌, length, Result, Ok}
use Rattle.std.specs.FinMap.{FinMap, get, len}
use Rattle.std.specs.Ordering.{nat_cmp}
use Rattle.jt_region_bodies.specs.declared.circle.Circle.{Circle}
use Rattle.jt_region_bodies.specs.declared.rectangle.Rectangle.{Rectangle}
use Rattle.jt_region_bodies.specs.declared.polygon.Polygon.{Polygon}
use Rattle.jt_region_bodies.specs.declared.route.Route.{Route}
use Rattle.jt_region_bodies.specs.declared.kind.RegionKind.{RegionKind}
use Rattle.jt_region_bodies.specs.declared.kind.RegionKind.TheVariants as kind
use Rattle.jt_regions.specs.declared.change.RegionChange.{RegionChange}
use Rattle.jt_regions.specs.declared.change.RegionChange.TheVariants as change
use Rattle.jt_regions.specs.declared.error.RegionError.{RegionError}
use Rattle.jt_regions.specs.Kinds.{Sets, after_deletion}

-- for each kind a map from id to region
pub record Regions : Type 0 where
  pub circles : FinMap nat_cmp Circle
  pub rectangles : FinMap nat_cmp Rectangle
  pub polygons : FinMap nat_cmp Polygon
  pub routes : FinMap nat_cmp Route

-- how many regions of a kind there are
abbrev pub count_of : RegionKind → Regions → ℕ
count_of kind.Circle t = len t.circles
count_of kind.Rectangle t = len t.rectangles
count_of kind.Polygon t = len t.polygons
count_of kind.Route t = len t.routes

-- the regions of all other kinds are as before
abbrev pub OthersStay : RegionKind → Regions → Regions → Type 0
OthersStay kind.Circle old new = (new.rectangles ≡ old.rectangles) × (new.polygons ≡ old.polygons) × (new.routes ≡ old.routes)
OthersStay kind.Rectangle old new = (new.circles ≡ old.circles) × (new.polygons ≡ old.polygons) × (new.routes ≡ old.routes)
OthersStay kind.Polygon old new = (new.circles ≡ old.circles) × (new.rectangles ≡ old.rectangles) × (new.routes ≡ old.routes)
OthersStay kind.Route old new = (new.circles ≡ old.circles) × (new.rectangles ≡ old.rectangles) × (new.polygons ≡ old.polygons)

-- the regions of a kind after a deletion
abbrev pub Deleted : RegionKind → List ℕ → Regions → Regions → Type 0
Deleted kind.Circle ids old new = (id : ℕ) → get new.circles id ≡ after_deletion ids old.circles id
Deleted kind.Rectangle ids old new = (id : ℕ) → get new.rectangles id ≡ after_deletion ids old.rectangles id
Deleted kind.Polygon ids old new = (id : ℕ) → get new.polygons id ≡ after_deletion ids old.polygons id
Deleted kind.Route ids old new = (id : ℕ) → get new.routes id ≡ after_deletion ids old.routes id

-- What applying a change answers, and the table afterwards. A polygon or a route is added or replaces the one of its id.
abbrev pub Applies : RegionChange → Regions → Result (Unit {0}) RegionError → Regions → Type 0
Applies (change.Circles setting list) old r new = Sets (λ c. c.id) setting list old.circles r new.circles × OthersStay kind.Circle old new
Applies (change.Rectangles setting list) old r new = Sets (λ c. c.id) setting list old.rectangles r new.rectangles × OthersStay kind.Rectangle old new
Applies (change.Polygon polygon) old r new = Sets (λ c. c.id) 1 (polygon ∷ []) old.polygons r new.polygons × OthersStay kind.Polygon old new
Applies (change.Route route) old r new = Sets (λ c. c.id) 1 (route ∷ []) old.routes r new.routes × OthersStay kind.Route old new
Applies (change.Delete kind ids) old r new = (r ≡ Ok tt) × Deleted kind ids old new × OthersStay kind old new

-- at most so many regions or ids
abbrev pub AtMost : ℕ → RegionChange → Type 0
AtMost n (change.Circles setting list) = length list ≤ n
AtMost n (change.Rectangles setting list) = length list ≤ n
AtMost n (change.Polygon polygon) = Unit {0}
AtMost n (change.Route route) = Unit {0}
AtMost n (change.Delete kind ids) = length ids ≤ n
