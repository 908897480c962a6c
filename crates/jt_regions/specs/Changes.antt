-- What changes make of a table of regions, as functions (this project's own). To be believed.
use Rattle.std.specs.Prelude.{ℕ, nat_le, ◌&&◌, not, is_some, if◌then◌else◌, List, [], ◌∷◌, Option, None, Some}
use Rattle.std.specs.FinMap.{FinMap, empty, insert, remove}
use Rattle.std.specs.Option.{option_map}
use Rattle.std.specs.Ordering.{nat_cmp}
use Rattle.jt_region_bodies.specs.declared.circle.Circle.{Circle}
use Rattle.jt_region_bodies.specs.declared.rectangle.Rectangle.{Rectangle}
use Rattle.jt_region_bodies.specs.declared.polygon.Polygon.{Polygon}
use Rattle.jt_region_bodies.specs.declared.route.Route.{Route}
use Rattle.jt_region_bodies.specs.declared.kind.RegionKind.{RegionKind}
use Rattle.jt_region_bodies.specs.declared.kind.RegionKind.TheVariants as kind
use Rattle.jt_regions.specs.declared.change.RegionChange.{RegionChange}
use Rattle.jt_regions.specs.declared.change.RegionChange.TheVariants as change
use Rattle.jt_regions.specs.Kinds.{kept, missing, count_after, region_limit}
use Rattle.jt_regions.specs.Tables.{Regions}

abbrev pub no_regions : Regions
no_regions = record { circles = empty; rectangles = empty; polygons = empty; routes = empty }

module _ {T : Type 0} (id_of : T → ℕ) where
  -- regions that are put in order, each under its id
  abbrev pub put_all : List T → FinMap nat_cmp T → FinMap nat_cmp T
  put_all [] regions = regions
  put_all (r ∷ rs) regions = put_all rs (insert regions (id_of r) r)

  -- The regions of a kind after a setting, unless the setting is above 2, or regions that are to be modified are not there, or there would
  -- be too many.
  abbrev pub set_to : ℕ → List T → FinMap nat_cmp T → Option (FinMap nat_cmp T)
  set_to setting list old =
      if nat_le setting 2 && not (is_some (missing id_of setting list old)) && nat_le (count_after id_of setting list old) region_limit
      then Some (put_all list (kept setting old))
      else None

module _ {T : Type 0} where
  abbrev pub without_each : List ℕ → FinMap nat_cmp T → FinMap nat_cmp T
  without_each [] regions = regions
  without_each (id ∷ ids) regions = without_each ids (remove regions id)

  -- without the regions of these ids, and without all where there are no ids
  abbrev pub deleted : List ℕ → FinMap nat_cmp T → FinMap nat_cmp T
  deleted [] regions = empty
  deleted (id ∷ ids) regions = without_each (id ∷ ids) regions

abbrev pub deleted_of : RegionKind → List ℕ → Regions → Regions
deleted_of kind.Circle ids t = record t { circles = deleted ids t.circles }
deleted_of kind.Rectangle ids t = record t { rectangles = deleted ids t.rectangles }
deleted_of kind.Polygon ids t = record t { polygons = deleted ids t.polygons }
deleted_of kind.Route ids t = record t { routes = deleted ids t.routes }

-- the table after a change, if it takes it
abbrev pub regions_after : RegionChange → Regions → Option Regions
regions_after (change.Circles setting list) t = option_map (λ regions. record t { circles = regions }) (set_to (λ (r : Circle). r.id) setting list t.circles)
regions_after (change.Rectangles setting list) t = option_map (λ regions. record t { rectangles = regions }) (set_to (λ (r : Rectangle). r.id) setting list t.rectangles)
regions_after (change.Polygon polygon) t = option_map (λ regions. record t { polygons = regions }) (set_to (λ (r : Polygon). r.id) 1 (polygon ∷ []) t.polygons)
regions_after (change.Route route) t = option_map (λ regions. record t { routes = regions }) (set_to (λ (r : Route). r.id) 1 (route ∷ []) t.routes)
regions_after (change.Delete kind ids) t = Some (deleted_of kind ids t)
