-- What a change makes of what is kept, as functions: the clauses of `change` tie them to the definitions. Step definitions for
-- the proofs.
use Rattle.std.specs.Prelude.{ℕ, ◌==◌, Bool, true, false, ◌&&◌, if◌then◌else◌, List, [], ◌∷◌, map, None}
use base.Stored.{Gv, gnil, gnum, gcons}
use Rattle.std.specs.FinMap.{empty}
use Rattle.jt_region_bodies.specs.contracts.rectangle.Rectangle as rectangle
use Rattle.jt_region_bodies.specs.contracts.polygon.Polygon as polygon
use Rattle.jt_regions.specs.Tables.{Regions}
use Rattle.jt_fence.specs.declared.fence.Fence.{Fence}
use Rattle.jt_fence.specs.declared.fence.Fence.TheVariants as fence
use Rattle.jt_fence.specs.declared.watched.Watched.{Watched}
use Rattle.jt_fence.specs.Watching.{Seen, fences_of}

-- whether two trees of numbers are equal
abbrev pub is_same_tree : Gv → Gv → Bool
is_same_tree gnil gnil = true
is_same_tree (gnum m) (gnum n) = m == n
is_same_tree (gcons a b) (gcons c d) = is_same_tree a c && is_same_tree b d
is_same_tree gnil (gnum n) = false
is_same_tree gnil (gcons c d) = false
is_same_tree (gnum m) gnil = false
is_same_tree (gnum m) (gcons c d) = false
is_same_tree (gcons a b) gnil = false
is_same_tree (gcons a b) (gnum n) = false

-- whether two regions are equal in all fields: each value has its own tree of numbers
unfoldable pub is_same_fence : Fence → Fence → Bool
is_same_fence (fence.Rectangle a) (fence.Rectangle b) =
    is_same_tree (rectangle.the_row.coded.code a) (rectangle.the_row.coded.code b)
is_same_fence (fence.Polygon a) (fence.Polygon b) =
    is_same_tree (polygon.the_row.coded.code a) (polygon.the_row.coded.code b)
is_same_fence (fence.Rectangle a) (fence.Polygon b) = false
is_same_fence (fence.Polygon a) (fence.Rectangle b) = false

-- what is kept of a region that stands now: what was kept of it before, or nothing, if it did not stand
abbrev pub settled_in : List Watched → Fence → Watched
settled_in [] fence = record { fence = fence; was_inside = false; run = None }
settled_in (w ∷ old) fence =
    if is_same_fence w.fence fence
    then record { fence = fence; was_inside = w.was_inside; run = w.run }
    else settled_in old fence

-- a watch behind a change that made this of its table
abbrev pub settled_on : Seen → Regions → Seen
settled_on seen table =
    record { table = table; watched = map (settled_in seen.watched) (fences_of table) }

-- a watch over no region
abbrev pub unwatched : Seen
unwatched = record {
  table = record { circles = empty; rectangles = empty; polygons = empty; routes = empty };
  watched = [];
}
