-- What the counts and the missing ids of a change come to, for each kind of region. To be believed.
use Rattle.std.specs.Prelude.{◌≡◌, ◌↔◌, ℕ, true, false, List, ◌∷◌, ◌++◌, Some, None}
use Rattle.std.specs.FinMap.{FinMap, get, contains_key, len}
use Rattle.std.specs.List.{AllByRecursion}
use Rattle.std.specs.Ordering.{nat_cmp}
use Rattle.jt_region_bodies.specs.declared.circle.Circle.{Circle}
use Rattle.jt_region_bodies.specs.declared.rectangle.Rectangle.{Rectangle}
use Rattle.jt_region_bodies.specs.declared.polygon.Polygon.{Polygon}
use Rattle.jt_region_bodies.specs.declared.route.Route.{Route}
use Rattle.jt_regions.specs.Kinds.{after_setting, count_after, first_missing}

module _ {T : Type 0} (id_of : T → ℕ) where
  -- the table has a region under the id of each of the list
  abbrev pub AreThere : FinMap nat_cmp T → List T → Type 0
  AreThere old list = AllByRecursion (λ r. contains_key old (id_of r) ≡ true) list

  -- the id of a region of the list, under which the table has none, while all before it are there
  pub record IsFirstMissing (old : FinMap nat_cmp T) (list : List T) (id : ℕ) : Type 0 where
    pub front : List T
    pub region : T
    pub rest : List T
    pub is_list : list ≡ front ++ (region ∷ rest)
    pub there : AreThere old front
    pub is_id : id_of region ≡ id
    pub lacks : contains_key old id ≡ false

  pub record IsToldOfChanges : Type 0 where
    -- any map with the regions of a change under its ids has as many as were counted
    pub counted : (setting : ℕ) (list : List T) (old new : FinMap nat_cmp T) → ((id : ℕ) → get new id ≡ after_setting id_of setting list old id) → len new ≡ count_after id_of setting list old
    -- the first missing id is the first of the list that the table lacks
    pub first : (old : FinMap nat_cmp T) (list : List T) (id : ℕ) → (first_missing id_of old list ≡ Some id) ↔ IsFirstMissing old list id
    -- and there is none exactly where all are there
    pub none : (old : FinMap nat_cmp T) (list : List T) → (first_missing id_of old list ≡ None) ↔ AreThere old list

pub record ChangesAreTold : Type 0 where
  pub circles : IsToldOfChanges (λ (circle : Circle). circle.id)
  pub rectangles : IsToldOfChanges (λ (rectangle : Rectangle). rectangle.id)
  pub polygons : IsToldOfChanges (λ (polygon : Polygon). polygon.id)
  pub routes : IsToldOfChanges (λ (route : Route). route.id)
