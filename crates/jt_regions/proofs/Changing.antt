-- What a change of the table answers is what the function says, both ways.
use Rattle.std.proofs.Common.{ℕ, ◌≡◌, ◌≤◌, ◌<◌, Bool, true, false, cond, eqb, ◌&&◌, ◌||◌, List, [], ◌∷◌, Option, Some, None, Result, Ok, Err, refl, sym, ap, ◌∙◌, subst, arith}
use Rattle.std.specs.Prelude.{nat_le, not, is_some}
use Rattle.std.specs.Cmp.{nat_cmp_total}
use Rattle.std.specs.FinMap.{FinMap, get, insert, remove, get-empty, get-insert, get-remove, same_map, nat_cmp-IsAntisymmetric}
use Rattle.std.specs.List.{list_any}
use Rattle.std.specs.Option.{option_or, option_map}
use Rattle.std.specs.Ordering.{nat_cmp}
use Rattle.jt_region_bodies.specs.declared.circle.Circle.{Circle}
use Rattle.jt_region_bodies.specs.declared.rectangle.Rectangle.{Rectangle}
use Rattle.jt_region_bodies.specs.declared.polygon.Polygon.{Polygon}
use Rattle.jt_region_bodies.specs.declared.route.Route.{Route}
use Rattle.jt_region_bodies.specs.declared.kind.RegionKind.TheVariants as kind
use Rattle.jt_regions.specs.declared.change.RegionChange.{RegionChange}
use Rattle.jt_regions.specs.declared.change.RegionChange.TheVariants as change
use Rattle.jt_regions.specs.declared.error.RegionError.{RegionError}
use Rattle.jt_regions.specs.declared.error.RegionError.TheVariants as errors
use Rattle.jt_regions.specs.Changes.{deleted, put_all, regions_after, set_to, without_each}
use Rattle.jt_regions.specs.Kinds.{Sets, after_deletion, count_after, kept, last_with, missing, region_limit}
use Rattle.jt_regions.specs.Tables.{Applies, Regions}
use Rattle.jt_regions.proofs.Filling.{flipped, same_test}

-- ---- maps

pub same_maps : {X : Type 0} (m n : FinMap nat_cmp X) → ((id : ℕ) → get m id ≡ get n id) → m ≡ n
same_maps m n is = same_map nat_cmp_total nat_cmp-IsAntisymmetric m n is

chosen : {A : Type 0} (b : Bool) (x : A) (old : Option A) → cond b (Some x) old ≡ option_or (cond b (Some x) None) old
chosen true x old = refl
chosen false x old = refl

pub or_assoc : {A : Type 0} (a b c : Option A) → option_or (option_or a b) c ≡ option_or a (option_or b c)
or_assoc None b c = refl
or_assoc (Some x) b c = refl

-- one more is put under its key
pub put_one : {X : Type 0} (table : FinMap nat_cmp X) (key : ℕ) (x : X) (id : ℕ) → get (insert table key x) id ≡ option_or (cond (eqb key id) (Some x) None) (get table id)
put_one table key x id =
    get-insert nat_cmp_total table key x id ∙ (ap (λ (b : Bool). cond b (Some x) (get table id)) (same_test id key ∙ flipped id key) ∙ chosen (eqb key id) x (get table id))

-- ---- tests

pub few_is : (n most : ℕ) → n ≤ most → nat_le n most ≡ true
few_is n most le = grind arith

pub many_is : (n most : ℕ) → most < n → nat_le n most ≡ false
many_is n most lt = grind arith

-- an option that was chosen by a test
if_some : {A : Type 0} (b : Bool) (x y : A) → cond b (Some x) None ≡ Some y → (b ≡ true) × (x ≡ y)
if_some true x y e = (refl, cc e)
if_some false x y e = absurd cc

all_of : (a b c : Bool) → (a && b && c) ≡ true → (a ≡ true) × (b ≡ true) × (c ≡ true)
all_of true true true e = (refl, refl, refl)
all_of true true false e = absurd cc
all_of true false c e = absurd cc
all_of false b c e = absurd cc

none_of : (o : Option ℕ) → not (is_some o) ≡ true → o ≡ None
none_of None e = refl
none_of (Some id) e = absurd cc

few_of : (n most : ℕ) → nat_le n most ≡ true → n ≤ most
few_of n most e = grind arith

-- ---- regions of a kind

module _ {T : Type 0} (id_of : T → ℕ) where
  put_get : (rs : List T) (table : FinMap nat_cmp T) (id : ℕ) → get (put_all id_of rs table) id ≡ option_or (last_with id_of rs id) (get table id)
  put_get [] table id = refl
  put_get (r ∷ rs) table id =
      put_get rs (insert table (id_of r) r) id
      ∙ (ap (option_or (last_with id_of rs id)) (put_one table (id_of r) r id) ∙ sym (or_assoc (last_with id_of rs id) (cond (eqb (id_of r) id) (Some r) None) (get table id)))

  -- what setting regions answers, as the function says it
  abbrev Says : Result (Unit {0}) RegionError → Option (FinMap nat_cmp T) → FinMap nat_cmp T → Type 0
  Says (Ok u) after new = after ≡ Some new
  Says (Err errors.Memory) after new = Unit {0}
  Says (Err error) after new = after ≡ None

  no_missing : (o : Option ℕ) → o ≡ None → not (is_some o) ≡ true
  no_missing None e = refl
  no_missing (Some id) e = absurd cc

  some_missing : (o : Option ℕ) (id : ℕ) → o ≡ Some id → not (is_some o) ≡ false
  some_missing None id e = absurd cc
  some_missing (Some k) id e = refl

  all_three : (a b c : Bool) → a ≡ true → b ≡ true → c ≡ true → (a && b && c) ≡ true
  all_three true true true x y z = refl
  all_three true true false x y z = absurd cc
  all_three true false c x y z = absurd cc
  all_three false b c x y z = absurd cc

  first_fails : (a b c : Bool) → a ≡ false → (a && b && c) ≡ false
  first_fails true b c x = absurd cc
  first_fails false b c x = refl

  second_fails : (a b c : Bool) → b ≡ false → (a && b && c) ≡ false
  second_fails true true c x = absurd cc
  second_fails true false c x = refl
  second_fails false b c x = refl

  third_fails : (a b c : Bool) → c ≡ false → (a && b && c) ≡ false
  third_fails true true true x = absurd cc
  third_fails true true false x = refl
  third_fails true false c x = refl
  third_fails false b c x = refl

  module _ (setting : ℕ) (list : List T) (old : FinMap nat_cmp T) where
    abbrev tests : Bool
    tests = nat_le setting 2 && not (is_some (missing id_of setting list old)) && nat_le (count_after id_of setting list old) region_limit

    abbrev put : FinMap nat_cmp T
    put = put_all id_of list (kept setting old)

    not_taken : tests ≡ false → set_to id_of setting list old ≡ None
    not_taken e = ap (λ (b : Bool). cond b (Some put) None) e

    sets_say : (r : Result (Unit {0}) RegionError) (new : FinMap nat_cmp T) → Sets id_of setting list old r new → Says r (set_to id_of setting list old) new
    sets_say (Ok u) new s =
        let same : new ≡ put = same_maps new put (λ id. s.3 id ∙ sym (put_get list (kept setting old) id)) in
        let b = all_three (nat_le setting 2) (not (is_some (missing id_of setting list old))) (nat_le (count_after id_of setting list old) region_limit)
        (few_is setting 2 s.0) (no_missing (missing id_of setting list old) s.1) (few_is (count_after id_of setting list old) region_limit s.2) in
        ap (λ (b : Bool). cond b (Some put) None) b ∙ ap (λ (m : FinMap nat_cmp T). Some m) (sym same)
    sets_say (Err (errors.BadSetting n)) new s =
        not_taken (first_fails (nat_le setting 2) (not (is_some (missing id_of setting list old))) (nat_le (count_after id_of setting list old) region_limit) (many_is setting 2 s.0))
    sets_say (Err (errors.NoRegion id)) new s =
        not_taken (second_fails (nat_le setting 2) (not (is_some (missing id_of setting list old))) (nat_le (count_after id_of setting list old) region_limit) (some_missing (missing id_of setting list old) id s.1))
    sets_say (Err (errors.TooMany n)) new s =
        let lt = s.2 in
        let is = s.3 in
        not_taken (third_fails (nat_le setting 2) (not (is_some (missing id_of setting list old))) (nat_le (count_after id_of setting list old) region_limit) (many_is (count_after id_of setting list old) region_limit (omega (arith, lt, is))))
    sets_say (Err errors.Memory) new s = tt

  -- the kind after a setting that was taken
  set_sets : (setting : ℕ) (list : List T) (old new : FinMap nat_cmp T) → set_to id_of setting list old ≡ Some new → Sets id_of setting list old (Ok tt) new
  set_sets setting list old new e =
      let took = if_some (nat_le setting 2 && not (is_some (missing id_of setting list old)) && nat_le (count_after id_of setting list old) region_limit) (put_all id_of list (kept setting old)) new e in
      let all = all_of (nat_le setting 2) (not (is_some (missing id_of setting list old))) (nat_le (count_after id_of setting list old) region_limit) took.0 in (
        few_of setting 2 all.0,
        none_of (missing id_of setting list old) all.1,
        few_of (count_after id_of setting list old) region_limit all.2,
        λ id. ap (λ (m : FinMap nat_cmp T). get m id) (sym took.1) ∙ put_get list (kept setting old) id,
      )

-- ---- deletions

out_more : {X : Type 0} (b c : Bool) (x : Option X) → cond c None (cond b None x) ≡ cond (b || c) None x
out_more true true x = refl
out_more true false x = refl
out_more false true x = refl
out_more false false x = refl

without_get : {X : Type 0} (ids : List ℕ) (table : FinMap nat_cmp X) (id : ℕ) → get (without_each ids table) id ≡ cond (list_any (eqb id) ids) None (get table id)
without_get [] table id = refl
without_get (i ∷ ids) table id =
    without_get ids (remove table i) id
    ∙ (ap (cond (list_any (eqb id) ids) None) (get-remove nat_cmp_total table i id ∙ ap (λ (b : Bool). cond b None (get table id)) (same_test id i))
    ∙ out_more (eqb id i) (list_any (eqb id) ids) (get table id))

deleted_get : {X : Type 0} (ids : List ℕ) (table : FinMap nat_cmp X) (id : ℕ) → get (deleted ids table) id ≡ after_deletion ids table id
deleted_get [] table id = get-empty nat_cmp id
deleted_get (i ∷ ids) table id = without_get (i ∷ ids) table id

deleted_is : {X : Type 0} (ids : List ℕ) (old new : FinMap nat_cmp X) → ((id : ℕ) → get new id ≡ after_deletion ids old id) → new ≡ deleted ids old
deleted_is ids old new is = same_maps new (deleted ids old) (λ id. is id ∙ sym (deleted_get ids old id))

-- ---- the table: what it answers

-- what applying a change answers, as the function says it
abbrev pub ChangeSays : Result (Unit {0}) RegionError → Option Regions → Regions → Type 0
ChangeSays (Ok u) after new = after ≡ Some new
ChangeSays (Err errors.Memory) after new = Unit {0}
ChangeSays (Err error) after new = after ≡ None

lifted : {T : Type 0} (id_of : T → ℕ) (into : FinMap nat_cmp T → Regions) (r : Result (Unit {0}) RegionError) (after : Option (FinMap nat_cmp T)) (kind_new : FinMap nat_cmp T) (new : Regions)
    → into kind_new ≡ new → Says id_of r after kind_new → ChangeSays r (option_map into after) new
lifted id_of into (Ok u) after kind_new new is says = ap (option_map into) says ∙ ap (λ (t : Regions). Some t) is
lifted id_of into (Err errors.Memory) after kind_new new is says = tt
lifted id_of into (Err (errors.BadSetting n)) after kind_new new is says = ap (option_map into) says
lifted id_of into (Err (errors.NoRegion id)) after kind_new new is says = ap (option_map into) says
lifted id_of into (Err (errors.TooMany n)) after kind_new new is says = ap (option_map into) says

pub change_says : (c : RegionChange) (old : Regions) (r : Result (Unit {0}) RegionError) (new : Regions) → Applies c old r new → ChangeSays r (regions_after c old) new
change_says (change.Circles setting list) old r new applies =
    let o = applies.1 in
    lifted (λ (x : Circle). x.id) (λ m. record old { circles = m }) r (set_to (λ (x : Circle). x.id) setting list old.circles) new.circles new
    (λ i. record { circles = new.circles; rectangles = sym o.0 i; polygons = sym o.1 i; routes = sym o.2 i }) (sets_say (λ (x : Circle). x.id) setting list old.circles r new.circles applies.0)
change_says (change.Rectangles setting list) old r new applies =
    let o = applies.1 in
    lifted (λ (x : Rectangle). x.id) (λ m. record old { rectangles = m }) r (set_to (λ (x : Rectangle). x.id) setting list old.rectangles) new.rectangles new
    (λ i. record { circles = sym o.0 i; rectangles = new.rectangles; polygons = sym o.1 i; routes = sym o.2 i }) (sets_say (λ (x : Rectangle). x.id) setting list old.rectangles r new.rectangles applies.0)
change_says (change.Polygon polygon) old r new applies =
    let o = applies.1 in
    lifted (λ (x : Polygon). x.id) (λ m. record old { polygons = m }) r (set_to (λ (x : Polygon). x.id) 1 (polygon ∷ []) old.polygons) new.polygons new
    (λ i. record { circles = sym o.0 i; rectangles = sym o.1 i; polygons = new.polygons; routes = sym o.2 i }) (sets_say (λ (x : Polygon). x.id) 1 (polygon ∷ []) old.polygons r new.polygons applies.0)
change_says (change.Route route) old r new applies =
    let o = applies.1 in
    lifted (λ (x : Route). x.id) (λ m. record old { routes = m }) r (set_to (λ (x : Route). x.id) 1 (route ∷ []) old.routes) new.routes new
    (λ i. record { circles = sym o.0 i; rectangles = sym o.1 i; polygons = sym o.2 i; routes = new.routes }) (sets_say (λ (x : Route). x.id) 1 (route ∷ []) old.routes r new.routes applies.0)
change_says (change.Delete k ids) old (Err e) new applies = let no : Err e ≡ Ok tt = applies.0 in absurd cc
change_says (change.Delete kind.Circle ids) old (Ok u) new applies =
    let o = applies.2 in
    let is = deleted_is ids old.circles new.circles applies.1 in
    ap (λ (t : Regions). Some t) (λ i. record { circles = sym is i; rectangles = sym o.0 i; polygons = sym o.1 i; routes = sym o.2 i })
change_says (change.Delete kind.Rectangle ids) old (Ok u) new applies =
    let o = applies.2 in
    let is = deleted_is ids old.rectangles new.rectangles applies.1 in
    ap (λ (t : Regions). Some t) (λ i. record { circles = sym o.0 i; rectangles = sym is i; polygons = sym o.1 i; routes = sym o.2 i })
change_says (change.Delete kind.Polygon ids) old (Ok u) new applies =
    let o = applies.2 in
    let is = deleted_is ids old.polygons new.polygons applies.1 in
    ap (λ (t : Regions). Some t) (λ i. record { circles = sym o.0 i; rectangles = sym o.1 i; polygons = sym is i; routes = sym o.2 i })
change_says (change.Delete kind.Route ids) old (Ok u) new applies =
    let o = applies.2 in
    let is = deleted_is ids old.routes new.routes applies.1 in
    ap (λ (t : Regions). Some t) (λ i. record { circles = sym o.0 i; rectangles = sym o.1 i; polygons = sym o.2 i; routes = sym is i })

-- ---- the table: a change that it takes, as the function says it, is applied

mapped : {X Y : Type 0} (f : X → Y) (o : Option X) (y : Y) → option_map f o ≡ Some y → (x : X) × (o ≡ Some x) × (f x ≡ y)
mapped f None y e = absurd cc
mapped f (Some x) y e = (x, refl, cc e)

own : {X : Type 0} (x y : X) → Some x ≡ Some y → x ≡ y
own x y e = cc e

pub takes : (c : RegionChange) (old new : Regions) → regions_after c old ≡ Some new → Applies c old (Ok tt) new
takes (change.Circles setting list) old new e =
    let made = mapped (λ m. record old { circles = m }) (set_to (λ (x : Circle). x.id) setting list old.circles) new e in
    subst (λ (t : Regions). Applies (change.Circles setting list) old (Ok tt) t) made.2 (set_sets (λ (x : Circle). x.id) setting list old.circles made.0 made.1, (refl, refl, refl))
takes (change.Rectangles setting list) old new e =
    let made = mapped (λ m. record old { rectangles = m }) (set_to (λ (x : Rectangle). x.id) setting list old.rectangles) new e in
    subst (λ (t : Regions). Applies (change.Rectangles setting list) old (Ok tt) t) made.2 (set_sets (λ (x : Rectangle). x.id) setting list old.rectangles made.0 made.1, (refl, refl, refl))
takes (change.Polygon polygon) old new e =
    let made = mapped (λ m. record old { polygons = m }) (set_to (λ (x : Polygon). x.id) 1 (polygon ∷ []) old.polygons) new e in
    subst (λ (t : Regions). Applies (change.Polygon polygon) old (Ok tt) t) made.2 (set_sets (λ (x : Polygon). x.id) 1 (polygon ∷ []) old.polygons made.0 made.1, (refl, refl, refl))
takes (change.Route route) old new e =
    let made = mapped (λ m. record old { routes = m }) (set_to (λ (x : Route). x.id) 1 (route ∷ []) old.routes) new e in
    subst (λ (t : Regions). Applies (change.Route route) old (Ok tt) t) made.2 (set_sets (λ (x : Route). x.id) 1 (route ∷ []) old.routes made.0 made.1, (refl, refl, refl))
takes (change.Delete kind.Circle ids) old new e =
    subst (λ (t : Regions). Applies (change.Delete kind.Circle ids) old (Ok tt) t) (own _ new e) (refl, (λ id. deleted_get ids old.circles id), (refl, refl, refl))
takes (change.Delete kind.Rectangle ids) old new e =
    subst (λ (t : Regions). Applies (change.Delete kind.Rectangle ids) old (Ok tt) t) (own _ new e) (refl, (λ id. deleted_get ids old.rectangles id), (refl, refl, refl))
takes (change.Delete kind.Polygon ids) old new e =
    subst (λ (t : Regions). Applies (change.Delete kind.Polygon ids) old (Ok tt) t) (own _ new e) (refl, (λ id. deleted_get ids old.polygons id), (refl, refl, refl))
takes (change.Delete kind.Route ids) old new e =
    subst (λ (t : Regions). Applies (change.Delete kind.Route ids) old (Ok tt) t) (own _ new e) (refl, (λ id. deleted_get ids old.routes id), (refl, refl, refl))
