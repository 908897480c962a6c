-- The entries of std's map by number, seen as a finite map. For the crates that keep tables.
use Rattle.std.proofs.Common.{Ordering, Less, Equal, Greater, ◌+◌, ◌≤◌, Option, arith, ◌≡◌, ℕ, Some, Bool, true, false, cond, ◌&&◌, List, [], ◌∷◌, length, refl, sym, ap, subst, ◌∙◌}
use Rattle.std.specs.Prelude.{T}
use Rattle.std.specs.BTreeMap.{is_at}
use Rattle.std.specs.Cmp.{nat_cmp_total}
use Rattle.std.specs.FinMap.Entries.{below_all}
use Rattle.std.specs.FinMap.{get, len, entries, find, is_sorted, from_entries, from_sorted, get-from_entries, get-from_sorted, len-entries, same_map, nat_cmp-IsAntisymmetric, entries-from_sorted}
use Rattle.std.specs.List.{AllByRecursion}
use Rattle.std.specs.List.Sorted.{IsStrictlySortedBy}
use Rattle.std.specs.Map.{keys_of, lookup}
use Rattle.std.specs.Ordering.{nat_cmp, is_eq, is_lt}

-- what the map has under a number
abbrev pub under : {X : Type 0} → List (ℕ × X) → ℕ → Option X
under entries id = lookup (is_at (nat_cmp id)) entries

pub found : {X : Type 0} (es : List (ℕ × X)) (id : ℕ) → find nat_cmp id es ≡ under es id
found [] id = refl
found (e ∷ es) id = ap (cond (is_eq (nat_cmp id e.0)) (Some e.1)) (found es id)

pub get_is : {X : Type 0} (es : List (ℕ × X)) (id : ℕ) → get (from_entries {R = nat_cmp} es) id ≡ under es id
get_is es id = get-from_entries nat_cmp_total es id ∙ found es id

both : (b c : Bool) → T b → T c → T (b && c)
both true c h g = g
both false c h g = absurd h

below : {X : Type 0} (id : ℕ) (es : List (ℕ × X)) → AllByRecursion (λ key. nat_cmp id key ≡ Less) (keys_of es) → T (below_all nat_cmp id es)
below id [] h = tt
below id (e ∷ es) h = both _ _ (subst (λ order. T (is_lt order)) (sym h.0) tt) (below id es h.1)

sorted : {X : Type 0} (es : List (ℕ × X)) → IsStrictlySortedBy nat_cmp (keys_of es) → T (is_sorted nat_cmp es)
unfolding IsStrictlySortedBy
sorted [] h = tt
sorted (e ∷ es) h = both _ _ (below e.0 es h.0) (sorted es h.1)

-- in order
pub entries_are : {X : Type 0} (es : List (ℕ × X)) → IsStrictlySortedBy nat_cmp (keys_of es) → entries (from_entries {R = nat_cmp} es) ≡ es
entries_are es h =
    let is = sorted es h in
    let same = same_map nat_cmp_total nat_cmp-IsAntisymmetric (from_entries es) (from_sorted es) (λ id. get-from_entries nat_cmp_total es id ∙ sym (get-from_sorted nat_cmp es id is)) in
    ap entries same ∙ entries-from_sorted nat_cmp es is

pub len_is : {X : Type 0} (es : List (ℕ × X)) → IsStrictlySortedBy nat_cmp (keys_of es) → len (from_entries {R = nat_cmp} es) ≡ length es
len_is es h = len-entries (from_entries es) ∙ ap length (entries_are es h)

left : (a b : Bool) → T (a && b) → T a
left true b h = tt
left false b h = absurd h

right : (a b : Bool) → T (a && b) → T b
right true b h = h
right false b h = absurd h

is_less : (order : Ordering) → T (is_lt order) → order ≡ Less
is_less Less h = refl
is_less Equal h = absurd h
is_less Greater h = absurd h

above : {X : Type 0} (id : ℕ) (es : List (ℕ × X)) → T (below_all nat_cmp id es) → AllByRecursion (λ key. nat_cmp id key ≡ Less) (keys_of es)
above id [] h = tt
above id (e ∷ es) h = (is_less (nat_cmp id e.0) (left (is_lt (nat_cmp id e.0)) (below_all nat_cmp id es) h), above id es (right (is_lt (nat_cmp id e.0)) (below_all nat_cmp id es) h))

-- the keys of a map's entries rise
pub in_order : {X : Type 0} (es : List (ℕ × X)) → T (is_sorted nat_cmp es) → IsStrictlySortedBy nat_cmp (keys_of es)
unfolding IsStrictlySortedBy
in_order [] h = tt
in_order (e ∷ es) h = (above e.0 es (left (below_all nat_cmp e.0 es) (is_sorted nat_cmp es) h), in_order es (right (below_all nat_cmp e.0 es) (is_sorted nat_cmp es) h))

-- one more was put, where one may have been
pub size_more : (had : Bool) (new now before count : ℕ) → new ≡ now + cond had 0 1 → now ≤ before + count → new ≤ before + (count + 1)
size_more true new now before count is had = omega arith
size_more false new now before count is had = omega arith
