-- What is under each id of a map after a list of regions was put over it, and how many ids there are then.
use Rattle.std.proofs.Common.{◌≡◌, ℕ, suc, ◌+◌, ◌<◌, Bool, true, false, ◌||◌, ◌⊎◌, inl, inr, cond, eqb, List, [], ◌∷◌, ◌++◌, length, map, take, drop, get_or, Option, Some, None, Result, Ok, Err, is_some, refl, sym, ap, subst, ◌∙◌, arith}
use Rattle.std.specs.Prelude.{IfOk}
use Rattle.std.specs.Option.{option_or}
use Rattle.std.specs.List.{list_any, IsDistinct, AllByRecursion}
use Rattle.std.specs.List.Sorted.{IsStrictlySortedBy}
use Rattle.std.specs.Map.{keys_of}
use Rattle.std.specs.Ordering.{nat_cmp, eq_by_cmp}
use Rattle.std.specs.BTreeMap.{is_at}
use Rattle.std.specs.Set.{distinct_count, is_member}
use Rattle.std.specs.Cmp.{nat_cmp_total}
use Rattle.std.proofs.lemmas.Cmp.{eq_by_cmp_equiv}
use Rattle.std.proofs.lemmas.Bool.{ne_eqb}
use Rattle.std.proofs.lemmas.Bool.Decides.{nat_tests}
use Rattle.std.proofs.lemmas.List.{take_more, drop_more}
use Rattle.std.proofs.lemmas.List.Folds.{list_any-append}
use Rattle.std.proofs.lemmas.Map.Keys.{IsDistinct-from_sorted}
use Rattle.std.proofs.lemmas.Map.Entries.{length-keys_of}
use Rattle.std.proofs.lemmas.Map.Made.{is_some-lookup, length-from_keys}
use Rattle.std.proofs.Math.Bool.{or_comm, or-false}
use Rattle.std.proofs.lemmas.Map.Views.{exact_unsigned_eq}
use Rattle.std.specs.FinMap.{FinMap, empty, get, keys, entries, from_entries, contains_key, get-empty, contains_key-keys}
use Rattle.jt_value.proofs.FiniteMaps.{get_is, entries_are}
use Rattle.jt_regions.specs.Kinds.{last_with, kept, first_missing, after_setting, count_after, after_deletion, listed}
use Rattle.jt_regions.specs.Steps.{under, OwnIds, After}

or_over : {T : Type 0} (b : Bool) (x : Option T) (d : Option T) (r : T) → option_or (cond b (Some r) x) d ≡ cond b (Some r) (option_or x d)
or_over true x d r = refl
or_over false x d r = refl

-- the last region of a list that goes on
pub last_with-push : {T : Type 0} (id_of : T → ℕ) (rs : List T) (r : T) (id : ℕ) → last_with id_of (rs ++ r ∷ []) id ≡ cond (eqb (id_of r) id) (Some r) (last_with id_of rs id)
last_with-push id_of [] r id = refl
last_with-push id_of (x ∷ rs) r id = rw (last_with-push id_of rs r id) (or_over (eqb (id_of r) id) (last_with id_of rs id) _ r)

pub same_test : (x y : ℕ) → eq_by_cmp nat_cmp x y ≡ eqb x y
same_test x y = grind (arith, nat_tests)

pub flipped : (x y : ℕ) → eqb x y ≡ eqb y x
flipped x y = grind (arith, nat_tests)

-- one more region of the list was put over the map
pub put_more : {T : Type 0} (id_of : T → ℕ) (list : List T) (i : ℕ) (r clone : T) (key id : ℕ) (start was new : Option T) → i < length list → r ≡ get_or list i r → clone ≡ r → key ≡ id_of r → new ≡ cond (is_at (nat_cmp key) id) (Some clone) was → was ≡ option_or (last_with id_of (take i list) id) start → new ≡ option_or (last_with id_of (take (i + 1) list) id) start
put_more id_of list i r clone key id start was new lt at copied keyed puts before =
    let more : take (i + 1) list ≡ take i list ++ r ∷ [] = take_more list i r lt ∙ ap (λ x. take i list ++ x ∷ []) (sym at) in
    let test : is_at (nat_cmp key) id ≡ eqb (id_of r) id = same_test key id ∙ ap (λ k. eqb k id) keyed in
    puts ∙ ap (λ b. cond b (Some clone) was) test ∙ ap (λ x. cond (eqb (id_of r) id) (Some x) was) copied ∙ ap (cond (eqb (id_of r) id) (Some r)) before
    ∙ sym (or_over (eqb (id_of r) id) (last_with id_of (take i list) id) start r)
    ∙ ap (λ x. option_or x start) (sym (last_with-push id_of (take i list) r id))
    ∙ ap (λ x. option_or (last_with id_of x id) start) (sym more)

is_some-or : {T : Type 0} (x y : Option T) → is_some (option_or x y) ≡ (is_some x || is_some y)
is_some-or None y = refl
is_some-or (Some r) y = refl

is_some-if : {T : Type 0} (b : Bool) (r : T) → is_some (cond b (Some r) None) ≡ b
is_some-if true r = refl
is_some-if false r = refl

-- a list has a last region with an id exactly where the id is among its ids
pub is_some-last_with : {T : Type 0} (id_of : T → ℕ) (rs : List T) (id : ℕ) → is_some (last_with id_of rs id) ≡ list_any (eq_by_cmp nat_cmp id) (map id_of rs)
is_some-last_with id_of [] id = refl
is_some-last_with id_of (r ∷ rs) id =
    is_some-or (last_with id_of rs id) (cond (eqb (id_of r) id) (Some r) None)
    ∙ ap (λ b. is_some (last_with id_of rs id) || b) (is_some-if (eqb (id_of r) id) r ∙ flipped (id_of r) id ∙ sym (same_test id (id_of r)))
    ∙ ap (λ b. b || eq_by_cmp nat_cmp id (id_of r)) (is_some-last_with id_of rs id)
    ∙ or_comm (list_any (eq_by_cmp nat_cmp id) (map id_of rs)) (eq_by_cmp nat_cmp id (id_of r))

-- a map with what a list was put over has as many ids as there are different ones
pub count_is : {T : Type 0} (id_of : T → ℕ) (new : List (ℕ × T)) (start : FinMap nat_cmp T) (rs : List T) → IsStrictlySortedBy nat_cmp (keys_of new) → ((id : ℕ) → under new id ≡ option_or (last_with id_of rs id) (get start id)) → length (keys_of new) ≡ distinct_count eqb (keys start ++ map id_of rs)
count_is id_of new start rs sorted is =
    let same : eq_by_cmp nat_cmp ≡ eqb = λ i x y. same_test x y i in
    let laws = eq_by_cmp_equiv nat_cmp_total in
    let members : (q : ℕ) → is_member (eq_by_cmp nat_cmp) (keys_of new) q ≡ is_member (eq_by_cmp nat_cmp) (keys start ++ map id_of rs) q = λ q.
    sym (is_some-lookup (eq_by_cmp nat_cmp q) new)
    ∙ ap is_some (is q)
    ∙ is_some-or (last_with id_of rs q) (get start q)
    ∙ ap (λ b. b || is_some (get start q)) (is_some-last_with id_of rs q)
    ∙ ap (λ b. list_any (eq_by_cmp nat_cmp q) (map id_of rs) || b) (contains_key-keys start q)
    ∙ or_comm (list_any (eq_by_cmp nat_cmp q) (map id_of rs)) (list_any (eq_by_cmp nat_cmp q) (keys start))
    ∙ sym (list_any-append (eq_by_cmp nat_cmp q) (keys start) (map id_of rs)) in
    subst (λ e. length (keys_of new) ≡ distinct_count e (keys start ++ map id_of rs)) same (length-from_keys laws (keys_of new) (keys start ++ map id_of rs) (IsDistinct-from_sorted nat_cmp (keys_of new) sorted) members)

-- ---- the region under an id has that id

or_some : {T : Type 0} (x y : Option T) (r : T) → option_or x y ≡ Some r → (x ≡ Some r) ⊎ (y ≡ Some r)
or_some None y r e = inr e
or_some (Some s) y r e = inl e

if_some : {T : Type 0} (b : Bool) (x r : T) → cond b (Some x) None ≡ Some r → (b ≡ true) × (x ≡ r)
if_some true x r e = (refl, cc)
if_some false x r e = absurd cc

last_with_own : {T : Type 0} (id_of : T → ℕ) (rs : List T) (id : ℕ) (r : T) → last_with id_of rs id ≡ Some r → id_of r ≡ id
last_with_own id_of [] id r e = absurd cc
last_with_own id_of (x ∷ rs) id r e =
    elim (or_some (last_with id_of rs id) (cond (eqb (id_of x) id) (Some x) None) r e) [
      | inl f ↦ last_with_own id_of rs id r f
      | inr f ↦ let t = if_some (eqb (id_of x) id) x r f in ap id_of (sym t.1) ∙ exact_unsigned_eq (id_of x) id t.0
    ]

own_of : {T : Type 0} (id_of : T → ℕ) (none : Bool) (old : List (ℕ × T)) → OwnIds id_of old → (id : ℕ) (r : T) → get (cond none empty (from_entries {R = nat_cmp} old)) id ≡ Some r → id_of r ≡ id
own_of id_of true old own id r e =
    let none : None ≡ Some r = sym (get-empty nat_cmp id) ∙ e in
    absurd cc
own_of id_of false old own id r e = own id r (sym (get_is old id) ∙ e)

own_after : {T : Type 0} (id_of : T → ℕ) (setting : ℕ) (list : List T) (old new : List (ℕ × T)) → OwnIds id_of old → ((id : ℕ) → under new id ≡ after_setting id_of setting list (from_entries old) id) → OwnIds id_of new
own_after id_of setting list old new own is id r e =
    elim (or_some (last_with id_of list id) (get (kept setting (from_entries old)) id) r (sym (is id) ∙ e)) [
      | inl f ↦ last_with_own id_of list id r f
      | inr f ↦ own_of id_of (eqb setting 0) old own id r f
    ]

pub after : {T : Type 0} (id_of : T → ℕ) (setting : ℕ) (list : List T) (old start new : List (ℕ × T)) → OwnIds id_of old → ((id : ℕ) → under start id ≡ get (kept setting (from_entries old)) id) → IsStrictlySortedBy nat_cmp (keys_of new) → ((id : ℕ) → under new id ≡ option_or (last_with id_of list id) (under start id)) → After id_of setting list old new
after id_of setting list old start new own start_is sorted is =
    let regions : (id : ℕ) → under new id ≡ after_setting id_of setting list (from_entries old) id = λ id. is id ∙ ap (option_or (last_with id_of list id)) (start_is id) in
    record {
      regions = λ id. get_is new id ∙ regions id;
      count = sym (length-keys_of new) ∙ count_is id_of new (kept setting (from_entries old)) list sorted regions;
      own = own_after id_of setting list old new own regions;
    }

pub after_one : {T : Type 0} (id_of : T → ℕ) (r clone : T) (key : ℕ) (old new : List (ℕ × T)) → OwnIds id_of old → clone ≡ r → key ≡ id_of clone → IsStrictlySortedBy nat_cmp (keys_of new) → ((id : ℕ) → under new id ≡ cond (is_at (nat_cmp key) id) (Some clone) (under old id)) → After id_of 1 (r ∷ []) old new
after_one id_of r clone key old new own copied keyed sorted is =
    after id_of 1 (r ∷ []) old old new own (λ id. sym (get_is old id)) sorted (λ id. put_more id_of (r ∷ []) 0 r clone key id (under old id) (under old id) (under new id) (omega arith) refl copied (keyed ∙ ap id_of copied) (is id) refl)

-- ---- one region more

member_push : (ks : List ℕ) (k q : ℕ) → list_any (eqb q) (ks ++ k ∷ []) ≡ (list_any (eqb q) ks || eqb q k)
member_push ks k q = list_any-append (eqb q) ks (k ∷ []) ∙ ap (λ b. list_any (eqb q) ks || b) (or-false (eqb q k))

none_apart : (k : ℕ) (ks : List ℕ) → AllByRecursion (λ y. eqb k y ≡ false) ks → list_any (eqb k) ks ≡ false
none_apart k [] h = refl
none_apart k (y ∷ ks) h = ap (λ b. b || list_any (eqb k) ks) h.0 ∙ none_apart k ks h.1

more_one : (x k : ℕ) (ks : List ℕ) (same : Bool) → same ≡ eqb x k → list_any (eqb x) ks ≡ false → distinct_count eqb (ks ++ k ∷ []) ≡ length ks + cond (list_any (eqb k) ks) 0 1 → cond same (distinct_count eqb (ks ++ k ∷ [])) (suc (distinct_count eqb (ks ++ k ∷ []))) ≡ suc (length ks) + cond (same || list_any (eqb k) ks) 0 1
more_one x k ks true e none h =
    let x-is : x ≡ k = exact_unsigned_eq x k (sym e) in
    let absent : list_any (eqb k) ks ≡ false = rw x-is at none in
    let h2 = rw absent at h in omega arith
more_one x k ks false e none h = omega arith

unique_cons : (x : ℕ) (xs : List ℕ) (b : Bool) → b ≡ list_any (eqb x) xs → distinct_count eqb (x ∷ xs) ≡ cond b (distinct_count eqb xs) (suc (distinct_count eqb xs))
unique_cons x xs true e = rw (← e) refl
unique_cons x xs false e = rw (← e) refl

-- different ids, and one more
count_push : (ks : List ℕ) (k : ℕ) → IsDistinct eqb ks → distinct_count eqb (ks ++ k ∷ []) ≡ length ks + cond (list_any (eqb k) ks) 0 1
unfolding IsDistinct
count_push [] k apart = refl
count_push (x ∷ ks) k apart =
    let none = none_apart x ks apart.0 in
    unique_cons x (ks ++ k ∷ []) (eqb x k) (sym (member_push ks k x ∙ ap (λ b. b || eqb x k) none))
    ∙ more_one x k ks (eqb x k) refl none (count_push ks k apart.1)
    ∙ ap (λ b. suc (length ks) + cond (b || list_any (eqb k) ks) 0 1) (flipped x k)

pub count_one : {T : Type 0} (id_of : T → ℕ) (r : T) (old : List (ℕ × T)) → IsStrictlySortedBy nat_cmp (keys_of old) → count_after id_of 1 (r ∷ []) (from_entries old) ≡ length old + cond (is_some (under old (id_of r))) 0 1
count_one {T} id_of r old sorted =
    let same : eq_by_cmp nat_cmp ≡ eqb = λ i x y. same_test x y i in
    let apart : IsDistinct eqb (keys_of old) = subst (λ e. IsDistinct e (keys_of old)) same (IsDistinct-from_sorted nat_cmp (keys_of old) sorted) in
    let found : list_any (eqb (id_of r)) (keys_of old) ≡ is_some (under old (id_of r)) = subst (λ e. list_any (e (id_of r)) (keys_of old) ≡ is_some (under old (id_of r))) same (sym (is_some-lookup (eq_by_cmp nat_cmp (id_of r)) old)) in
    ap (λ (es : List (ℕ × T)). distinct_count eqb (keys_of es ++ id_of r ∷ [])) (entries_are old sorted)
    ∙ count_push (keys_of old) (id_of r) apart ∙ ap (λ b. length (keys_of old) + cond b 0 1) found ∙ ap (λ n. n + cond (is_some (under old (id_of r))) 0 1) (length-keys_of old)

-- ---- deletions

pub cleared : {T : Type 0} (ids : List ℕ) (new : List (ℕ × T)) (old : FinMap nat_cmp T) (id : ℕ) → length ids ≡ 0 → new ≡ [] → get (from_entries {R = nat_cmp} new) id ≡ after_deletion ids old id
cleared [] new old id none is = get_is new id ∙ ap (λ es. under es id) is
cleared (i ∷ ids) new old id none is = absurd (omega arith)

-- what was taken out of the entries was taken out of the map
pub deleted : {T : Type 0} (ids : List ℕ) (es new : List (ℕ × T)) (old : FinMap nat_cmp T) (id : ℕ) → false ≡ eqb (length ids) 0 → from_entries es ≡ old → under new id ≡ cond (list_any (eqb id) ids) None (under es id) → get (from_entries {R = nat_cmp} new) id ≡ after_deletion ids old id
deleted [] es new old id some view is = absurd cc
deleted {T} (i ∷ ids) es new old id some view is =
    get_is new id ∙ is ∙ ap (cond (list_any (eqb id) (i ∷ ids)) None) (sym (get_is es id) ∙ ap (λ (map : FinMap nat_cmp T). get map id) view)

out_more : {T : Type 0} (b c : Bool) (start : Option T) → cond c None (cond b None start) ≡ cond (b || c) None start
out_more true true start = refl
out_more true false start = refl
out_more false true start = refl
out_more false false start = refl

-- one more id was taken out
pub take_more_out : {T : Type 0} (ids : List ℕ) (i id : ℕ) (start was new : Option T) → i < length ids → new ≡ cond (is_at (nat_cmp (get_or ids i 0)) id) None was → was ≡ cond (list_any (eqb id) (take i ids)) None start → new ≡ cond (list_any (eqb id) (take (i + 1) ids)) None start
take_more_out ids i id start was new lt takes before =
    let k = get_or ids i 0 in
    let test : is_at (nat_cmp k) id ≡ eqb id k = same_test k id ∙ flipped k id in
    let more : list_any (eqb id) (take (i + 1) ids) ≡ (list_any (eqb id) (take i ids) || eqb id k) = ap (list_any (eqb id)) (take_more ids i 0 lt) ∙ member_push (take i ids) k id in
    takes ∙ ap (λ b. cond b None was) test ∙ ap (cond (eqb id k) None) before ∙ out_more (list_any (eqb id) (take i ids)) (eqb id k) start ∙ ap (λ b. cond b None start) (sym more)

-- ---- what is kept

pub kept_none : {T : Type 0} (setting : ℕ) (old : FinMap nat_cmp T) (id : ℕ) → setting ≡ 0 → None ≡ get (kept setting old) id
kept_none setting old id none = sym (ap (λ s. get (kept s old) id) none ∙ get-empty nat_cmp id)

kept_all : {T : Type 0} (setting : ℕ) (old : FinMap nat_cmp T) → (setting ≡ 0 → ⊥) → kept setting old ≡ old
kept_all setting old some = rw (ne_eqb setting 0 some) refl

-- a copy of the entries has each region
pub kept_copy : {T : Type 0} (setting : ℕ) (old new : List (ℕ × T)) (id : ℕ) → (setting ≡ 0 → ⊥) → new ≡ old → under new id ≡ get (kept setting (from_entries old)) id
kept_copy {T} setting old new id some is =
    ap (λ (es : List (ℕ × T)). under es id) is ∙ sym (get_is old id) ∙ ap (λ (map : FinMap nat_cmp T). get map id) (sym (kept_all setting (from_entries old) some))

-- ---- the first region that is missing

-- a region of the list was looked up
pub missing_at : {T : Type 0} (id_of : T → ℕ) (old : List (ℕ × T)) (list : List T) (i key : ℕ) (r : T) (has : Bool) → i < length list → r ≡ get_or list i r → key ≡ id_of r → has ≡ is_some (under old key) → first_missing id_of (from_entries old) (drop i list) ≡ cond has (first_missing id_of (from_entries old) (drop (i + 1) list)) (Some key)
missing_at {T} id_of old list i key r has lt at keyed is =
    let rest = drop (i + 1) list in
    let more : drop i list ≡ r ∷ rest = drop_more list i r lt ∙ ap (λ (x : T). x ∷ rest) (sym at) in
    let found : contains_key (from_entries {R = nat_cmp} old) (id_of r) ≡ has = ap is_some (get_is old (id_of r)) ∙ ap (λ k. is_some (under old k)) (sym keyed) ∙ sym is in
    ap (first_missing id_of (from_entries old)) more ∙ ap (λ b. cond b (first_missing id_of (from_entries old) rest) (Some (id_of r))) found ∙ ap (λ k. cond has (first_missing id_of (from_entries old) rest) (Some k)) (sym keyed)

-- ---- all regions in order

-- the regions of the entries are those of the table
pub list_is : {E T : Type 0} (r : Result (List T) E) (es : List (ℕ × T)) (table : FinMap nat_cmp T)
    → IsStrictlySortedBy nat_cmp (keys_of es) → from_entries es ≡ table → IfOk r (λ list. list ≡ map (λ entry. entry.1) es) → IfOk r (λ list. list ≡ listed table)
list_is (Ok list) es table ordered view is = is ∙ ap (map (λ entry. entry.1)) (sym (entries_are es ordered) ∙ ap entries view)
list_is (Err e) es table ordered view is = tt
