-- The law of changes: what is counted, and which id is the first that is missing.
use Rattle.std.proofs.Common.{◌≡◌, ℕ, Bool, true, false, cond, List, [], ◌∷◌, ◌++◌, Some, None, refl, sym, ap, subst, ◌∙◌}
use Rattle.std.specs.FinMap.{FinMap, get, get-entries, contains_key, entries, entries_sorted, len, len-entries}
use Rattle.std.specs.Ordering.{nat_cmp}
use Rattle.std.proofs.lemmas.Map.Entries.{length-keys_of}
use Rattle.jt_value.proofs.FiniteMaps.{found, in_order}
use Rattle.jt_regions.specs.Kinds.{after_setting, count_after, first_missing, kept}
use Rattle.jt_regions.specs.Law.{AreThere, IsFirstMissing, IsToldOfChanges}
use Rattle.jt_regions.specs.Steps.{under}
use Rattle.jt_regions.proofs.Filling.{count_is}

-- what is under an id of the entries is what the map has
entry_is : {X : Type 0} (m : FinMap nat_cmp X) (id : ℕ) → under (entries m) id ≡ get m id
entry_is m id = sym (get-entries m id ∙ found (entries m) id)

counted : {T : Type 0} (id_of : T → ℕ) (setting : ℕ) (list : List T) (old new : FinMap nat_cmp T) → ((id : ℕ) → get new id ≡ after_setting id_of setting list old id) → len new ≡ count_after id_of setting list old
counted id_of setting list old new is =
    len-entries new ∙ sym (length-keys_of (entries new))
    ∙ count_is id_of (entries new) (kept setting old) list (in_order (entries new) (entries_sorted new)) (λ id. entry_is new id ∙ is id)

-- ---- the first id that is missing

first_here : {T : Type 0} (id_of : T → ℕ) (old : FinMap nat_cmp T) (r : T) (rest : List T) (id : ℕ) (b : Bool) → contains_key old (id_of r) ≡ b → (first_missing id_of old rest ≡ Some id → IsFirstMissing id_of old rest id) → cond b (first_missing id_of old rest) (Some (id_of r)) ≡ Some id → IsFirstMissing id_of old (r ∷ rest) id
first_here id_of old r rest id true has later e =
    let f = later e in
    record { front = r ∷ f.front; region = f.region; rest = f.rest; is_list = ap (λ rs. r ∷ rs) f.is_list; there = (has, f.there); is_id = f.is_id; lacks = f.lacks }
first_here id_of old r rest id false has later e =
    let same : id_of r ≡ id = cc in
    record { front = []; region = r; rest = rest; is_list = refl; there = tt; is_id = same; lacks = subst (λ key. contains_key old key ≡ false) same has }

first_is : {T : Type 0} (id_of : T → ℕ) (old : FinMap nat_cmp T) (list : List T) (id : ℕ) → first_missing id_of old list ≡ Some id → IsFirstMissing id_of old list id
first_is id_of old [] id e = absurd cc
first_is id_of old (r ∷ rest) id e = first_here id_of old r rest id (contains_key old (id_of r)) refl (first_is id_of old rest id) e

passed : {T : Type 0} (id_of : T → ℕ) (old : FinMap nat_cmp T) (front : List T) (region : T) (rest : List T) → AreThere id_of old front → contains_key old (id_of region) ≡ false → first_missing id_of old (front ++ (region ∷ rest)) ≡ Some (id_of region)
passed id_of old [] region rest there lacks = ap (λ b. cond b (first_missing id_of old rest) (Some (id_of region))) lacks
passed id_of old (r ∷ front) region rest there lacks =
    ap (λ b. cond b (first_missing id_of old (front ++ (region ∷ rest))) (Some (id_of r))) there.0 ∙ passed id_of old front region rest there.1 lacks

is_first : {T : Type 0} (id_of : T → ℕ) (old : FinMap nat_cmp T) (list : List T) (id : ℕ) → IsFirstMissing id_of old list id → first_missing id_of old list ≡ Some id
is_first id_of old list id f =
    ap (first_missing id_of old) f.is_list ∙ passed id_of old f.front f.region f.rest f.there (ap (contains_key old) f.is_id ∙ f.lacks) ∙ ap (λ key. Some key) f.is_id

none_here : {T : Type 0} (id_of : T → ℕ) (old : FinMap nat_cmp T) (r : T) (rest : List T) (b : Bool) → contains_key old (id_of r) ≡ b → (first_missing id_of old rest ≡ None → AreThere id_of old rest) → cond b (first_missing id_of old rest) (Some (id_of r)) ≡ None → AreThere id_of old (r ∷ rest)
none_here id_of old r rest true has later e = (has, later e)
none_here id_of old r rest false has later e = absurd cc

none_is : {T : Type 0} (id_of : T → ℕ) (old : FinMap nat_cmp T) (list : List T) → first_missing id_of old list ≡ None → AreThere id_of old list
none_is id_of old [] e = tt
none_is id_of old (r ∷ rest) e = none_here id_of old r rest (contains_key old (id_of r)) refl (none_is id_of old rest) e

is_none : {T : Type 0} (id_of : T → ℕ) (old : FinMap nat_cmp T) (list : List T) → AreThere id_of old list → first_missing id_of old list ≡ None
is_none id_of old [] there = refl
is_none id_of old (r ∷ rest) there = ap (λ b. cond b (first_missing id_of old rest) (Some (id_of r))) there.0 ∙ is_none id_of old rest there.1

pub told : {T : Type 0} (id_of : T → ℕ) → IsToldOfChanges id_of
told id_of = record {
  counted = counted id_of;
  first = λ old list id. (first_is id_of old list id, is_first id_of old list id);
  none = λ old list. (none_is id_of old list, is_none id_of old list);
}
