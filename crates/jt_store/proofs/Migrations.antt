-- A migration, phone by phone.
use Rattle.std.proofs.Common.{◌≡◌, ◌+◌, ℕ, Bool, true, false, List, [], ◌∷◌, ◌++◌, map, Option, None, Some, refl, sym, ap, subst, ◌∙◌, arith, get_or}
use Rattle.std.specs.Prelude.{option_map, if◌then◌else◌, ◌&&◌, IfSome, Err, All, Contains}
use Rattle.std.specs.Option.{option_or}
use Rattle.std.specs.Map.{keys_of, lookup}
use Rattle.std.specs.BTreeMap.{is_at}
use Rattle.std.specs.Ordering.{nat_cmp}
use Rattle.std.specs.Cmp.Lexicographic.{slice_cmp}
use Rattle.std.specs.List.Sorted.{IsStrictlySortedBy}
use Rattle.std.proofs.lemmas.List.{append-nil, append_assoc, map-append}
use Rattle.std.proofs.lemmas.Bool.Decides.{Decides-eqb}
use Rattle.std.proofs.lemmas.Slice.Eq.{slice_eq-Decides}
use Rattle.std.proofs.lemmas.List.Elements.{All-append, All-cons, All-contains, All-contains_itself, All-head, All-push, All-tail, Contains-append_right}
use Rattle.jt_value.specs.Sameness.{key_of, same_key}
use Rattle.jt_value.specs.declared.phone.Edition.{Edition}
use Rattle.jt_value.specs.declared.phone.Edition.TheVariants.{E2013, E2019}
use Rattle.jt_store.specs.declared.error.StoreError.{StoreError}
use Rattle.jt_store.specs.declared.error.StoreError.TheVariants.{Failed, Full, Memory}
use Rattle.jt_store.specs.declared.migrating.NewPhone.{NewPhone}
use Rattle.jt_store.specs.declared.migrating.OldPhone.{OldPhone}
use Rattle.jt_store.specs.declared.migrating.Places.{Places}
use Rattle.jt_store.specs.Memory.{under}
use Rattle.jt_store.specs.Migrating.{IsMoved, Migrated, Migrates, found, is_edition, is_of}
use Rattle.jt_store.specs.Places.{Moves, first_place, places_in, some_places, standing}
use Rattle.jt_store.specs.Tables.{AreRows}
use Rattle.jt_store.proofs.Joining.{joins_there}
use Rattle.jt_store.proofs.Pairs.{same_octets, found as looked_up}
use Rattle.jt_store.proofs.Placing.{standing_is}
use Rattle.std.specs.Str.{bytes_eq}

abbrev pub digits_of : List NewPhone → List (List ℕ)
digits_of new = map (λ (n : NewPhone). n.digits) new

abbrev pub IsMovedFrom : List OldPhone → NewPhone → Type 0
IsMovedFrom old n = IsMoved (found E2013 n.digits old) (found E2019 n.digits old) n

-- each of these entries is what its key has
abbrev pub AreFound : List (List ℕ × Places) → List (List ℕ × Places) → Type 0
AreFound entries [] = Unit {0}
AreFound entries (e ∷ rest) = (under entries e.0 ≡ Some e.1) × AreFound entries rest

-- the map has where each phone stands, in order
pub record AreGathered (old : List OldPhone) (entries : List (List ℕ × Places)) : Type 0 where
  pub places : (q : List ℕ) → under entries q ≡ places_in old q
  pub order : IsStrictlySortedBy (slice_cmp nat_cmp) (keys_of entries)

pub record IsMoving (limit : ℕ) (old : List OldPhone) (entries : List (List ℕ × Places)) (new : List NewPhone) (rest : List (List ℕ × Places)) : Type 0 where
  pub split : digits_of new ++ keys_of rest ≡ keys_of entries
  pub left : AreFound entries rest
  pub moved : All (IsMovedFrom old) new
  pub rows : All (λ (n : NewPhone). AreRows limit n.rows) new

-- ---- phones are found

pub found_has : (P : OldPhone → Type 0) (edition : Edition) (key : List ℕ) (old : List OldPhone) → All P old → IfSome (found edition key old) P
found_has P edition key [] all = tt
found_has P edition key (o ∷ more) all = by_test (is_of edition key o) (All-head P o more all) (found_has P edition key more (All-tail P o more all))
  where
    by_test : (b : Bool) → P o → IfSome (found edition key more) P → IfSome (if b then Some o else found edition key more) P
    by_test true here later = here
    by_test false here later = later

none_found : (edition : Edition) (key : List ℕ) (old : List OldPhone) → found edition key old ≡ None → first_place edition key old ≡ None
none_found edition key [] e = refl
none_found edition key (o ∷ more) e = by_test (is_of edition key o) e (none_found edition key more)
  where
    by_test : (b : Bool) → (if b then Some o else found edition key more) ≡ None → (found edition key more ≡ None → first_place edition key more ≡ None) → (if b then Some 0 else option_map (λ n. n + 1) (first_place edition key more)) ≡ None
    by_test true e later = absurd cc
    by_test false e later = ap (option_map (λ n. n + 1)) (later e)

pub places_known : (a b : Option ℕ) (p : Places) → some_places a b ≡ Some p → (p.earlier ≡ a) × (p.later ≡ b)
places_known None None p e = absurd cc
places_known None (Some y) p e = let same : record { earlier = None; later = Some y } ≡ p = cc in (sym (ap (λ (x : Places). x.earlier) same), sym (ap (λ (x : Places). x.later) same))
places_known (Some x) None p e = let same : record { earlier = Some x; later = None } ≡ p = cc in (sym (ap (λ (x : Places). x.earlier) same), sym (ap (λ (x : Places). x.later) same))
places_known (Some x) (Some y) p e = let same : record { earlier = Some x; later = Some y } ≡ p = cc in (sym (ap (λ (x : Places). x.earlier) same), sym (ap (λ (x : Places). x.later) same))

-- what stands at the places of an entry
pub entry_found : (old : List OldPhone) (entries : List (List ℕ × Places)) (key : List ℕ) (p : Places) → AreGathered old entries → under entries key ≡ Some p
    → (standing old p.earlier ≡ found E2013 key old) × (standing old p.later ≡ found E2019 key old)
entry_found old entries key p g e =
    let known = places_known (first_place E2013 key old) (first_place E2019 key old) p (sym (g.places key) ∙ e) in
    (ap (standing old) known.0 ∙ standing_is E2013 key old, ap (standing old) known.1 ∙ standing_is E2019 key old)

pub one_found : (old : List OldPhone) (entries : List (List ℕ × Places)) (key : List ℕ) (p : Places) → AreGathered old entries → under entries key ≡ Some p → found E2013 key old ≡ None → found E2019 key old ≡ None → ⊥
one_found old entries key p g e no_earlier no_later =
    let a : first_place E2013 key old ≡ None = none_found E2013 key old no_earlier in
    let b : first_place E2019 key old ≡ None = none_found E2019 key old no_later in
    let nowhere : places_in old key ≡ None = ap (λ x. some_places x (first_place E2019 key old)) a ∙ ap (some_places None) b in
    let both : Some p ≡ None = sym e ∙ g.places key ∙ nowhere in
    absurd cc

-- ---- what is left can be moved

moved_there : (key : List ℕ) (a b : Option OldPhone) → (a ≡ None → b ≡ None → ⊥) → (n : NewPhone) × (n.digits ≡ key) × IsMoved a b n
moved_there key None None some = absurd (some refl refl)
moved_there key (Some o) None some = (record { digits = key; registered = o.registered; rows = o.rows }, refl, (refl, refl))
moved_there key None (Some o) some = (record { digits = key; registered = o.registered; rows = o.rows }, refl, (refl, refl))
moved_there key (Some a) (Some b) some =
    let all = joins_there a.rows b.rows in
    (record { digits = key; registered = option_or b.registered a.registered; rows = all.0 }, refl, (refl, all.1))

as_moved : (old : List OldPhone) (key : List ℕ) (n : NewPhone) → n.digits ≡ key → IsMoved (found E2013 key old) (found E2019 key old) n → IsMovedFrom old n
as_moved old key n e is = subst (λ k. IsMoved (found E2013 k old) (found E2019 k old) n) (sym e) is

others_there : (old : List OldPhone) (entries rest : List (List ℕ × Places)) → AreGathered old entries → AreFound entries rest → (others : List NewPhone) × (digits_of others ≡ keys_of rest) × All (IsMovedFrom old) others
others_there old entries [] g are = ([], refl, λ k d lt. absurd (omega arith))
others_there old entries (e ∷ rest) g are =
    let one = moved_there e.0 (found E2013 e.0 old) (found E2019 e.0 old) (one_found old entries e.0 e.1 g are.0) in
    let more = others_there old entries rest g are.1 in
    (one.0 ∷ more.0, ap (λ k. k ∷ digits_of more.0) one.1 ∙ ap (λ ks. e.0 ∷ ks) more.1, All-cons (IsMovedFrom old) one.0 more.0 (as_moved old e.0 one.0 one.1 one.2) more.2)

-- ---- all of it

key_there : (entries : List (List ℕ × Places)) (key : List ℕ) (p : Places) → under entries key ≡ Some p → Contains (keys_of entries) key
key_there [] key p e = absurd cc
key_there (x ∷ entries) key p e = by_test (bytes_eq key x.0) refl e (key_there entries key p)
  where
    by_test : (b : Bool) → bytes_eq key x.0 ≡ b → (if b then Some x.1 else under entries key) ≡ Some p → (under entries key ≡ Some p → Contains (keys_of entries) key) → Contains (x.0 ∷ keys_of entries) key
    by_test true same e later = (0, omega arith, sym (same_octets key x.0 same))
    by_test false same e later = Contains-append_right (x.0 ∷ []) (keys_of entries) key (later e)

bytes_same : (key : List ℕ) → same_key key key ≡ true
bytes_same key = (slice_eq-Decides Decides-eqb key key (same_key key key) refl).1 refl

found_none : (edition : Edition) (key : List ℕ) (old : List OldPhone) → found edition key old ≡ None → All (λ (x : OldPhone). is_of edition key x ≡ false) old
found_none edition key [] e = λ k d lt. absurd (omega arith)
found_none edition key (o ∷ more) e = by_test (is_of edition key o) refl e (found_none edition key more)
  where
    by_test : (b : Bool) → is_of edition key o ≡ b → (if b then Some o else found edition key more) ≡ None → (found edition key more ≡ None → All (λ (x : OldPhone). is_of edition key x ≡ false) more) → All (λ (x : OldPhone). is_of edition key x ≡ false) (o ∷ more)
    by_test true is e later = absurd cc
    by_test false is e later = All-cons (λ (x : OldPhone). is_of edition key x ≡ false) o more is (later e)

-- an old phone stands somewhere
some_place : (o : OldPhone) (old : List OldPhone) → Contains old o → found o.phone.edition (key_of o.phone) old ≡ None → ⊥
some_place o old there none =
    let all = found_none o.phone.edition (key_of o.phone) old none in
    let apart : is_of o.phone.edition (key_of o.phone) o ≡ false = All-contains (λ (x : OldPhone). is_of o.phone.edition (key_of o.phone) x ≡ false) old o all there in
    own o.phone.edition apart
  where
    own : (e : Edition) → (is_edition e e && same_key (key_of o.phone) (key_of o.phone)) ≡ false → ⊥
    own E2013 h = let same = bytes_same (key_of o.phone) in absurd cc
    own E2019 h = let same = bytes_same (key_of o.phone) in absurd cc

has_entry : (old : List OldPhone) (entries : List (List ℕ × Places)) (o : OldPhone) → AreGathered old entries → Contains old o → Contains (keys_of entries) (key_of o.phone)
has_entry old entries o g there = by_places (first_place E2013 (key_of o.phone) old) (first_place E2019 (key_of o.phone) old) (g.places (key_of o.phone)) (λ e. sym (standing_is E2013 (key_of o.phone) old) ∙ ap (standing old) e) (λ e. sym (standing_is E2019 (key_of o.phone) old) ∙ ap (standing old) e)
  where
    nowhere : (e : Edition) → e ≡ o.phone.edition → found E2013 (key_of o.phone) old ≡ None → found E2019 (key_of o.phone) old ≡ None → ⊥
    nowhere E2013 is a b = some_place o old there (subst (λ x. found x (key_of o.phone) old ≡ None) is a)
    nowhere E2019 is a b = some_place o old there (subst (λ x. found x (key_of o.phone) old ≡ None) is b)

    by_places : (a b : Option ℕ) → under entries (key_of o.phone) ≡ some_places a b → (a ≡ None → found E2013 (key_of o.phone) old ≡ None) → (b ≡ None → found E2019 (key_of o.phone) old ≡ None) → Contains (keys_of entries) (key_of o.phone)
    by_places None None e no_a no_b = absurd (nowhere o.phone.edition refl (no_a refl) (no_b refl))
    by_places None (Some y) e no_a no_b = key_there entries (key_of o.phone) (record { earlier = None; later = Some y }) e
    by_places (Some x) None e no_a no_b = key_there entries (key_of o.phone) (record { earlier = Some x; later = None }) e
    by_places (Some x) (Some y) e no_a no_b = key_there entries (key_of o.phone) (record { earlier = Some x; later = Some y }) e

all_moved : (old : List OldPhone) (entries : List (List ℕ × Places)) (new : List NewPhone) → AreGathered old entries → digits_of new ≡ keys_of entries → All (IsMovedFrom old) new → Migrated old new
all_moved old entries new g e moved = record {
  order = subst (IsStrictlySortedBy (slice_cmp nat_cmp)) (sym e) g.order;
  every = λ k d lt. subst (λ ks. Contains ks (key_of (get_or old k d).phone)) (sym e) (has_entry old entries (get_or old k d) g (All-contains_itself old k d lt));
  moved = moved;
}

pub moving_ends : (limit : ℕ) (old : List OldPhone) (entries : List (List ℕ × Places)) (new : List NewPhone) → AreGathered old entries → IsMoving limit old entries new [] → Migrated old new × All (λ (n : NewPhone). AreRows limit n.rows) new
moving_ends limit old entries new g m = (all_moved old entries new g (sym (append-nil (digits_of new)) ∙ m.split) m.moved, m.rows)

are_found : (entries rest : List (List ℕ × Places)) → All (λ (e : List ℕ × Places). lookup (is_at (slice_cmp nat_cmp e.0)) entries ≡ Some e.1) rest → AreFound entries rest
are_found entries [] all = tt
are_found entries (e ∷ rest) all = (
  sym (looked_up entries e.0) ∙ All-head (λ (x : List ℕ × Places). lookup (is_at (slice_cmp nat_cmp x.0)) entries ≡ Some x.1) e rest all,
  are_found entries rest (All-tail (λ (x : List ℕ × Places). lookup (is_at (slice_cmp nat_cmp x.0)) entries ≡ Some x.1) e rest all),
)

pub moving_begins : (limit : ℕ) (old : List OldPhone) (entries rest : List (List ℕ × Places)) (new : List NewPhone) → new ≡ [] → rest ≡ entries → All (λ (e : List ℕ × Places). lookup (is_at (slice_cmp nat_cmp e.0)) entries ≡ Some e.1) entries
    → IsMoving limit old entries new rest
moving_begins limit old entries rest new none whole all =
    subst (λ xs. IsMoving limit old entries xs rest) (sym none) (subst (IsMoving limit old entries []) (sym whole)
    (record { split = refl; left = are_found entries entries all; moved = (λ k d lt. absurd (omega arith)); rows = (λ k d lt. absurd (omega arith)) }))

-- one phone more
pub moving_on : (limit : ℕ) (old : List OldPhone) (entries rest : List (List ℕ × Places)) (new : List NewPhone) (key : List ℕ) (p : Places) (n : NewPhone) → AreGathered old entries → IsMoving limit old entries new ((key, p) ∷ rest)
    → (n.digits ≡ key) × IsMoved (standing old p.earlier) (standing old p.later) n × AreRows limit n.rows → IsMoving limit old entries (new ++ n ∷ []) rest
moving_on limit old entries rest new key p n g m is =
    let at = entry_found old entries key p g m.left.0 in
    let here : IsMoved (found E2013 key old) (found E2019 key old) n = subst (λ o. IsMoved (found E2013 key old) o n) at.1 (subst (λ o. IsMoved o (standing old p.later) n) at.0 is.1) in
    record {
      split = ap (λ ks. ks ++ keys_of rest) (map-append (λ (x : NewPhone). x.digits) new (n ∷ [])) ∙ append_assoc (digits_of new) (n.digits ∷ []) (keys_of rest) ∙ ap (λ k. digits_of new ++ k ∷ keys_of rest) is.0 ∙ m.split;
      left = m.left.1;
      moved = All-push (IsMovedFrom old) new n m.moved (as_moved old key n is.0 here);
      rows = All-push (λ (x : NewPhone). AreRows limit x.rows) new n m.rows is.2;
    }

-- a phone that could not be moved
pub moving_fails : (limit : ℕ) (old : List OldPhone) (entries rest : List (List ℕ × Places)) (new : List NewPhone) (key : List ℕ) (p : Places) (e : StoreError) → AreGathered old entries → IsMoving limit old entries new ((key, p) ∷ rest)
    → Moves limit key (standing old p.earlier) (standing old p.later) (Err e) → Migrates limit old (Err e)
moving_fails limit old entries rest new key p Failed g m is = is
moving_fails limit old entries rest new key p Memory g m is = tt
moving_fails limit old entries rest new key p (Full l) g m is =
    let n = is.1 in
    let at = entry_found old entries key p g m.left.0 in
    let here : IsMoved (found E2013 key old) (found E2019 key old) n = subst (λ o. IsMoved (found E2013 key old) o n) at.1 (subst (λ o. IsMoved o (standing old p.later) n) at.0 is.3) in
    let others = others_there old entries rest g m.left.1 in
    let keys : digits_of (new ++ n ∷ others.0) ≡ keys_of entries = map-append (λ (x : NewPhone). x.digits) new (n ∷ others.0) ∙ ap (λ k. digits_of new ++ k ∷ digits_of others.0) is.2 ∙ ap (λ ks. digits_of new ++ key ∷ ks) others.1 ∙ m.split in
    let moved : All (IsMovedFrom old) (new ++ n ∷ others.0) = All-append (IsMovedFrom old) new (n ∷ others.0) m.moved (All-cons (IsMovedFrom old) n others.0 (as_moved old key n is.2 here) others.2) in
    (is.0, new ++ n ∷ others.0, all_moved old entries (new ++ n ∷ others.0) g keys moved, (n, Contains-append_right new (n ∷ others.0) n (0, omega arith, refl), is.4))
