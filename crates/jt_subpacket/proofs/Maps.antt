-- The entries of std's map, seen as a finite map, and what is there once one number more is.
use Rattle.std.proofs.Common.{◌≡◌, ℕ, Bool, true, false, cond, not, eqb, ◌||◌, List, [], length, Option, Some, None, is_some, refl, sym, ap, ◌∙◌, arith, inl, inr}
use Rattle.std.specs.Cmp.{nat_cmp_total}
use Rattle.std.specs.FinMap.{get, len, insert, contains_key, from_entries, get-insert, same_map, nat_cmp-IsAntisymmetric}
use Rattle.std.specs.List.{filter, flat_map}
use Rattle.std.specs.List.Sorted.{IsStrictlySortedBy}
use Rattle.std.specs.Map.{keys_of}
use Rattle.std.specs.Option.{unwrap_or}
use Rattle.std.specs.Ordering.{nat_cmp, is_eq}
use Rattle.std.proofs.lemmas.Bool.{eqb-true, cases_Bool, cond-true, cond-false}
use Rattle.std.proofs.lemmas.Bool.Decides.{nat_tests}
use Rattle.jt_value.proofs.FiniteMaps.{under, get_is, len_is}
use Rattle.jt_subpacket.specs.declared.key.PartKey.{PartKey}
use Rattle.jt_subpacket.specs.Partials.{Partial, Pieces, numbers, missing, piece, octets_joined, with_piece}
use Rattle.jt_subpacket.specs.Steps.{has_beside, missing_beside, joined_beside}

-- ---- one piece more

at_key : (a b : ℕ) → is_eq (nat_cmp a b) ≡ eqb b a
at_key a b = grind (arith, nat_tests)

at_key_back : (a b : ℕ) → is_eq (nat_cmp a b) ≡ eqb a b
at_key_back a b = grind (arith, nat_tests)

pub get_put : (m : Pieces) (number : ℕ) (body : List ℕ) (other : ℕ) → get (insert m number body) other ≡ cond (eqb other number) (Some body) (get m other)
get_put m number body other = get-insert nat_cmp_total m number body other ∙ ap (λ (b : Bool). cond b (Some body) (get m other)) (at_key_back other number)

-- what was put into std's map was put into the pieces
pub put_is : (key : PartKey) (es new : List (ℕ × List ℕ)) (number : ℕ) (body octets : List ℕ) (p : Partial) (had : Bool)
    → octets ≡ body → ◌≡◌ {A = Partial} (record { key = key; pieces = from_entries es }) p → had ≡ contains_key p.pieces number → had ≡ false
    → ((other : ℕ) → under new other ≡ cond (is_eq (nat_cmp number other)) (Some octets) (under es other))
    → ◌≡◌ {A = Partial} (record { key = key; pieces = from_entries new }) (record { key = p.key; pieces = with_piece p.pieces number body })
put_is key es new number body octets p had same view is none puts =
    let old : ◌≡◌ {A = Pieces} (from_entries es) p.pieces = ap (λ (q : Partial). q.pieces) view in
    let at : (other : ℕ) → get (from_entries {R = nat_cmp} new) other ≡ get (insert p.pieces number body) other = λ other.
    get_is new other ∙ puts other
    ∙ ap (λ (b : Bool). cond b (Some octets) (under es other)) (at_key number other)
    ∙ ap (λ (o : List ℕ). cond (eqb other number) (Some o) (under es other)) same
    ∙ ap (cond (eqb other number) (Some body)) (sym (get_is es other) ∙ ap (λ (m : Pieces). get m other) old)
    ∙ sym (get_put p.pieces number body other) in
    let pieces : ◌≡◌ {A = Pieces} (from_entries new) (with_piece p.pieces number body) =
    same_map nat_cmp_total nat_cmp-IsAntisymmetric _ _ at ∙ sym (cond-false (contains_key p.pieces number) p.pieces (insert p.pieces number body) (sym is ∙ none)) in
    λ i. record { key = (view i).key; pieces = pieces i }

-- ---- what is there once one number more is

has_put : (had is : Bool) (body : List ℕ) (before : Option (List ℕ)) → had ≡ is_some before → is_some (cond is (Some body) before) ≡ (is || had)
has_put had true body before e = refl
has_put had false body before e = sym e

pub has_with : (m : Pieces) (number : ℕ) (body : List ℕ) (had : Bool) → contains_key m number ≡ had → (other : ℕ) → contains_key (with_piece m number body) other ≡ has_beside m number other
has_with m number body true is other =
    ap (λ (p : Pieces). contains_key p other) (cond-true (contains_key m number) m (insert m number body) is)
    ∙ elim (cases_Bool (eqb other number)) [
      | inl same ↦ ap (contains_key m) (eqb-true other number same) ∙ is ∙ ap (λ (b : Bool). b || contains_key m other) (sym same)
      | inr apart ↦ ap (λ (b : Bool). b || contains_key m other) (sym apart)
    ]
has_with m number body false is other =
    ap (λ (p : Pieces). contains_key p other) (cond-false (contains_key m number) m (insert m number body) is)
    ∙ ap is_some (get_put m number body other)
    ∙ has_put (contains_key m other) (eqb other number) body (get m other) refl

filter_same : (p q : ℕ → Bool) → ((n : ℕ) → p n ≡ q n) → (xs : List ℕ) → filter p xs ≡ filter q xs
filter_same p q same xs = ap (λ (t : ℕ → Bool). filter t xs) (λ i n. same n i)

pub missing_with : (total : ℕ) (m : Pieces) (number : ℕ) (body : List ℕ) → missing total (with_piece m number body) ≡ missing_beside total m number
missing_with total m number body = filter_same _ _ (λ other. ap not (has_with m number body (contains_key m number) refl other)) (numbers total)

piece_put : (is : Bool) (body : List ℕ) (before : Option (List ℕ)) → unwrap_or (cond is (Some body) before) [] ≡ cond is body (unwrap_or before [])
piece_put true body before = refl
piece_put false body before = refl

-- the octets of a message that this packet completes
pub joined_with : (total : ℕ) (m : Pieces) (number : ℕ) (body : List ℕ) → contains_key m number ≡ false → octets_joined total (with_piece m number body) ≡ joined_beside total m number body
joined_with total m number body none =
    ap (λ (p : Pieces). octets_joined total p) (cond-false (contains_key m number) m (insert m number body) none)
    ∙ ap (λ (f : ℕ → List ℕ). flat_map f (numbers total)) (λ i other. let same = ap (λ (o : Option (List ℕ)). unwrap_or o []) (get_put m number body other) ∙ piece_put (eqb other number) body (get m other) in same i)

-- ---- what the calls of a partial message answer

at_pieces : {A : Type 0} (f : Pieces → A) (key : PartKey) (es : List (ℕ × List ℕ)) (p : Partial) → ◌≡◌ {A = Partial} (record { key = key; pieces = from_entries es }) p → f (from_entries es) ≡ f p.pieces
at_pieces f key es p view = ap (λ (q : Partial). f q.pieces) view

pub get_in : (key : PartKey) (es : List (ℕ × List ℕ)) (p : Partial) (number : ℕ) → ◌≡◌ {A = Partial} (record { key = key; pieces = from_entries es }) p → under es number ≡ get p.pieces number
get_in key es p number view = sym (get_is es number) ∙ at_pieces (λ m. get m number) key es p view

pub has_in : (key : PartKey) (es : List (ℕ × List ℕ)) (p : Partial) (number : ℕ) → ◌≡◌ {A = Partial} (record { key = key; pieces = from_entries es }) p → is_some (under es number) ≡ contains_key p.pieces number
has_in key es p number view = ap is_some (get_in key es p number view)

pub len_in : (key : PartKey) (es : List (ℕ × List ℕ)) (p : Partial) → IsStrictlySortedBy nat_cmp (keys_of es) → ◌≡◌ {A = Partial} (record { key = key; pieces = from_entries es }) p → length es ≡ len p.pieces
len_in key es p ordered view = sym (len_is es ordered) ∙ at_pieces len key es p view

pub piece_some : (key : PartKey) (es : List (ℕ × List ℕ)) (p : Partial) (number : ℕ) (octets : List ℕ) → ◌≡◌ {A = Partial} (record { key = key; pieces = from_entries es }) p → Some octets ≡ under es number → octets ≡ piece p.pieces number
piece_some key es p number octets view there = ap (λ (o : Option (List ℕ)). unwrap_or o []) (there ∙ get_in key es p number view)

pub piece_none : (key : PartKey) (es : List (ℕ × List ℕ)) (p : Partial) (number : ℕ) → ◌≡◌ {A = Partial} (record { key = key; pieces = from_entries es }) p → None ≡ under es number → [] ≡ piece p.pieces number
piece_none key es p number view there = ap (λ (o : Option (List ℕ)). unwrap_or o []) (there ∙ get_in key es p number view)
