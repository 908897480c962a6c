-- Tables as finite maps, and the std map that keeps one.
use Rattle.std.proofs.Common.{◌≡◌, ℕ, suc, ◌≤◌, Bool, true, false, cond, eqb, List, [], ◌∷◌, ◌++◌, length, Option, Some, None, Result, Ok, Err, refl, sym, ap, ◌∙◌, subst, arith}
use Rattle.std.specs.Prelude.{IfOk, IfSome}
use Rattle.std.specs.BTreeMap as tree
use Rattle.std.specs.Cmp.{nat_cmp_total}
use Rattle.std.specs.FinMap.{get, entries, insert, empty, from_entries, get-empty, get-insert, same_map, nat_cmp-IsAntisymmetric}
use Rattle.std.specs.List.{AllZip, All}
use Rattle.std.specs.List.Sorted.{IsStrictlySortedBy}
use Rattle.std.specs.Map.{keys_of, lookup}
use Rattle.std.specs.Option.{option_or, option_map, option_to_list}
use Rattle.std.specs.Ordering.{nat_cmp, is_eq}
use Rattle.std.proofs.lemmas.Bool.{eqb-true}
use Rattle.std.proofs.lemmas.Bool.Decides.{nat_tests}
use Rattle.std.proofs.lemmas.List.{length-map}
use Rattle.std.proofs.lemmas.List.Elements.{All-head, All-tail}
use Rattle.jt_value.proofs.FiniteMaps.{get_is, entries_are}
use Rattle.jt_params.specs.Params.{param}
use Rattle.jt_params.specs.declared.param.ParamValue.{ParamValue}
use Rattle.jt_params.specs.declared.param.Param.{Param}
use Rattle.jt_params.specs.Tables.{Table, param_of, param_at, params_of, listed, selected, last_value, Sets, IsOneTable, HaveOctets, HasOctets}

-- a clone has the same entries
pub cloned : (es fs : List (ℕ × ParamValue)) → AllZip (λ e f. (f.0 ≡ e.0) × (f.1 ≡ e.1)) es fs → fs ≡ es
cloned [] [] h = refl
cloned [] (f ∷ fs) h = absurd h
cloned (e ∷ es) [] h = absurd h
cloned (e ∷ es) (f ∷ fs) h = λ i. (h.0.0 i, h.0.1 i) ∷ cloned es fs h.1 i

-- ---- parameters that are set

at_key : (a b : ℕ) → is_eq (nat_cmp a b) ≡ eqb a b
at_key a b = grind (arith, nat_tests)

at_key_back : (a b : ℕ) → is_eq (nat_cmp b a) ≡ eqb a b
at_key_back a b = grind (arith, nat_tests)

or_none : {A : Type 0} (a : Option A) → a ≡ option_or a None
or_none None = refl
or_none (Some x) = refl

or_assoc : {A : Type 0} (a b c : Option A) → option_or (option_or a b) c ≡ option_or a (option_or b c)
or_assoc None b c = refl
or_assoc (Some x) b c = refl

-- the value that one parameter has for an id
abbrev one_value : Param → ℕ → Option ParamValue
one_value p id = cond (eqb p.id id) (Some p.value) None

chosen : {A : Type 0} (b : Bool) (x : A) (old : Option A) → cond b (Some x) old ≡ option_or (cond b (Some x) None) old
chosen true x old = refl
chosen false x old = refl

last_value-push : (ps : List Param) (p : Param) (id : ℕ) → last_value (ps ++ p ∷ []) id ≡ option_or (one_value p id) (last_value ps id)
last_value-push [] p id = or_none (one_value p id)
last_value-push (q ∷ ps) p id =
    ap (λ (o : Option ParamValue). option_or o (one_value q id)) (last_value-push ps p id) ∙ or_assoc (one_value p id) (last_value ps id) (one_value q id)

-- one more parameter is set
pub set_more : (ps : List Param) (p : Param) (value : ParamValue) (id : ℕ) (before now new : Option ParamValue)
    → value ≡ p.value → new ≡ cond (is_eq (nat_cmp p.id id)) (Some value) now → now ≡ option_or (last_value ps id) before
    → new ≡ option_or (last_value (ps ++ p ∷ []) id) before
set_more ps p value id before now new same is had =
    is ∙ ap (λ (v : ParamValue). cond (is_eq (nat_cmp p.id id)) (Some v) now) same
    ∙ ap (λ (b : Bool). cond b (Some p.value) now) (at_key p.id id) ∙ chosen (eqb p.id id) p.value now
    ∙ ap (option_or (one_value p id)) had ∙ sym (or_assoc (one_value p id) (last_value ps id) before)
    ∙ ap (λ (o : Option ParamValue). option_or o before) (sym (last_value-push ps p id))

-- what was set in a clone of a table's entries was set in the table
pub sets_of : (given ps : List Param) (table : Table) (es fs new : List (ℕ × ParamValue))
    → given ≡ ps → from_entries es ≡ table → AllZip (λ e f. (f.0 ≡ e.0) × (f.1 ≡ e.1)) es fs
    → ((id : ℕ) → lookup (tree.is_at (nat_cmp id)) new ≡ option_or (last_value given id) (lookup (tree.is_at (nat_cmp id)) fs))
    → Sets ps table (from_entries new)
sets_of given ps table es fs new same view clones set id =
    get_is new id ∙ set id
    ∙ ap (λ (l : List Param). option_or (last_value l id) (lookup (tree.is_at (nat_cmp id)) fs)) same
    ∙ ap (λ (l : List (ℕ × ParamValue)). option_or (last_value ps id) (lookup (tree.is_at (nat_cmp id)) l)) (cloned es fs clones)
    ∙ ap (option_or (last_value ps id)) (sym (get_is es id) ∙ ap (λ (t : Table). get t id) view)

-- the parameters of the entries are those of the table
pub list_is : {E : Type 0} (r : Result (List Param) E) (es : List (ℕ × ParamValue)) (table : Table)
    → IsStrictlySortedBy nat_cmp (keys_of es) → from_entries es ≡ table → IfOk r (λ ps. ps ≡ params_of es) → IfOk r (λ ps. ps ≡ listed table)
list_is (Ok ps) es table ordered view is = is ∙ ap params_of (sym (entries_are es ordered) ∙ ap entries view)
list_is (Err e) es table ordered view is = tt

pub list_short : {E : Type 0} (r : Result (List Param) E) (es : List (ℕ × ParamValue)) → length es ≤ 255 → IfOk r (λ ps. ps ≡ params_of es) → IfOk r (λ ps. length ps ≤ 255)
list_short (Ok ps) es few is = subst (λ n. n ≤ 255) (sym (ap length is ∙ length-map es (λ (pair : ℕ × ParamValue). param_of pair.0 pair.1))) few
list_short (Err e) es few is = tt

-- the parameters, set one after the other
set_each : List Param → Table → Table
set_each [] table = table
set_each (p ∷ ps) table = set_each ps (insert table p.id p.value)

sets : (ps : List Param) (table : Table) → Sets ps table (set_each ps table)
unfolding set_each
sets [] table id = refl
sets (p ∷ ps) table id = sets ps (insert table p.id p.value) id ∙ ap (option_or (last_value ps id)) (get-insert nat_cmp_total table p.id p.value id ∙ ap (λ (b : Bool). cond b (Some p.value) (get table id)) (at_key_back p.id id) ∙ chosen (eqb p.id id) p.value (get table id)) ∙ sym (or_assoc (last_value ps id) (one_value p id) (get table id))

pub one_table : IsOneTable
one_table = record {
  has = λ params before. (set_each params before, sets params before);
  one = λ params before after other h g. same_map nat_cmp_total nat_cmp-IsAntisymmetric after other (λ id. h id ∙ sym (g id));
}

-- ---- parameters that have octets

-- what holds of the parameter that a value is under an id, if there is one
abbrev FitsAt : ℕ → Option ParamValue → Type 0
FitsAt id value = IfSome (option_map (param_of id) value) param.Fits

or_fits : (id : ℕ) (a b : Option ParamValue) → FitsAt id a → FitsAt id b → FitsAt id (option_or a b)
or_fits id None b h g = g
or_fits id (Some x) b h g = h

one_fits : (p : Param) (id : ℕ) (is : Bool) → eqb p.id id ≡ is → param.Fits p → FitsAt id (cond is (Some p.value) None)
one_fits p id true e fits = subst (λ (own : ℕ). param.Fits (param_of own p.value)) (eqb-true p.id id e) fits
one_fits p id false e fits = tt

last_fits : (ps : List Param) → HaveOctets ps → (id : ℕ) → FitsAt id (last_value ps id)
last_fits [] fits id = tt
last_fits (p ∷ ps) fits id = or_fits id (last_value ps id) (one_value p id) (last_fits ps fits.1 id) (one_fits p id (eqb p.id id) refl fits.0)

pub sets_fit : (ps : List Param) (before after : Table) → Sets ps before after → HaveOctets ps → HasOctets before → HasOctets after
sets_fit ps before after sets fits has id = subst (FitsAt id) (sym (sets id)) (or_fits id (last_value ps id) (get before id) (last_fits ps fits id) (has id))

pub empty_fits : HasOctets empty
empty_fits id = subst (FitsAt id) (sym (get-empty nat_cmp id)) tt

each_fits : (whole part : List (ℕ × ParamValue)) (table : Table) → from_entries whole ≡ table → HasOctets table
    → All (λ pair. lookup (tree.is_at (nat_cmp pair.0)) whole ≡ Some pair.1) part → HaveOctets (params_of part)
each_fits whole [] table view has all = tt
each_fits whole (pair ∷ part) table view has all =
    let at : get table pair.0 ≡ Some pair.1 = ap (λ (t : Table). get t pair.0) (sym view) ∙ get_is whole pair.0 ∙ All-head (λ pair. lookup (tree.is_at (nat_cmp pair.0)) whole ≡ Some pair.1) pair part all in
    (subst (FitsAt pair.0) at (has pair.0), each_fits whole part table view has (All-tail (λ pair. lookup (tree.is_at (nat_cmp pair.0)) whole ≡ Some pair.1) pair part all))

pub list_fits : {E : Type 0} (r : Result (List Param) E) (es : List (ℕ × ParamValue)) (table : Table) → from_entries es ≡ table
    → IfOk r (λ _. All (λ pair. lookup (tree.is_at (nat_cmp pair.0)) es ≡ Some pair.1) es) → IfOk r (λ ps. ps ≡ params_of es) → HasOctets table → IfOk r HaveOctets
list_fits (Ok ps) es table view all is has = subst HaveOctets (sym is) (each_fits es es table view has all)
list_fits (Err e) es table view all is has = tt

option_fits : (o : Option Param) (ps : List Param) → IfSome o param.Fits → HaveOctets ps → HaveOctets (option_to_list o ++ ps)
option_fits None ps h g = g
option_fits (Some p) ps h g = (h, g)

option_short : (o : Option Param) (ps : List Param) (n : ℕ) → length ps ≤ n → length (option_to_list o ++ ps) ≤ suc n
option_short None ps n h = omega arith
option_short (Some p) ps n h = omega arith

pub selected_fit : (table : Table) (ids : List ℕ) → HasOctets table → HaveOctets (selected table ids)
selected_fit table [] has = tt
selected_fit table (id ∷ ids) has = option_fits (param_at table id) (selected table ids) (has id) (selected_fit table ids has)

pub selected_short : (table : Table) (ids : List ℕ) → length (selected table ids) ≤ length ids
selected_short table [] = omega arith
selected_short table (id ∷ ids) = option_short (param_at table id) (selected table ids) (length ids) (selected_short table ids)
