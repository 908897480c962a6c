-- A table of parameters that is made of the list of another one is that one.
use Rattle.std.proofs.Common.{Ordering, Less, Equal, Greater, ◌≡◌, ℕ, Bool, true, false, cond, eqb, ◌&&◌, List, [], ◌∷◌, Option, Some, None, refl, sym, ap, ◌∙◌, subst, arith}
use Rattle.std.specs.Prelude.{T}
use Rattle.std.specs.Cmp.{nat_cmp_total}
use Rattle.std.specs.FinMap.{empty, entries, entries_sorted, find, get-empty, get-entries, is_sorted, nat_cmp-IsAntisymmetric, same_map}
use Rattle.std.specs.FinMap.Entries.{below_all}
use Rattle.std.specs.Option.{option_or}
use Rattle.std.specs.Ordering.{nat_cmp, is_eq, is_lt}
use Rattle.std.proofs.lemmas.Bool.{eqb-true}
use Rattle.std.proofs.lemmas.Bool.Decides.{nat_tests}
use Rattle.jt_params.specs.declared.param.ParamValue.{ParamValue}
use Rattle.jt_params.specs.Tables.{Table, Sets, last_value, listed, params_of}

left : (a b : Bool) → T (a && b) → T a
left true b h = tt
left false b h = absurd h

right : (a b : Bool) → T (a && b) → T b
right true b h = h
right false b h = absurd h

not_equal : (order : Ordering) → T (is_lt order) → is_eq order ≡ false
not_equal Less h = refl
not_equal Equal h = absurd h
not_equal Greater h = absurd h

at_key : (a b : ℕ) → is_eq (nat_cmp b a) ≡ eqb a b
at_key a b = grind (arith, nat_tests)

or_none : {A : Type 0} (a : Option A) → option_or a None ≡ a
or_none None = refl
or_none (Some x) = refl

-- an id below those of all entries has none of them
none_below : (id : ℕ) (es : List (ℕ × ParamValue)) → T (below_all nat_cmp id es) → find nat_cmp id es ≡ None
none_below id [] h = refl
none_below id (e ∷ es) h =
    ap (λ (b : Bool). cond b (Some e.1) (find nat_cmp id es)) (not_equal (nat_cmp id e.0) (left (is_lt (nat_cmp id e.0)) (below_all nat_cmp id es) h))
    ∙ none_below id es (right (is_lt (nat_cmp id e.0)) (below_all nat_cmp id es) h)

first_or_later : (id : ℕ) (e : ℕ × ParamValue) (es : List (ℕ × ParamValue)) (b : Bool) → eqb e.0 id ≡ b → T (below_all nat_cmp e.0 es)
    → option_or (find nat_cmp id es) (cond b (Some e.1) None) ≡ cond b (Some e.1) (find nat_cmp id es)
first_or_later id e es true is below =
    ap (λ (o : Option ParamValue). option_or o (Some e.1)) (subst (λ (k : ℕ). find nat_cmp k es ≡ None) (eqb-true e.0 id is) (none_below e.0 es below))
first_or_later id e es false is below = or_none (find nat_cmp id es)

-- entries whose ids rise have one value for each id
value_listed : (es : List (ℕ × ParamValue)) (id : ℕ) → T (is_sorted nat_cmp es) → last_value (params_of es) id ≡ find nat_cmp id es
value_listed [] id h = refl
value_listed (e ∷ es) id h =
    ap (λ (o : Option ParamValue). option_or o (cond (eqb e.0 id) (Some e.1) None)) (value_listed es id (right (below_all nat_cmp e.0 es) (is_sorted nat_cmp es) h))
    ∙ (first_or_later id e es (eqb e.0 id) refl (left (below_all nat_cmp e.0 es) (is_sorted nat_cmp es) h)
    ∙ ap (λ (b : Bool). cond b (Some e.1) (find nat_cmp id es)) (sym (at_key e.0 id)))

pub copied : (table copy : Table) → Sets (listed table) empty copy → copy ≡ table
copied table copy sets =
    same_map nat_cmp_total nat_cmp-IsAntisymmetric copy table (λ id. sets id
    ∙ (ap (option_or (last_value (listed table) id)) (get-empty nat_cmp id) ∙ (or_none (last_value (listed table) id)
    ∙ (value_listed (entries table) id (entries_sorted table) ∙ sym (get-entries table id)))))
