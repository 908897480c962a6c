-- What a setting of parameters answers is what the function of the rule says.
use Rattle.std.proofs.Common.{ℕ, ◌≡◌, ◌≤◌, ◌<◌, Bool, cond, eqb, List, [], ◌∷◌, Option, Some, None, sym, ap, ◌∙◌, subst, refl}
use Rattle.std.specs.FinMap.{get, insert, len}
use Rattle.std.specs.Option.{option_or}
use Rattle.std.specs.Prelude.{nat_le}
use Rattle.jt_params.specs.declared.param.Param.{Param}
use Rattle.jt_params.specs.Tables.{Table, Sets, last_value}
use Rattle.jt_regions.proofs.Changing.{few_is, many_is, or_assoc, put_one, same_maps}
use Rattle.jt_terminal_rule.specs.Tables.{params_after, set_params}

params_get : (params : List Param) (table : Table) (id : ℕ) → get (set_params params table) id ≡ option_or (last_value params id) (get table id)
params_get [] table id = refl
params_get (p ∷ params) table id =
    params_get params (insert table p.id p.value) id
    ∙ (ap (option_or (last_value params id)) (put_one table p.id p.value id) ∙ sym (or_assoc (last_value params id) (cond (eqb p.id id) (Some p.value) None) (get table id)))

pub params_set : (params : List Param) (before after : Table) → Sets params before after → after ≡ set_params params before
params_set params before after sets = same_maps after (set_params params before) (λ id. sets id ∙ sym (params_get params before id))

-- the table took the parameters
pub params_taken : (params : List Param) (before after : Table) → Sets params before after → len after ≤ 255 → params_after params before ≡ Some after
params_taken params before after sets few =
    let is = sym (params_set params before after sets) in
    subst (λ (t : Table). cond (nat_le (len t) 255) (Some t) None ≡ Some after) (sym is) (ap (λ (b : Bool). cond b (Some after) None) (few_is (len after) 255 few))

-- the table would have had too many
pub params_refused : (params : List Param) (before after : Table) → Sets params before after → 255 < len after → params_after params before ≡ None
params_refused params before after sets many =
    let is = sym (params_set params before after sets) in
    subst (λ (t : Table). cond (nat_le (len t) 255) (Some t) None ≡ None) (sym is) (ap (λ (b : Bool). cond b (Some after) None) (many_is (len after) 255 many))
