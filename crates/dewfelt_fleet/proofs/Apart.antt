-- Names that are bound, apart from those that are not.
use Rattle.std.proofs.Common.{◌≡◌, ℕ, Bool, true, false, cond, ◌||◌, List, Option, Some, None, refl, sym, ap, subst, ◌∙◌}
use Rattle.std.specs.Prelude.{IfSome, IsSomeAnd}
use Rattle.std.specs.Str.{bytes_eq}
use Rattle.std.proofs.lemmas.Slice.Eq.{bytes_eq-Decides}
use Rattle.jt_value.specs.Sameness.{same_key}
use Rattle.jt_store.specs.declared.row.Registered.{Registered}
use Rattle.jt_store.specs.Memory.{under}
use Rattle.jt_store.specs.Tables.{HasName, IsHolder, MayRegister, plates, terminals}
use Rattle.dewfelt_fleet.specs.Fleets.{FleetValue, IsApart, MayBind}
use Rattle.dewfelt_fleet.specs.Names.{is_among}

-- one vehicle more
module _ (names : List (List ℕ)) (name_of : Registered → List ℕ) (bound now : List ℕ → Option Registered) (key : List ℕ) (r : Registered) where
  bound_more : is_among names (name_of r) ≡ false → ((q : List ℕ) → now q ≡ cond (same_key key q) (Some r) (bound q))
      → ((q : List ℕ) → IfSome (bound q) (λ x. is_among names (name_of x) ≡ false)) → (q : List ℕ) → IfSome (now q) (λ x. is_among names (name_of x) ≡ false)
  bound_more here more others q = subst (λ o. IfSome o (λ x. is_among names (name_of x) ≡ false)) (sym (more q)) (by_case (same_key key q))
    where
      by_case : (b : Bool) → IfSome (cond b (Some r) (bound q)) (λ x. is_among names (name_of x) ≡ false)
      by_case true = here
      by_case false = others q

pub apart_bound : (free_plates free_terminals : List (List ℕ)) (bound now : List ℕ → Option Registered) (key : List ℕ) (r : Registered)
    → is_among free_plates r.plate ≡ false → is_among free_terminals r.terminal ≡ false → ((q : List ℕ) → now q ≡ cond (same_key key q) (Some r) (bound q))
    → IsApart bound free_plates free_terminals → IsApart now free_plates free_terminals
apart_bound free_plates free_terminals bound now key r plate terminal more apart = record {
  plate = bound_more free_plates plates bound now key r plate more apart.plate;
  terminal = bound_more free_terminals terminals bound now key r terminal more apart.terminal;
}

-- one free name more
module _ (names now : List (List ℕ)) (name_of : Registered → List ℕ) (bound : List ℕ → Option Registered) (name : List ℕ) where
  no_other : (own : Registered) → (name_of own ≡ name → ⊥) → is_among names (name_of own) ≡ false → is_among now (name_of own) ≡ (bytes_eq name (name_of own) || is_among names (name_of own))
      → is_among now (name_of own) ≡ false
  no_other own other free more = more ∙ by_case (bytes_eq name (name_of own)) refl ∙ free
    where
      by_case : (b : Bool) → bytes_eq name (name_of own) ≡ b → (b || is_among names (name_of own)) ≡ is_among names (name_of own)
      by_case true e = absurd (other (sym ((bytes_eq-Decides name (name_of own)).0 e)))
      by_case false e = refl

  free_more : ((q : List ℕ) → is_among now q ≡ (bytes_eq name q || is_among names q)) → IsHolder name_of bound name None
      → ((q : List ℕ) → IfSome (bound q) (λ x. is_among names (name_of x) ≡ false)) → (q : List ℕ) → IfSome (bound q) (λ x. is_among now (name_of x) ≡ false)
  free_more more nobody others q = by_case (bound q) refl (others q)
    where
      by_case : (own : Option Registered) → bound q ≡ own → IfSome own (λ x. is_among names (name_of x) ≡ false) → IfSome own (λ x. is_among now (name_of x) ≡ false)
      by_case None e free = tt
      by_case (Some own) e free = no_other own (λ same. nobody q (subst (λ o. IsSomeAnd o (λ x. name_of x ≡ name)) (sym e) same)) free (more (name_of own))

pub apart_plate : (free_plates now free_terminals : List (List ℕ)) (bound : List ℕ → Option Registered) (name : List ℕ)
    → ((q : List ℕ) → is_among now q ≡ (bytes_eq name q || is_among free_plates q)) → IsHolder plates bound name None
    → IsApart bound free_plates free_terminals → IsApart bound now free_terminals
apart_plate free_plates now free_terminals bound name more nobody apart = record {
  plate = free_more free_plates now plates bound name more nobody apart.plate;
  terminal = apart.terminal;
}

pub apart_terminal : (free_plates free_terminals now : List (List ℕ)) (bound : List ℕ → Option Registered) (name : List ℕ)
    → ((q : List ℕ) → is_among now q ≡ (bytes_eq name q || is_among free_terminals q)) → IsHolder terminals bound name None
    → IsApart bound free_plates free_terminals → IsApart bound free_plates now
apart_terminal free_plates free_terminals now bound name more nobody apart = record {
  plate = apart.plate;
  terminal = free_more free_terminals now terminals bound name more nobody apart.terminal;
}

-- a vehicle may be registered where nothing of it is bound
pub may_register : (fleet : FleetValue) (key : List ℕ) (r : Registered) → MayBind fleet key r → MayRegister (under fleet.bound) key r
may_register fleet key r may = record {
  plate = λ other has. absurd (may.plate other has);
  terminal = λ other has. absurd (may.terminal other has);
}
