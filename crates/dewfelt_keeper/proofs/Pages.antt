-- Pages of registrations.
use Rattle.std.proofs.Common.{ap, sym, subst, ◌∙◌, ◌≡◌, ℕ, List, [], ◌∷◌, ◌++◌, Option, None, Some, refl}
use Rattle.jt_value.specs.declared.phone.Phone.{Phone}
use Rattle.jt_value.specs.Sameness.{key_of}
use Rattle.jt_store.specs.declared.row.Registered.{Registered}
use Rattle.jt_store.specs.Tables.{FindsNext, Tables, WhereKnown}
use Rattle.dewfelt_keeper.specs.Registries.{AddsNext, AreNext, last_behind}

module _ (registered : List ℕ → Option Registered) where
  -- one registration more at the end
  pub next_more : (after : Option (List ℕ)) (page : List (Phone × Registered)) (one : Phone × Registered) → AreNext registered after page → FindsNext registered (last_behind after page) (Some one)
      → AreNext registered after (page ++ one ∷ [])
  next_more after [] one all found = (found, tt)
  next_more after (x ∷ page) one all found = (all.0, next_more (Some (key_of x.0)) page one all.1 found)

pub last_more : (after : Option (List ℕ)) (page : List (Phone × Registered)) (one : Phone × Registered) → last_behind after (page ++ one ∷ []) ≡ Some (key_of one.0)
last_more after [] one = refl
last_more after (x ∷ page) one = last_more (Some (key_of x.0)) page one

-- a call that adds one to a page
pub page_step : (after last : Option (List ℕ)) (phone : Phone) (a b c : Option Tables) (old now : List (Phone × Registered)) → b ≡ a
    → (c ≡ b) × WhereKnown b (λ t. AddsNext t.registered last old now (Some phone))
    → WhereKnown a (λ t. AreNext t.registered after old × (last ≡ last_behind after old))
    → (c ≡ a) × WhereKnown a (λ t. AreNext t.registered after now × (Some (key_of phone) ≡ last_behind after now))
page_step after last phone a b c old now same added pages = (added.0 ∙ same, here a (subst (λ t. WhereKnown t (λ x. AddsNext x.registered last old now (Some phone))) same added.1) pages)
  where
    here : (t : Option Tables) → WhereKnown t (λ x. AddsNext x.registered last old now (Some phone)) → WhereKnown t (λ x. AreNext x.registered after old × (last ≡ last_behind after old))
        → WhereKnown t (λ x. AreNext x.registered after now × (Some (key_of phone) ≡ last_behind after now))
    here None one so_far = tt
    here (Some x) one so_far = (
      subst (AreNext x.registered after) (sym one.2)
          (next_more x.registered after old (phone, one.0) so_far.0 (subst (λ o. FindsNext x.registered o (Some (phone, one.0))) so_far.1 one.1)),
      sym (ap (last_behind after) one.2 ∙ last_more after old (phone, one.0)),
    )
