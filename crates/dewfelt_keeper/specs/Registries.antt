-- What the calls of a registry do to its keeper's tables (this project's own). To be believed, but for AddsNext, a step for the
-- proofs.
use Rattle.std.specs.Prelude.{◌≡◌, ◌⊎◌, ◌<◌, ◌≤◌, ℕ, true, false, List, [], ◌∷◌, ◌++◌, length, Option, Some, None, IsSome}
use Rattle.jt_value.specs.declared.phone.Phone.{Phone}
use Rattle.jt_value.specs.Sameness.{key_of}
use Rattle.jt_store.specs.declared.row.Registered.{Registered}
use Rattle.jt_store.specs.Memory.{under}
use Rattle.jt_store.specs.Tables.{Tables, FindsNext, MayRegister, WhereKnown, registered_set}
use Rattle.dewfelt_fleet.specs.Fleets.{FleetValue, is_allowed}
use Rattle.dewfelt_keeper.specs.declared.registry.Forgetting.{Forgetting}
use Rattle.dewfelt_keeper.specs.declared.registry.Forgetting.TheVariants as forgetting

-- the keeper, and the fleet that says what it may have registered
pub record RegistryValue (K : Type 0) : Type 0 where
  pub keeper : K
  pub fleet : FleetValue

-- the tables without a phone's registration, unless it is bound
abbrev pub left_if : Option Registered → List ℕ → Option Tables → Option Tables
left_if (Some own) key t = t
left_if None key t = registered_set key None t

abbrev pub left_by : FleetValue → List ℕ → Option Tables → Option Tables
left_by fleet key t = left_if (under fleet.bound key) key t

-- the phone is registered so, where the fleet allows it and no other phone has one of the names; else it is left without
abbrev pub IsRegisteredOr : FleetValue → List ℕ → Registered → Tables → Tables → Type 0
IsRegisteredOr fleet key r old now =
    ((is_allowed fleet key r ≡ true) × MayRegister old.registered key r × (Some now ≡ registered_set key (Some r) (Some old)))
    ⊎ (((is_allowed fleet key r ≡ false) ⊎ ¬ MayRegister old.registered key r) × (Some now ≡ left_by fleet key (Some old)))

-- what an operator's wish to forget a phone did, where the fleet binds it to this or to nothing
abbrev pub Forgets : Option Registered → List ℕ → Option Tables → Option Tables → Forgetting → Type 0
Forgets None key old now forgetting.Done = (now ≡ registered_set key None old) × WhereKnown old (λ t. IsSome (t.registered key))
Forgets (Some own) key old now forgetting.Done = ⊥
Forgets None key old now forgetting.NotRegistered = (now ≡ old) × WhereKnown old (λ t. t.registered key ≡ None)
Forgets (Some own) key old now forgetting.NotRegistered = ⊥
Forgets (Some own) key old now forgetting.Bound = now ≡ old
Forgets None key old now forgetting.Bound = ⊥

-- registrations that follow one another behind these digits
abbrev pub AreNext : (List ℕ → Option Registered) → Option (List ℕ) → List (Phone × Registered) → Type 0
AreNext registered after [] = Unit {0}
AreNext registered after (one ∷ more) = FindsNext registered after (Some one) × AreNext registered (Some (key_of one.0)) more

-- the digits of the last phone of a page, and those before it where the page is empty
abbrev pub last_behind : Option (List ℕ) → List (Phone × Registered) → Option (List ℕ)
last_behind after [] = after
last_behind after (one ∷ more) = last_behind (Some (key_of one.0)) more

-- the registrations that follow, at most so many; a page that is shorter is the last one
pub record IsPage (registered : List ℕ → Option Registered) (after : Option (List ℕ)) (most : ℕ) (page : List (Phone × Registered)) : Type 0 where
  pub all : AreNext registered after page
  pub few : length page ≤ most
  pub last : length page < most → FindsNext registered (last_behind after page) None

-- the registration behind these digits, put at the end of a page
abbrev pub AddsNext : (List ℕ → Option Registered) → Option (List ℕ) → List (Phone × Registered) → List (Phone × Registered) → Option Phone → Type 0
AddsNext registered after old now None = FindsNext registered after None × (now ≡ old)
AddsNext registered after old now (Some phone) = (r : Registered) × FindsNext registered after (Some (phone, r)) × (now ≡ old ++ (phone, r) ∷ [])
