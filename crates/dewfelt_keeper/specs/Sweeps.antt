-- How far a fleet is applied. Step definitions for the proofs; no public clause cites them.
use Rattle.std.specs.Cmp.Lexicographic.{slice_cmp}
use Rattle.std.specs.Ordering.{is_gt, is_lt, nat_cmp}
use Rattle.std.specs.Prelude.{◌≡◌, ◌⊎◌, ◌↔◌, ℕ, Bool, true, false, not, List, [], ◌∷◌, ◌++◌, Option, Some, None, IfSome, IsSome, if◌then◌else◌}
use Rattle.jt_value.specs.declared.phone.Phone.{Phone}
use Rattle.jt_value.specs.Sameness.{key_of, same_key}
use Rattle.jt_store.specs.declared.row.Registered.{Registered}
use Rattle.jt_store.specs.Memory.{under}
use Rattle.jt_store.specs.Tables.{Tables, IsBehind, FindsNext}
use Rattle.dewfelt_fleet.specs.Fleets.{FleetValue, is_allowed}
use Rattle.dewfelt_keeper.specs.Rules.{kept_by, bound_or, AreForgotten, IsDropped, IsListed}

-- whether the digits were passed, where all up to these were
abbrev pub is_done : Option (List ℕ) → List ℕ → Bool
is_done None key = false
is_done (Some last) key = not (is_lt (slice_cmp nat_cmp last key))

-- the registration of this phone, and else the same: what `registered_set` makes of tables that are told
abbrev pub with_own : List ℕ → Option Registered → Tables → Tables
with_own key own t = record { registered = λ q. if same_key key q then own else t.registered q; rows = t.rows }

-- without this registration, if the fleet does not allow it
abbrev pub left_allowed : FleetValue → List ℕ → Registered → Tables → Tables
left_allowed fleet key r t = if is_allowed fleet key r then t else with_own key None t

-- with this registration, if the one that the phone has is None
abbrev pub with_own_if : Option Registered → List ℕ → Registered → Tables → Tables
with_own_if (Some r) key own t = t
with_own_if None key own t = with_own key (Some own) t

-- with this registration, if the phone has none
abbrev pub with_own_or : List ℕ → Registered → Tables → Tables
with_own_or key own t = with_own_if (t.registered key) key own t

-- ---- registrations that the fleet does not allow

-- the phones with this one at the end, if the fleet does not allow its registration
abbrev pub listed_if : FleetValue → Phone → Registered → List Phone → List Phone
listed_if fleet phone r list = if is_allowed fleet (key_of phone) r then list else list ++ phone ∷ []

-- up to these digits they are gone, and their phones are put behind others
pub record ForgetsUpTo (fleet : FleetValue) (after : Option (List ℕ)) (before list : List Phone) (old now : Tables) : Type 0 where
  pub registered : (key : List ℕ) → now.registered key ≡ (if is_done after key then kept_by fleet key (old.registered key) else old.registered key)
  pub rows : now.rows ≡ old.rows
  pub listed : (more : List Phone) × (list ≡ before ++ more)
      × ((key : List ℕ) → IsListed more key ↔ ((is_done after key ≡ true) × IsDropped fleet key (old.registered key)))

-- the next one is gone, if it is not allowed
abbrev pub ForgetsNext : FleetValue → Option (List ℕ) → Option Phone → List Phone → List Phone → Tables → Tables → Type 0
ForgetsNext fleet after None before list old now = FindsNext old.registered after None × (now ≡ old) × (list ≡ before)
ForgetsNext fleet after (Some phone) before list old now =
    (r : Registered) × FindsNext old.registered after (Some (phone, r))
    × (now ≡ left_allowed fleet (key_of phone) r old) × (list ≡ listed_if fleet phone r before)

-- all are gone, and their phones are put behind others
pub record ForgetsAll (fleet : FleetValue) (before list : List Phone) (old now : Tables) : Type 0 where
  pub registered : (key : List ℕ) → now.registered key ≡ kept_by fleet key (old.registered key)
  pub rows : now.rows ≡ old.rows
  pub listed : AreForgotten fleet old before list

-- each phone is registered as before, or with what stays of that
pub record ForgetsSome (fleet : FleetValue) (old now : Tables) : Type 0 where
  pub registered : (key : List ℕ) → (now.registered key ≡ old.registered key) ⊎ (now.registered key ≡ kept_by fleet key (old.registered key))
  pub rows : now.rows ≡ old.rows

-- each registration stays
abbrev pub Stays : Tables → Tables → Type 0
Stays old now = (key : List ℕ) → IfSome (old.registered key) (λ r. now.registered key ≡ Some r)

-- ---- vehicles

-- each registration is allowed
abbrev pub AreAllowed : FleetValue → Tables → Type 0
AreAllowed fleet t = (key : List ℕ) → IfSome (t.registered key) (λ r. is_allowed fleet key r ≡ true)

-- up to these digits they are registered
pub record BindsUpTo (fleet : FleetValue) (after : Option (List ℕ)) (old now : Tables) : Type 0 where
  pub registered : (key : List ℕ) → now.registered key ≡ (if is_done after key then bound_or (under fleet.bound key) (old.registered key) else old.registered key)
  pub rows : now.rows ≡ old.rows

-- the next one is registered, if it is not yet
abbrev pub BindsNext : FleetValue → Option (List ℕ) → Option Phone → Tables → Tables → Type 0
BindsNext fleet after None old now = ((key : List ℕ) → IsBehind after key → under fleet.bound key ≡ None) × (now ≡ old)
BindsNext fleet after (Some phone) old now =
    (own : Registered) × IsBehind after (key_of phone) × (under fleet.bound (key_of phone) ≡ Some own)
    × ((key : List ℕ) → IsBehind after key → IsSome (under fleet.bound key) → is_gt (slice_cmp nat_cmp (key_of phone) key) ≡ false)
    × (now ≡ with_own_or (key_of phone) own old)

-- all are registered
pub record BindsAll (fleet : FleetValue) (old now : Tables) : Type 0 where
  pub registered : (key : List ℕ) → now.registered key ≡ bound_or (under fleet.bound key) (old.registered key)
  pub rows : now.rows ≡ old.rows

-- each phone is registered as before, or as a vehicle is bound
pub record BindsSome (fleet : FleetValue) (old now : Tables) : Type 0 where
  pub registered : (key : List ℕ) → (now.registered key ≡ old.registered key) ⊎ (now.registered key ≡ bound_or (under fleet.bound key) (old.registered key))
  pub rows : now.rows ≡ old.rows
