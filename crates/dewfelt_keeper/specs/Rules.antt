-- What a keeper under the rules of a fleet does (this project's own). To be believed.
use Rattle.std.specs.Prelude.{◌≡◌, ◌⊎◌, ◌↔◌, ℕ, Bool, false, not, List, [], ◌∷◌, ◌++◌, Option, Some, None, IfSome, IsSomeAnd, if◌then◌else◌}
use Rattle.std.specs.Str.{bytes_eq}
use Rattle.jt_value.specs.declared.phone.Phone.{Phone}
use Rattle.jt_value.specs.Sameness.{key_of}
use Rattle.jt_store.specs.declared.row.Registered.{Registered}
use Rattle.jt_store.specs.Memory.{under}
use Rattle.jt_store.specs.Tables.{Tables}
use Rattle.dewfelt_fleet.specs.Fleets.{FleetValue, is_allowed}
use Rattle.dewfelt_fleet.specs.Names.{is_among}

-- what became of tables, where they are told before and after
abbrev pub Becomes : Option Tables → Option Tables → (Tables → Tables → Type 0) → Type 0
Becomes None None R = Unit {0}
Becomes None (Some now) R = ⊥
Becomes (Some old) None R = ⊥
Becomes (Some old) (Some now) R = R old now

-- ---- a fleet that is applied

-- what stays of a phone's registration: what the fleet allows
abbrev pub kept_by : FleetValue → List ℕ → Option Registered → Option Registered
kept_by fleet key None = None
kept_by fleet key (Some r) = if is_allowed fleet key r then Some r else None

-- what a bound phone is bound to; of the others what stays
abbrev pub bound_or : Option Registered → Option Registered → Option Registered
bound_or (Some own) kept = Some own
bound_or None kept = kept

-- what a phone is registered with once the fleet is applied
abbrev pub settled_by : FleetValue → List ℕ → Option Registered → Option Registered
settled_by fleet key old = bound_or (under fleet.bound key) (kept_by fleet key old)

-- each phone is registered as the fleet says, and rows stay
pub record IsApplied (fleet : FleetValue) (old now : Tables) : Type 0 where
  pub registered : (key : List ℕ) → now.registered key ≡ settled_by fleet key (old.registered key)
  pub rows : now.rows ≡ old.rows

-- each phone is registered as before, or with what stays of that, or as the fleet says, and rows stay
pub record IsOnTheWay (fleet : FleetValue) (old now : Tables) : Type 0 where
  pub registered : (key : List ℕ) → (now.registered key ≡ old.registered key)
      ⊎ (now.registered key ≡ kept_by fleet key (old.registered key))
      ⊎ (now.registered key ≡ settled_by fleet key (old.registered key))
  pub rows : now.rows ≡ old.rows

-- whether one of these phones has these digits
abbrev pub IsListed : List Phone → List ℕ → Type 0
IsListed [] key = ⊥
IsListed (phone ∷ more) key = (key_of phone ≡ key) ⊎ IsListed more key

-- each registration of before stays, or its phone is one of these
abbrev pub AreListed : List Phone → Tables → Tables → Type 0
AreListed phones old now = (key : List ℕ) → IsListed phones key ⊎ IfSome (old.registered key) (λ r. now.registered key ≡ Some r)

-- phones stand behind those of before, or none
abbrev pub AreBehind : List Phone → List Phone → Type 0
AreBehind before now = (more : List Phone) × (now ≡ before ++ more)

-- the phone has a registration that the fleet does not allow
abbrev pub IsDropped : FleetValue → List ℕ → Option Registered → Type 0
IsDropped fleet key was = IsSomeAnd was (λ r. is_allowed fleet key r ≡ false)

-- behind those of before stand the phones whose registrations the fleet does not allow, and no others
abbrev pub AreForgotten : FleetValue → Tables → List Phone → List Phone → Type 0
AreForgotten fleet old before now =
    (more : List Phone) × (now ≡ before ++ more)
    × ((key : List ℕ) → IsListed more key ↔ IsDropped fleet key (old.registered key))

-- ---- who may have a name

-- whether the phone that asks, which is bound to this or to nothing, may not have a name, whoever has it
abbrev pub is_barred : (Registered → List ℕ) → List (List ℕ) → Option Registered → List ℕ → Bool
is_barred name_of names (Some own) name = not (bytes_eq (name_of own) name)
is_barred name_of names None name = not (is_among names name)

-- what the phone that asks is bound to
abbrev pub own_of : FleetValue → Option (List ℕ) → Option Registered
own_of fleet None = None
own_of fleet (Some key) = under fleet.bound key
