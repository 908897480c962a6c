-- What a fleet allows (this project's own). To be believed.
use Rattle.std.specs.Prelude.{◌≡◌, ℕ, Bool, false, ◌&&◌, List, Option, Some, None, IfSome, if◌then◌else◌}
use Rattle.jt_value.specs.Sameness.{same_key}
use Rattle.jt_store.specs.Tables.{IsHolder, plates, terminals}
use Rattle.std.specs.Str.{bytes_eq}
use Rattle.jt_store.specs.declared.row.Registered.{Registered}
use Rattle.jt_store.specs.Memory.{under}
use Rattle.dewfelt_fleet.specs.Names.{is_among}

-- the secret, what each phone of a vehicle is bound to, and the other plates and terminal ids
pub record FleetValue : Type 0 where
  pub secret : List ℕ
  pub bound : List (List ℕ × Registered)
  pub plates : List (List ℕ)
  pub terminals : List (List ℕ)

-- no bound plate and no bound terminal id is among the others
pub record IsApart (bound : List ℕ → Option Registered) (plates terminals : List (List ℕ)) : Type 0 where
  pub plate : (key : List ℕ) → IfSome (bound key) (λ r. is_among plates r.plate ≡ false)
  pub terminal : (key : List ℕ) → IfSome (bound key) (λ r. is_among terminals r.terminal ≡ false)

abbrev pub is_same : Registered → Registered → Bool
is_same a b = bytes_eq a.plate b.plate && bytes_eq a.terminal b.terminal

-- a phone that is bound may be registered so; another one with two names of those that are not bound
abbrev pub is_allowed_by : List (List ℕ) → List (List ℕ) → Option Registered → Registered → Bool
is_allowed_by plates terminals (Some own) r = is_same own r
is_allowed_by plates terminals None r = is_among plates r.plate && is_among terminals r.terminal

-- whether the phone with these digits may be registered so
abbrev pub is_allowed : FleetValue → List ℕ → Registered → Bool
is_allowed fleet key r = is_allowed_by fleet.plates fleet.terminals (under fleet.bound key) r

-- neither phone nor names are bound, and the names are not among the others
pub record MayBind (fleet : FleetValue) (key : List ℕ) (r : Registered) : Type 0 where
  pub phone : under fleet.bound key ≡ None
  pub plate : IsHolder plates (under fleet.bound) r.plate None
  pub terminal : IsHolder terminals (under fleet.bound) r.terminal None
  pub other_plate : is_among fleet.plates r.plate ≡ false
  pub other_terminal : is_among fleet.terminals r.terminal ≡ false

-- the phone, which was not bound, is bound to this, and else the same
pub record IsBound (old : FleetValue) (key : List ℕ) (r : Registered) (now : FleetValue) : Type 0 where
  pub may : MayBind old key r
  pub bound : (q : List ℕ) → under now.bound q ≡ (if same_key key q then Some r else under old.bound q)
  pub secret : now.secret ≡ old.secret
  pub plates : now.plates ≡ old.plates
  pub terminals : now.terminals ≡ old.terminals
