-- What contracts see of the stores in memory (this project's own). To be believed.
use Rattle.std.specs.Prelude.{ℕ, ◌≡◌, ◌≤◌, ◌↔◌, List, Option, Some, None, Result, Bool, true, false, Contains, IsErrOf, [], ◌∷◌}
use Rattle.std.specs.Map.{lookup}
use Rattle.std.specs.Option.{unwrap_or}
use Rattle.std.specs.Str.{bytes_eq}
use Rattle.jt_value.specs.declared.limits.TheConstants.{FIX_LIMIT}
use Rattle.jt_value.specs.declared.phone.Phone.{Phone}
use Rattle.jt_value.specs.declared.phone.Edition.TheVariants.{E2019}
use Rattle.jt_store.specs.declared.calls.Calls.{Calls}
use Rattle.jt_store.specs.declared.error.StoreError.{StoreError}
use Rattle.jt_store.specs.declared.error.StoreError.TheVariants.{Failed}
use Rattle.jt_store.specs.declared.row.Registered.{Registered}
use Rattle.jt_store.specs.declared.row.Row.{Row}
use Rattle.jt_store.specs.Tables.{Tables}
use Rattle.jt_value.specs.Counts.{counted}
use Rattle.jt_store.specs.Vaults.{Held, IsWhole, formed_count, accepted_count, pending_count}

-- what a list of pairs has under some octets
abbrev pub under : {T : Type 0} → List (List ℕ × T) → List ℕ → Option T
under pairs key = lookup (bytes_eq key) pairs

-- what a keeper in memory keeps: registrations and rows by the digits of phones, the limit, and which calls fail
pub record KeeperState : Type 0 where
  pub registered : List (List ℕ × Registered)
  pub rows : List (List ℕ × List Row)
  pub limit : ℕ
  pub calls : Calls

-- the list that a list of pairs has under some octets, which is empty where there is none
abbrev pub list_under : {T : Type 0} → List (List ℕ × List T) → List ℕ → List T
list_under pairs key = unwrap_or (under pairs key) []

abbrev pub tables_of : KeeperState → Tables
tables_of kept = record { registered = under kept.registered; rows = list_under kept.rows }

-- the phone of 2019 with these digits
abbrev pub owner_of : Option (List ℕ) → Option Phone
owner_of None = None
owner_of (Some digits) = Some (record { edition = E2019; digits = digits })

-- whether some call is listed to fail
abbrev pub is_listed : List ℕ → Bool
is_listed [] = false
is_listed (n ∷ failing) = true

-- the call was counted, and it failed exactly where its number is listed
pub record InOrder {T : Type 0} (old now : Calls) (result : Result T StoreError) : Type 0 where
  pub count : now.count ≡ counted old.count
  pub failing : now.failing ≡ old.failing
  pub failed : IsErrOf result Failed ↔ Contains old.failing (counted old.count)

-- what a vault in memory keeps: what it holds, the limit, and which calls fail
pub record Stock : Type 0 where
  pub held : Held
  pub limit : ℕ
  pub calls : Calls

-- what stays true of it, with how many fixes are in units and how many are accepted
pub record IsStock (h : Held) (in_units accepted limit : ℕ) : Type 0 where
  pub limit_fits : limit ≤ FIX_LIMIT
  pub whole : IsWhole h
  pub in_units_is : in_units ≡ formed_count h
  pub accepted_is : accepted ≡ accepted_count h
  pub few : pending_count h ≤ limit
