-- How a registry in memory finds the phone of a name. A step definition for the proofs; no public clause cites it.
use Rattle.std.specs.Prelude.{ℕ, ◌≡◌, List, Option, Some, IfSome}
use Rattle.jt_store.specs.declared.row.Registered.{Registered}
use Rattle.jt_store.specs.Tables.{IsTrimmed, plates, terminals}

-- the phone of each registration stands under its name
abbrev pub Indexes : (Registered → List ℕ) → (List ℕ → Option Registered) → (List ℕ → Option (List ℕ)) → Type 0
Indexes name_of registered phone_of = (key : List ℕ) (r : Registered) → registered key ≡ Some r → phone_of (name_of r) ≡ Some key

pub record IsRegistry (registered : List ℕ → Option Registered) (of_plate of_terminal : List ℕ → Option (List ℕ)) : Type 0 where
  pub plate : Indexes plates registered of_plate
  pub terminal : Indexes terminals registered of_terminal
  pub trimmed : (key : List ℕ) → IfSome (registered key) (λ r. IsTrimmed r.terminal)
