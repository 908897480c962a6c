-- Registrations that are found by their names.
use Rattle.std.proofs.Common.{◌≡◌, ℕ, List, Option, Some, None, refl, subst}
use Rattle.std.specs.Prelude.{IfNone, IsSomeAnd}
use Rattle.jt_store.specs.declared.row.Registered.{Registered}
use Rattle.jt_store.specs.Memory.{owner_of}
use Rattle.jt_store.specs.Registry.{Indexes, IsRegistry}
use Rattle.jt_store.specs.Tables.{HasName, IsHolder, IsOwner, AreNamedOnce, plates, terminals}

-- the index has the phone of each name
pub indexed : (name_of : Registered → List ℕ) (registered : List ℕ → Option Registered) (phone_of : List ℕ → Option (List ℕ)) (key name : List ℕ)
    → Indexes name_of registered phone_of → HasName name_of registered key name → phone_of name ≡ Some key
indexed name_of registered phone_of key name index has = by_case (registered key) refl has
  where
    by_case : (found : Option Registered) → registered key ≡ found → IsSomeAnd found (λ r. name_of r ≡ name) → phone_of name ≡ Some key
    by_case None e h = absurd h
    by_case (Some r) e h = subst (λ n. phone_of n ≡ Some key) h (index key r e)

once : (name_of : Registered → List ℕ) (registered : List ℕ → Option Registered) (phone_of : List ℕ → Option (List ℕ)) (key other name : List ℕ)
    → Indexes name_of registered phone_of → HasName name_of registered key name → HasName name_of registered other name → other ≡ key
once name_of registered phone_of key other name index has also =
    let one = indexed name_of registered phone_of key name index has in
    let two = indexed name_of registered phone_of other name index also in
    cc

pub named_once : (registered : List ℕ → Option Registered) (of_plate of_terminal : List ℕ → Option (List ℕ)) → IsRegistry registered of_plate of_terminal → AreNamedOnce registered
named_once registered of_plate of_terminal is = record {
  plate = λ key other name has also. once plates registered of_plate key other name is.plate has also;
  terminal = λ key other name has also. once terminals registered of_terminal key other name is.terminal has also;
  trimmed = is.trimmed;
}

-- the phone of 2019 with the digits of the holder
pub owner_is : (name_of : Registered → List ℕ) (registered : List ℕ → Option Registered) (name : List ℕ) (key : Option (List ℕ)) → IsHolder name_of registered name key → IsOwner name_of registered name (owner_of key)
owner_is name_of registered name None h = h
owner_is name_of registered name (Some key) h = (refl, h)

-- what holds where nothing was found
pub none_at : {X : Type 0} (o : Option X) (P Q : Type 0) → (P → Q) → IfNone o P → IfNone o Q
none_at None P Q f h = f h
none_at (Some x) P Q f h = tt
