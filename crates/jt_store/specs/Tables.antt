-- What a keeper holds, and what its calls say of it (this project's own). To be believed.
use Rattle.std.specs.Prelude.{ℕ, ◌≡◌, ◌≢◌, ◌+◌, ◌*◌, ◌-◌, ◌^◌, ◌<◌, ◌≤◌, ◌⊎◌, List, [], ◌∷◌, ◌++◌, length, Bool, false, Option, None, Some, Result, Ok, Err, if◌then◌else◌, IsErrOf, IfSome, IsSome, IsSomeAnd}
use Rattle.std.specs.Cmp.Lexicographic.{slice_cmp}
use Rattle.std.specs.Ordering.{is_gt, nat_cmp}
use Rattle.std.specs.declared.cmp.Ordering.TheVariants.{Less}
use Rattle.jt_value.specs.declared.phone.Phone.{Phone}
use Rattle.jt_value.specs.declared.phone.Edition.TheVariants.{E2019}
use Rattle.jt_value.specs.Sameness.{key_of, same_key}
use Rattle.jt_value.specs.Counts.{Rose}
use Rattle.jt_store.specs.declared.row.Row.{Row}
use Rattle.jt_store.specs.declared.row.Registered.{Registered}
use Rattle.jt_store.specs.declared.error.StoreError.{StoreError}
use Rattle.jt_store.specs.declared.error.StoreError.TheVariants.{Failed, Full, Memory}

-- the registration and the rows of each phone, by its twenty digits
pub record Tables : Type 0 where
  pub registered : List ℕ → Option Registered
  pub rows : List ℕ → List Row

-- a fact of what a store holds, where it tells it
abbrev pub WhereKnown : {H : Type 0} → Option H → (H → Type 0) → Type 0
WhereKnown None P = Unit {0}
WhereKnown (Some held) P = P held

-- ---- rows

abbrev pub IsRow : List Row → Row → Type 0
IsRow [] r = ⊥
IsRow (x ∷ rows) r = (x ≡ r) ⊎ IsRow rows r

abbrev pub last_from : ℕ → List Row → ℕ
last_from n [] = n
last_from n (r ∷ rows) = last_from r.number rows

-- the number of the last row
abbrev pub last_of : List Row → Option ℕ
last_of [] = None
last_of (r ∷ rows) = Some (last_from r.number rows)

-- each number is from this one on, and above those before it
abbrev pub Rises : ℕ → List Row → Type 0
Rises from [] = Unit {0}
Rises from (r ∷ rows) = (from ≤ r.number) × Rises (r.number + 1) rows

-- the rows of one phone
pub record AreRows (limit : ℕ) (rows : List Row) : Type 0 where
  pub rise : Rises 0 rows
  pub low : IfSome (last_of rows) (λ n. n < 131071 * length rows)
  pub few : length rows ≤ limit

-- the row of this number, and the only one
abbrev pub Finds : List Row → ℕ → Option Row → Type 0
Finds rows number None = (r : Row) → IsRow rows r → r.number ≢ number
Finds rows number (Some row) = IsRow rows row × (row.number ≡ number) × ((r : Row) → IsRow rows r → r.number ≡ number → r ≡ row)

-- the row of the least number from this one on
abbrev pub FindsFrom : List Row → ℕ → Option Row → Type 0
FindsFrom rows number None = (r : Row) → IsRow rows r → r.number < number
FindsFrom rows number (Some row) = IsRow rows row × (number ≤ row.number) × ((r : Row) → IsRow rows r → number ≤ r.number → row.number ≤ r.number)

-- a number that may follow the last one
abbrev pub MayAppend : Option ℕ → ℕ → Type 0
MayAppend None number = number < 65536
MayAppend (Some last) number = (last < number) × (number ≤ last + 131071)

-- one row more for this phone, and else the same
abbrev pub row_added : List ℕ → Row → Option Tables → Option Tables
row_added key row None = None
row_added key row (Some t) = Some (record { registered = t.registered; rows = λ q. t.rows q ++ (if same_key key q then row ∷ [] else []) })

-- ---- registrations

abbrev pub plates : Registered → List ℕ
plates r = r.plate

abbrev pub terminals : Registered → List ℕ
terminals r = r.terminal

-- a terminal id has no zero octet at its end
abbrev pub IsTrimmed : List ℕ → Type 0
IsTrimmed terminal = (front : List ℕ) → terminal ≡ front ++ 0 ∷ [] → ⊥

-- by these registrations the phone has this plate or terminal id
abbrev pub HasName : (Registered → List ℕ) → (List ℕ → Option Registered) → List ℕ → List ℕ → Type 0
HasName name_of registered key name = IsSomeAnd (registered key) (λ r. name_of r ≡ name)

-- the digits of the phone that has the name, or that none has it
abbrev pub IsHolder : (Registered → List ℕ) → (List ℕ → Option Registered) → List ℕ → Option (List ℕ) → Type 0
IsHolder name_of registered name None = (key : List ℕ) → HasName name_of registered key name → ⊥
IsHolder name_of registered name (Some holder) = HasName name_of registered holder name × ((key : List ℕ) → HasName name_of registered key name → key ≡ holder)

-- the phone of 2019 with these digits
abbrev pub IsOwner : (Registered → List ℕ) → (List ℕ → Option Registered) → List ℕ → Option Phone → Type 0
IsOwner name_of registered name None = IsHolder name_of registered name None
IsOwner name_of registered name (Some phone) = (phone.edition ≡ E2019) × IsHolder name_of registered name (Some (key_of phone))

-- the digits stand behind these, in the order of their octets; behind none all stand
abbrev pub IsBehind : Option (List ℕ) → List ℕ → Type 0
IsBehind None key = Unit {0}
IsBehind (Some after) key = slice_cmp nat_cmp after key ≡ Less

-- the phone of 2019 with the least digits behind these that is registered, and its registration, or that none is
abbrev pub FindsNext : (List ℕ → Option Registered) → Option (List ℕ) → Option (Phone × Registered) → Type 0
FindsNext registered after None = (key : List ℕ) → IsBehind after key → registered key ≡ None
FindsNext registered after (Some one) =
    (one.0.edition ≡ E2019) × IsBehind after (key_of one.0) × (registered (key_of one.0) ≡ Some one.1)
    × ((key : List ℕ) → IsBehind after key → IsSome (registered key) → is_gt (slice_cmp nat_cmp (key_of one.0) key) ≡ false)

-- no other phone has the plate or the terminal id
pub record MayRegister (registered : List ℕ → Option Registered) (key : List ℕ) (r : Registered) : Type 0 where
  pub plate : (other : List ℕ) → HasName plates registered other r.plate → other ≡ key
  pub terminal : (other : List ℕ) → HasName terminals registered other r.terminal → other ≡ key

-- no two phones have one plate or one terminal id, and no terminal id ends in a zero octet
pub record AreNamedOnce (registered : List ℕ → Option Registered) : Type 0 where
  pub plate : (key other name : List ℕ) → HasName plates registered key name → HasName plates registered other name → other ≡ key
  pub terminal : (key other name : List ℕ) → HasName terminals registered key name → HasName terminals registered other name → other ≡ key
  pub trimmed : (key : List ℕ) → IfSome (registered key) (λ r. IsTrimmed r.terminal)

-- the registration of this phone, and else the same
abbrev pub registered_set : List ℕ → Option Registered → Option Tables → Option Tables
registered_set key registered None = None
registered_set key registered (Some t) = Some (record { registered = λ q. if same_key key q then registered else t.registered q; rows = t.rows })

-- ---- calls

-- the count of faults never falls, rose where the call failed, and stands still at every other answer
pub record HasCause {T : Type 0} (before now : ℕ) (result : Result T StoreError) : Type 0 where
  pub later : before ≤ now
  pub failed : IsErrOf result Failed → Rose before now
  pub still : ¬ IsErrOf result Failed → now ≡ before

-- where no call may fail this one does not, and no later one may
abbrev pub IsSteady : {T : Type 0} → Bool → Bool → Result T StoreError → Type 0
IsSteady before now result = before ≡ false → (now ≡ false) × (IsErrOf result Failed → ⊥)

-- a call that reads: what is held stays, and the answer is so where it is told
abbrev pub Reads : {H T : Type 0} → Option H → Option H → (H → T → Type 0) → Result T StoreError → Type 0
Reads old now P (Ok x) = (now ≡ old) × WhereKnown old (λ held. P held x)
Reads old now P (Err Failed) = now ≡ old
Reads old now P (Err Memory) = now ≡ old
Reads old now P (Err (Full l)) = ⊥

-- a call that writes: `next` is held, or after an error what was held
abbrev pub Writes : {H T : Type 0} → Option H → Option H → Option H → Result T StoreError → Type 0
Writes old next now (Ok x) = now ≡ next
Writes old next now (Err Failed) = now ≡ old
Writes old next now (Err Memory) = now ≡ old
Writes old next now (Err (Full l)) = ⊥

-- a call that writes where fewer than the limit are held: Full comes exactly where as many are
abbrev pub WritesWithin : {H T : Type 0} → ℕ → (H → ℕ) → Option H → Option H → Option H → Result T StoreError → Type 0
WritesWithin limit count old next now (Ok x) = (now ≡ next) × WhereKnown old (λ held. count held < limit)
WritesWithin limit count old next now (Err Failed) = now ≡ old
WritesWithin limit count old next now (Err Memory) = now ≡ old
WritesWithin limit count old next now (Err (Full l)) = (now ≡ old) × (l ≡ limit) × WhereKnown old (λ held. count held ≡ limit)

-- a call that puts a row at the end of a phone's
abbrev pub Appends : {T : Type 0} → ℕ → List ℕ → Row → Option Tables → Option Tables → Result T StoreError → Type 0
Appends limit key row old now result = WritesWithin limit (λ t. length (t.rows key)) old (row_added key row old) now result
