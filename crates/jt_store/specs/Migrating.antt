-- What phones that were kept by edition and digits become when they are kept by their digits alone (this project's own). To be believed.
use Rattle.std.specs.Prelude.{ℕ, ◌≡◌, ◌<◌, ◌&&◌, List, [], ◌∷◌, ◌++◌, map, length, Bool, true, false, Option, None, Some, Result, Ok, Err, All, Contains, if◌then◌else◌}
use Rattle.std.specs.Cmp.Lexicographic.{slice_cmp}
use Rattle.std.specs.List.Sorted.{IsStrictlySortedBy}
use Rattle.std.specs.Option.{option_or}
use Rattle.std.specs.Ordering.{nat_cmp}
use Rattle.jt_value.specs.Sameness.{key_of, same_key}
use Rattle.jt_value.specs.Serials.{Verdict, New, Repeat, Anew, serial_of}
use Rattle.jt_value.specs.declared.phone.Edition.{Edition}
use Rattle.jt_value.specs.declared.phone.Edition.TheVariants.{E2013, E2019}
use Rattle.jt_store.specs.declared.error.StoreError.{StoreError}
use Rattle.jt_store.specs.declared.error.StoreError.TheVariants.{Failed, Full, Memory}
use Rattle.jt_store.specs.declared.migrating.NewPhone.{NewPhone}
use Rattle.jt_store.specs.declared.migrating.OldPhone.{OldPhone}
use Rattle.jt_store.specs.declared.row.Row.{Row}
use Rattle.jt_store.specs.Tables.{AreRows, MayAppend}
use Rattle.jt_store.specs.Verdicts.{IsVerdictOn, row_of}

-- rows whose numbers `append` takes one after another, behind this one
abbrev pub AreAppended : Option ℕ → List Row → Type 0
AreAppended last [] = Unit {0}
AreAppended last (r ∷ rows) = MayAppend last r.number × AreAppended (Some r.number) rows

-- ---- rows of both editions

-- the rows once one more was taken as a unit: New and Anew add a row of that number, Repeat adds none
abbrev pub taken_in : List Row → Row → Verdict → List Row
taken_in rows r (New n) = rows ++ row_of n r.id r.body ∷ []
taken_in rows r (Repeat n) = rows
taken_in rows r (Anew n) = rows ++ row_of n r.id r.body ∷ []

-- what a row of the later edition is to the rows so far, taken as a unit
abbrev pub IsVerdictOnRow : List Row → Row → Verdict → Type 0
IsVerdictOnRow rows r v = IsVerdictOn rows (serial_of r.number) r.id r.body v

-- all rows once some more were taken as units, in order, each over the rows so far
abbrev pub Joins : List Row → List Row → List Row → Type 0
Joins rows [] all = all ≡ rows
Joins rows (r ∷ more) all = (v : Verdict) × IsVerdictOnRow rows r v × Joins (taken_in rows r v) more all

-- ---- phones

abbrev pub is_edition : Edition → Edition → Bool
is_edition E2013 E2013 = true
is_edition E2013 E2019 = false
is_edition E2019 E2013 = false
is_edition E2019 E2019 = true

abbrev pub is_of : Edition → List ℕ → OldPhone → Bool
is_of edition key old = is_edition edition old.phone.edition && same_key (key_of old.phone) key

-- the old phone of this edition with these digits, the first if there are several
abbrev pub found : Edition → List ℕ → List OldPhone → Option OldPhone
found edition key [] = None
found edition key (old ∷ more) = if is_of edition key old then Some old else found edition key more

-- What one of the editions, or both, become: the registration is the one of 2019 if there is one, and otherwise that of 2013; the rows
-- are those of 2013, and then those of 2019 taken as units. With one edition alone the rows are the old ones.
abbrev pub IsMoved : Option OldPhone → Option OldPhone → NewPhone → Type 0
IsMoved None None new = ⊥
IsMoved (Some earlier) None new = (new.registered ≡ earlier.registered) × (new.rows ≡ earlier.rows)
IsMoved None (Some later) new = (new.registered ≡ later.registered) × (new.rows ≡ later.rows)
IsMoved (Some earlier) (Some later) new = (new.registered ≡ option_or later.registered earlier.registered) × Joins earlier.rows later.rows new.rows

-- one new phone for each twenty digits of the old ones, in the order of digits
pub record Migrated (old : List OldPhone) (new : List NewPhone) : Type 0 where
  pub order : IsStrictlySortedBy (slice_cmp nat_cmp) (map (λ (n : NewPhone). n.digits) new)
  pub every : All (λ (o : OldPhone). Contains (map (λ (n : NewPhone). n.digits) new) (key_of o.phone)) old
  pub moved : All (λ (n : NewPhone). IsMoved (found E2013 n.digits old) (found E2019 n.digits old) n) new

-- some phone has more rows than the limit
abbrev pub IsOverfull : ℕ → List NewPhone → Type 0
IsOverfull limit new = (n : NewPhone) × Contains new n × (limit < length n.rows)

-- a migration: Full comes exactly where a new phone would have more rows than the limit, and has the limit
abbrev pub Migrates : ℕ → List OldPhone → Result (List NewPhone) StoreError → Type 0
Migrates limit old (Ok new) = Migrated old new × All (λ (n : NewPhone). AreRows limit n.rows) new
Migrates limit old (Err (Full l)) = (l ≡ limit) × (new : List NewPhone) × Migrated old new × IsOverfull limit new
Migrates limit old (Err Failed) = ⊥
Migrates limit old (Err Memory) = Unit {0}
