-- How a migration finds the phones with the same digits, and what its parts say. Step definitions for the proofs; no public clause cites them.
use Rattle.std.specs.Prelude.{ℕ, ◌≡◌, ◌+◌, ◌<◌, ◌⊎◌, List, [], ◌∷◌, length, Option, None, Some, Result, Ok, Err, if◌then◌else◌, option_map, slice_get}
use Rattle.std.specs.Option.{option_or}
use Rattle.jt_value.specs.Serials.{Verdict, New, Repeat, Anew}
use Rattle.jt_value.specs.declared.phone.Edition.{Edition}
use Rattle.jt_value.specs.declared.phone.Edition.TheVariants.{E2013, E2019}
use Rattle.jt_store.specs.declared.error.StoreError.{StoreError}
use Rattle.jt_store.specs.declared.error.StoreError.TheVariants.{Failed, Full, Memory}
use Rattle.jt_store.specs.declared.migrating.NewPhone.{NewPhone}
use Rattle.jt_store.specs.declared.migrating.OldPhone.{OldPhone}
use Rattle.jt_store.specs.declared.migrating.Places.{Places}
use Rattle.jt_store.specs.declared.row.Row.{Row}
use Rattle.jt_store.specs.Migrating.{IsMoved, IsVerdictOnRow, Joins, is_of, taken_in}
use Rattle.jt_store.specs.Tables.{AreRows, IsRow, MayAppend, last_of}
use Rattle.jt_store.specs.Verdicts.{row_of}

-- where the first phone of an edition with some digits stands
abbrev pub first_place : Edition → List ℕ → List OldPhone → Option ℕ
first_place edition key [] = None
first_place edition key (old ∷ more) = if is_of edition key old then Some 0 else option_map (λ n. n + 1) (first_place edition key more)

abbrev pub some_places : Option ℕ → Option ℕ → Option Places
some_places None None = None
some_places None (Some b) = Some (record { earlier = None; later = Some b })
some_places (Some a) None = Some (record { earlier = Some a; later = None })
some_places (Some a) (Some b) = Some (record { earlier = Some a; later = Some b })

-- where the phones with some digits stand
abbrev pub places_in : List OldPhone → List ℕ → Option Places
places_in old key = some_places (first_place E2013 key old) (first_place E2019 key old)

abbrev pub earlier_of : Option Places → Option ℕ
earlier_of None = None
earlier_of (Some p) = p.earlier

abbrev pub later_of : Option Places → Option ℕ
later_of None = None
later_of (Some p) = p.later

-- one place more
abbrev pub with_row_place : Option Places → Edition → ℕ → Places
with_row_place places E2013 n = record { earlier = option_or (earlier_of places) (Some n); later = later_of places }
with_row_place places E2019 n = record { earlier = earlier_of places; later = option_or (later_of places) (Some n) }

abbrev pub standing : List OldPhone → Option ℕ → Option OldPhone
standing old None = None
standing old (Some n) = slice_get old n

-- the number under which a row is taken in, or that it repeats a row
abbrev pub IsNumbered : List Row → Row → Option ℕ → Type 0
IsNumbered rows r None = (n : ℕ) × IsVerdictOnRow rows r (Repeat n)
IsNumbered rows r (Some n) = (IsVerdictOnRow rows r (New n) ⊎ IsVerdictOnRow rows r (Anew n)) × MayAppend (last_of rows) n

abbrev pub IsStored : List Row → Option ℕ → Row → Type 0
IsStored rows None r = ⊥
IsStored rows (Some n) r = IsRow rows (row_of n r.id r.body)

-- one row was taken in, or the rows are as many as the limit and one more would be taken
abbrev pub TakesIn : ℕ → List Row → List Row → Row → Result (Unit {0}) StoreError → Type 0
TakesIn limit old now r (Ok x) = (v : Verdict) × IsVerdictOnRow old r v × (now ≡ taken_in old r v) × AreRows limit now
TakesIn limit old now r (Err (Full l)) = (l ≡ limit) × (v : Verdict) × IsVerdictOnRow old r v × (limit < length (taken_in old r v))
TakesIn limit old now r (Err Failed) = ⊥
TakesIn limit old now r (Err Memory) = Unit {0}

-- the same of some rows
abbrev pub TakesAllIn : ℕ → List Row → List Row → List Row → Result (Unit {0}) StoreError → Type 0
TakesAllIn limit old now more (Ok x) = Joins old more now × AreRows limit now
TakesAllIn limit old now more (Err (Full l)) = (l ≡ limit) × (all : List Row) × Joins old more all × (limit < length all)
TakesAllIn limit old now more (Err Failed) = ⊥
TakesAllIn limit old now more (Err Memory) = Unit {0}

-- one phone was moved
abbrev pub Moves : ℕ → List ℕ → Option OldPhone → Option OldPhone → Result NewPhone StoreError → Type 0
Moves limit key earlier later (Ok new) = (new.digits ≡ key) × IsMoved earlier later new × AreRows limit new.rows
Moves limit key earlier later (Err (Full l)) = (l ≡ limit) × (new : NewPhone) × (new.digits ≡ key) × IsMoved earlier later new × (limit < length new.rows)
Moves limit key earlier later (Err Failed) = ⊥
Moves limit key earlier later (Err Memory) = Unit {0}
