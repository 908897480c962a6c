-- Rows taken in as units: that there always is a verdict, and how they go on.
use Rattle.std.proofs.Common.{◌≡◌, ◌<◌, ◌≤◌, ◌+◌, ◌-◌, ◌*◌, ◌⊎◌, ℕ, Bool, true, false, List, [], ◌∷◌, ◌++◌, length, Option, None, Some, inl, inr, refl, sym, ap, subst, arith, length-append}
use Rattle.std.specs.Prelude.{Err}
use Rattle.std.specs.Option.{option_or}
use Rattle.std.specs.Str.{bytes_eq}
use Rattle.std.proofs.lemmas.Bool.{cases_lt}
use Rattle.std.proofs.lemmas.Bool.Decides.{Decides-eqb}
use Rattle.std.proofs.lemmas.Slice.Eq.{slice_eq-Decides}
use Rattle.jt_store.proofs.Rising.{are_rows-push}
use Rattle.jt_value.specs.declared.placing.Place.TheVariants as places
use Rattle.jt_value.specs.Serials.{GreatestUpTo, IsFar, IsPlace, IsVerdict, LeastAbove, Verdict, New, Repeat, Anew, next_with, serial_of}
use Rattle.jt_store.specs.declared.row.Row.{Row}
use Rattle.jt_store.specs.declared.error.StoreError.{StoreError}
use Rattle.jt_store.specs.declared.error.StoreError.TheVariants.{Failed, Full, Memory}
use Rattle.jt_store.specs.declared.migrating.NewPhone.{NewPhone}
use Rattle.jt_store.specs.declared.migrating.OldPhone.{OldPhone}
use Rattle.jt_store.specs.Migrating.{AreAppended, IsMoved, IsVerdictOnRow, Joins, taken_in}
use Rattle.jt_store.specs.Places.{IsNumbered, IsStored, Moves, TakesAllIn, TakesIn}
use Rattle.jt_store.specs.Tables.{AreRows, IsRow, MayAppend, Rises, last_from, last_of}
use Rattle.jt_store.specs.Verdicts.{row_of}

-- ---- a row is there or not

same_number : (m n : ℕ) → (m ≡ n) ⊎ (m ≡ n → ⊥)
same_number m n = by_order (cases_lt m n) (cases_lt n m)
  where
    by_order : (m < n) ⊎ (n ≤ m) → (n < m) ⊎ (m ≤ n) → (m ≡ n) ⊎ (m ≡ n → ⊥)
    by_order (inl lt) q = inr (λ e. absurd (omega arith))
    by_order (inr le) (inl gt) = inr (λ e. absurd (omega arith))
    by_order (inr le) (inr ge) = inl (omega arith)

same_body : (a b : List ℕ) → (a ≡ b) ⊎ (a ≡ b → ⊥)
same_body a b = by_test (bytes_eq a b) refl
  where
    by_test : (t : Bool) → bytes_eq a b ≡ t → (a ≡ b) ⊎ (a ≡ b → ⊥)
    by_test true e = inl ((slice_eq-Decides Decides-eqb a b (bytes_eq a b) refl).0 e)
    by_test false e = inr (λ same. let yes_it : bytes_eq a b ≡ true = (slice_eq-Decides Decides-eqb a b (bytes_eq a b) refl).1 same in absurd cc)

same_row : (r s : Row) → (r ≡ s) ⊎ (r ≡ s → ⊥)
same_row r s = by_parts (same_number r.number s.number) (same_number r.id s.id) (same_body r.body s.body)
  where
    by_parts : (r.number ≡ s.number) ⊎ (r.number ≡ s.number → ⊥) → (r.id ≡ s.id) ⊎ (r.id ≡ s.id → ⊥) → (r.body ≡ s.body) ⊎ (r.body ≡ s.body → ⊥) → (r ≡ s) ⊎ (r ≡ s → ⊥)
    by_parts (inr other) q t = inr (λ e. other (ap (λ (x : Row). x.number) e))
    by_parts (inl p) (inr other) t = inr (λ e. other (ap (λ (x : Row). x.id) e))
    by_parts (inl p) (inl q) (inr other) = inr (λ e. other (ap (λ (x : Row). x.body) e))
    by_parts (inl p) (inl q) (inl t) = inl (λ i. record { number = p i; id = q i; body = t i })

neither : {P Q : Type 0} → (P → ⊥) → (Q → ⊥) → P ⊎ Q → ⊥
neither no_p no_q (inl p) = no_p p
neither no_p no_q (inr q) = no_q q

is_there : (rows : List Row) (r : Row) → IsRow rows r ⊎ (IsRow rows r → ⊥)
is_there [] r = inr (λ h. h)
is_there (x ∷ rows) r = by_parts (same_row x r) (is_there rows r)
  where
    by_parts : (x ≡ r) ⊎ (x ≡ r → ⊥) → IsRow rows r ⊎ (IsRow rows r → ⊥) → IsRow (x ∷ rows) r ⊎ (IsRow (x ∷ rows) r → ⊥)
    by_parts (inl here) q = inl (inl here)
    by_parts (inr other) (inl later) = inl (inr later)
    by_parts (inr other) (inr none) = inr (λ h. neither other none h)

-- ---- there always is a verdict

least_next : (last serial : ℕ) → serial < 65536 → LeastAbove last serial (next_with last serial)
least_next last serial small = record { above = omega arith; named = omega arith; least = λ m above named. omega arith }

greatest_one : (to serial m n : ℕ) → GreatestUpTo to serial m → GreatestUpTo to serial n → m ≡ n
greatest_one to serial m n a b =
    let up : m ≤ n = b.greatest m a.within a.named in
    let down : n ≤ m = a.greatest n b.within b.named in
    omega arith

far_next : (last serial : ℕ) → serial < 65536 → last + 32767 < next_with last serial → IsFar last serial
far_next last serial small beyond n above named =
    let least : next_with last serial ≤ n = (least_next last serial small).least n above named in
    omega arith

greatest_back : (last serial : ℕ) → serial < 65536 → 65536 ≤ next_with last serial → GreatestUpTo last serial (next_with last serial - 65536)
greatest_back last serial small high = record { within = omega arith; named = omega arith; greatest = λ m le named. omega arith }

none_back : (last serial m : ℕ) → serial < 65536 → next_with last serial < 65536 → m ≤ last → serial_of m ≡ serial → ⊥
none_back last serial m small low le named = absurd (omega arith)

-- the verdict over rows whose last number is this one
verdict_on : (Has : ℕ → Type 0) (last serial : ℕ) → serial < 65536 → ((n : ℕ) → Has n ⊎ (Has n → ⊥)) → (v : Verdict) × IsVerdict (Some last) Has serial v
verdict_on Has last serial small has = by_far (cases_lt (last + 32767) (next_with last serial))
  where
    by_row : IsFar last serial → 65536 ≤ next_with last serial → Has (next_with last serial - 65536) ⊎ (Has (next_with last serial - 65536) → ⊥) → (v : Verdict) × IsVerdict (Some last) Has serial v
    by_row far high (inl there) = (Repeat (next_with last serial - 65536), (far, greatest_back last serial small high, there))
    by_row far high (inr other) = (
      Anew (next_with (last + 65535) serial),
      (far, (λ m great h. other (subst Has (greatest_one last serial m (next_with last serial - 65536) great (greatest_back last serial small high)) h)), least_next (last + 65535) serial small),
    )

    by_back : IsFar last serial → (next_with last serial < 65536) ⊎ (65536 ≤ next_with last serial) → (v : Verdict) × IsVerdict (Some last) Has serial v
    by_back far (inl low) = (Anew (next_with (last + 65535) serial), (far, (λ m great h. none_back last serial m small low great.within great.named), least_next (last + 65535) serial small))
    by_back far (inr high) = by_row far high (has (next_with last serial - 65536))

    by_far : (last + 32767 < next_with last serial) ⊎ (next_with last serial ≤ last + 32767) → (v : Verdict) × IsVerdict (Some last) Has serial v
    by_far (inl beyond) = by_back (far_next last serial small beyond) (cases_lt (next_with last serial) 65536)
    by_far (inr near) = (New (next_with last serial), (least_next last serial small, near))

pub verdict_there : (rows : List Row) (r : Row) → (v : Verdict) × IsVerdictOnRow rows r v
verdict_there [] r = (New (serial_of r.number), refl)
verdict_there (x ∷ rows) r = verdict_on (λ n. IsRow (x ∷ rows) (row_of n r.id r.body)) (last_from x.number rows) (serial_of r.number) (omega arith) (λ n. is_there (x ∷ rows) (row_of n r.id r.body))

-- ---- how rows go on

pub joins_push : (rows front all : List Row) (r : Row) (v : Verdict) → Joins rows front all → IsVerdictOnRow all r v → Joins rows (front ++ r ∷ []) (taken_in all r v)
joins_push rows [] all r v is on = (v, subst (λ xs. IsVerdictOnRow xs r v) is on, ap (λ xs. taken_in xs r v) is)
joins_push rows (x ∷ front) all r v is on = (is.0, is.1, joins_push (taken_in rows x is.0) front all r v is.2 on)

pub joins_more : (rows front mid rest all : List Row) → Joins rows front mid → Joins mid rest all → Joins rows (front ++ rest) all
joins_more rows [] mid rest all is more = subst (λ xs. Joins xs rest all) is more
joins_more rows (x ∷ front) mid rest all is more = (is.0, is.1, joins_more (taken_in rows x is.0) front mid rest all is.2 more)

longer : (rows : List Row) (r : Row) (v : Verdict) → length rows ≤ length (taken_in rows r v)
longer rows r (New n) = let more = length-append rows (row_of n r.id r.body ∷ []) in omega arith
longer rows r (Repeat n) = omega arith
longer rows r (Anew n) = let more = length-append rows (row_of n r.id r.body ∷ []) in omega arith

-- rows can always be taken in, and none is lost
pub joins_there : (rows more : List Row) → (all : List Row) × Joins rows more all × (length rows ≤ length all)
joins_there rows [] = (rows, refl, omega arith)
joins_there rows (r ∷ more) =
    let v = verdict_there rows r in
    let rest = joins_there (taken_in rows r v.0) more in
    let one = longer rows r v.0 in
    let others = rest.2 in
    (rest.0, (v.0, v.1, rest.1), omega arith)

-- where one row more is too many, so are all
pub too_many : (limit : ℕ) (rows front mid rest : List Row) (r : Row) → Joins rows front mid → (v : Verdict) → IsVerdictOnRow mid r v → limit < length (taken_in mid r v)
    → (all : List Row) × Joins rows ((front ++ r ∷ []) ++ rest) all × (limit < length all)
too_many limit rows front mid rest r is v on over =
    let more = joins_there (taken_in mid r v) rest in
    let others = more.2 in
    (more.0, joins_more rows (front ++ r ∷ []) (taken_in mid r v) rest more.0 (joins_push rows front mid r v is on) more.1, omega arith)

-- ---- rows of old phones

rises_on : (n : ℕ) (rows : List Row) → AreAppended (Some n) rows → Rises (n + 1) rows × (last_from n rows ≤ n + 131071 * length rows)
rises_on n [] h = (tt, omega arith)
rises_on n (r ∷ rows) h = let more = rises_on r.number rows h.1 in let above = h.0.0 in let near = h.0.1 in let later = more.1 in ((omega arith, more.0), omega arith)

pub appended_rows : (limit : ℕ) (rows : List Row) → AreAppended None rows → length rows ≤ limit → AreRows limit rows
appended_rows limit [] h few = record { rise = tt; low = tt; few = few }
appended_rows limit (r ∷ rows) h few =
    let more = rises_on r.number rows h.1 in
    let first = h.0 in
    let later = more.1 in
    record { rise = (omega arith, more.0); low = omega arith; few = few }

-- a number by which a row is taken in
pub taken_rows : (limit n : ℕ) (rows : List Row) (r : Row) → AreRows limit rows → MayAppend (last_of rows) n → length rows < limit → AreRows limit (rows ++ row_of n r.id r.body ∷ [])
taken_rows limit n rows r are may room = are_rows-push limit rows (row_of n r.id r.body) are may room

-- ---- the candidate

pub repeat_there : (last : Option ℕ) (rows : List Row) (r : Row) (candidate : Option ℕ) (anew : ℕ) → last ≡ last_of rows → IsPlace last (serial_of r.number) (places.Back candidate anew) → IsStored rows candidate r
    → (n : ℕ) × IsVerdictOnRow rows r (Repeat n)
repeat_there None rows r candidate anew e is stored = absurd is
repeat_there (Some last) rows r None anew e is stored = absurd stored
repeat_there (Some last) rows r (Some n) anew e is stored = (n, subst (λ o. IsVerdict o (λ m. IsRow rows (row_of m r.id r.body)) (serial_of r.number) (Repeat n)) e (is.0, is.1, stored))

taken_as : (limit n : ℕ) (rows now : List Row) (r : Row) → AreRows limit rows → IsNumbered rows r (Some n) → length rows < limit → now ≡ rows ++ row_of n r.id r.body ∷ []
    → (v : Verdict) × IsVerdictOnRow rows r v × (now ≡ taken_in rows r v) × AreRows limit now
taken_as limit n rows now r are (inl new, may) room e = (New n, new, e, subst (AreRows limit) (sym e) (taken_rows limit n rows r are may room))
taken_as limit n rows now r are (inr anew, may) room e = (Anew n, anew, e, subst (AreRows limit) (sym e) (taken_rows limit n rows r are may room))

-- one row was taken in under its number
pub taken_one : (limit n : ℕ) (rows seen now : List Row) (r : Row) → AreRows limit rows → seen ≡ rows → IsNumbered seen r (Some n) → length rows < limit → now ≡ rows ++ row_of n r.id r.body ∷ []
    → (v : Verdict) × IsVerdictOnRow rows r v × (now ≡ taken_in rows r v) × AreRows limit now
taken_one limit n rows seen now r are is numbered room e = taken_as limit n rows now r are (subst (λ xs. IsNumbered xs r (Some n)) is numbered) room e

-- ---- phones

-- a phone of both editions whose rows of 2013 are too many
pub join_full : (limit : ℕ) (digits : List ℕ) (earlier later : OldPhone) → limit < length earlier.rows
    → (new : NewPhone) × (new.digits ≡ digits) × IsMoved (Some earlier) (Some later) new × (limit < length new.rows)
join_full limit digits earlier later over =
    let all = joins_there earlier.rows later.rows in
    let others = all.2 in
    (record { digits = digits; registered = option_or later.registered earlier.registered; rows = all.0 }, refl, (refl, all.1), omega arith)

pub join_err : (limit : ℕ) (digits : List ℕ) (earlier later : OldPhone) (rows now : List Row) (e : StoreError) → rows ≡ earlier.rows → TakesAllIn limit rows now later.rows (Err e) → Moves limit digits (Some earlier) (Some later) (Err e)
join_err limit digits earlier later rows now Failed is h = h
join_err limit digits earlier later rows now Memory is h = tt
join_err limit digits earlier later rows now (Full l) is h =
    (h.0, record { digits = digits; registered = option_or later.registered earlier.registered; rows = h.1 }, refl, (refl, subst (λ xs. Joins xs later.rows h.1) is h.2), h.3)

-- some rows were taken in and one more was too many
pub all_err : (limit : ℕ) (rows front mid now rest : List Row) (r : Row) (e : StoreError) → Joins rows front mid → TakesIn limit mid now r (Err e) → TakesAllIn limit rows now ((front ++ r ∷ []) ++ rest) (Err e)
all_err limit rows front mid now rest r Failed is h = h
all_err limit rows front mid now rest r Memory is h = tt
all_err limit rows front mid now rest r (Full l) is h = let over = too_many limit rows front mid rest r is h.1 h.2 h.3 in (h.0, over.0, over.1, over.2)
