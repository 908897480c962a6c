-- Rows that are read by pages.
use Rattle.std.proofs.Common.{◌≡◌, ℕ, zero, suc, ◌+◌, ◌<◌, ◌≤◌, List, [], ◌∷◌, ◌++◌, Bool, true, false, cond, nat_le, length, arith, refl, sym, ◌∙◌, ap, subst, take, append_assoc, append-nil, length-append, Option, Some, None, inl, inr}
use Rattle.std.specs.Prelude.{◌⊎◌}
use Rattle.std.proofs.lemmas.Bool.Decides.{nat_tests}
use Rattle.std.proofs.lemmas.List.Elements.{filter-append}
use Rattle.jt_store.specs.declared.row.Row.{Row}
use Rattle.jt_store.specs.Tables.{FindsFrom, IsRow, Rises, Tables, AreRows, WhereKnown}
use Rattle.dewfelt_keeper.specs.RowPages.{AddsFrom, next_of, pages, room_of, rows_at}

test_of : (a b : ℕ) → a ≤ b → nat_le a b ≡ true
test_of a b within = grind (arith, nat_tests)

test_fails : (a b : ℕ) → b < a → nat_le a b ≡ false
test_fails a b below = grind (arith, nat_tests)

within_of : (a b : ℕ) → nat_le a b ≡ true → a ≤ b
within_of a b test = grind (arith, nat_tests)

below_of : (a b : ℕ) → nat_le a b ≡ false → b < a
below_of a b test = grind (arith, nat_tests)

-- ---- a row is found

above : (n : ℕ) (rows : List Row) (r : Row) → Rises n rows → IsRow rows r → n ≤ r.number
above n [] r rise is = absurd is
above n (x ∷ rows) r rise (inl is) = omega (arith, rise.0, ap (λ (q : Row). q.number) is)
above n (x ∷ rows) r rise (inr is) = omega (arith, rise.0, above (x.number + 1) rows r rise.1 is)

-- what rises from a number stands from each lower one on
all_at : (from n : ℕ) (rows : List Row) → from ≤ n → Rises n rows → rows_at from rows ≡ rows
all_at from n [] below rise = refl
all_at from n (x ∷ rows) below rise =
    let test : nat_le from x.number ≡ true = test_of from x.number (omega (arith, below, rise.0)) in
    let rest : rows_at from rows ≡ rows = all_at from (x.number + 1) rows (omega (arith, below, rise.0)) rise.1 in
    rw (test, rest)

none_at : (number : ℕ) (rows : List Row) → ((r : Row) → IsRow rows r → r.number < number) → rows_at number rows ≡ []
none_at number [] below = refl
none_at number (x ∷ rows) below =
    let test : nat_le number x.number ≡ false = test_fails number x.number (below x (inl refl)) in
    rw test (none_at number rows (λ r is. below r (inr is)))

-- the first row from a number on, and those behind it
first_at : (n number : ℕ) (rows : List Row) (row : Row) → Rises n rows → IsRow rows row → number ≤ row.number → ((r : Row) → IsRow rows r → number ≤ r.number → row.number ≤ r.number)
    → rows_at number rows ≡ row ∷ rows_at (row.number + 1) rows
first_at n number [] row rise is within least = absurd is
first_at n number (x ∷ rows) row rise (inl is) within least =
    let same : x.number ≡ row.number = ap (λ (q : Row). q.number) is in
    let test : nat_le number x.number ≡ true = test_of number x.number (omega (arith, same, within)) in
    let past : nat_le (row.number + 1) x.number ≡ false = test_fails (row.number + 1) x.number (omega (arith, same)) in
    let all : rows_at number rows ≡ rows = all_at number (x.number + 1) rows (omega (arith, same, within)) rise.1 in
    let rest : rows_at (row.number + 1) rows ≡ rows = all_at (row.number + 1) (x.number + 1) rows (omega (arith, same)) rise.1 in
    rw (test, past, all, rest) (ap (λ (q : Row). q ∷ rows) is)
first_at n number (x ∷ rows) row rise (inr is) within least =
    let far : x.number + 1 ≤ row.number = above (x.number + 1) rows row rise.1 is in
    let past : nat_le (row.number + 1) x.number ≡ false = test_fails (row.number + 1) x.number (omega (arith, far)) in
    let low : nat_le number x.number ≡ false = by_test (nat_le number x.number) refl far in
    rw (low, past) (first_at (x.number + 1) number rows row rise.1 is within (λ r in_it. least r (inr in_it)))
  where
    by_test : (b : Bool) → nat_le number x.number ≡ b → x.number + 1 ≤ row.number → nat_le number x.number ≡ false
    by_test false is far = is
    by_test true is far = absurd (omega (arith, far, least x (inl refl) (within_of number x.number is)))

-- a row that is put behind a page is the next one
pub added : (t : Option Tables) (key : List ℕ) (limit number : ℕ) (row : Row) (old : List Row) → WhereKnown t (λ x. FindsFrom (x.rows key) number (Some row)) → WhereKnown t (λ x. AreRows limit (x.rows key))
    → WhereKnown t (λ x. AddsFrom (x.rows key) number old (old ++ row ∷ []) (Some (row.number + 1)))
added None key limit number row old found are = tt
added (Some x) key limit number row old found are = (row, first_at 0 number (x.rows key) row are.rise found.0 found.1 found.2, refl)

pub ended : (t : Option Tables) (key : List ℕ) (number : ℕ) (old : List Row) → WhereKnown t (λ x. FindsFrom (x.rows key) number None) → WhereKnown t (λ x. AddsFrom (x.rows key) number old old None)
ended None key number old found = tt
ended (Some x) key number old found = (none_at number (x.rows key) found, refl)

-- ---- a page grows

-- the page, and then the rows from this number on
abbrev pub Grown : List ℕ → ℕ → List Row → ℕ → Option Tables → Type 0
Grown key from page number t = WhereKnown t (λ x. rows_at from (x.rows key) ≡ page ++ rows_at number (x.rows key))

pub grown_none : (key : List ℕ) (from : ℕ) (t : Option Tables) → Grown key from [] from t
grown_none key from None = tt
grown_none key from (Some x) = refl

pub grown_more : (key : List ℕ) (from number next : ℕ) (page now : List Row) (t : Option Tables) → Grown key from page number t → WhereKnown t (λ x. AddsFrom (x.rows key) number page now (Some next)) → Grown key from now next t
grown_more key from number next page now None grown adds = tt
grown_more key from number next page now (Some x) grown adds =
    grown ∙ ap (λ (ys : List Row). page ++ ys) adds.1 ∙ sym (append_assoc page (adds.0 ∷ []) (rows_at next (x.rows key))) ∙ ap (λ (ys : List Row). ys ++ rows_at next (x.rows key)) (sym adds.2)

take_all : (most : ℕ) (page rest : List Row) → length page ≤ most → (most ≤ length page) ⊎ (rest ≡ []) → take most (page ++ rest) ≡ page
take_all zero [] rest few ends = refl
take_all (suc most) [] rest few (inl full) = absurd (omega (arith, full))
take_all (suc most) [] rest few (inr none) = rw none refl
take_all zero (x ∷ page) rest few ends = absurd (omega (arith, few))
take_all (suc most) (x ∷ page) rest few ends = ap (λ (ys : List Row). x ∷ ys) (take_all most page rest (omega (arith, few)) (onward ends))
  where
    onward : (suc most ≤ length (x ∷ page)) ⊎ (rest ≡ []) → (most ≤ length page) ⊎ (rest ≡ [])
    onward (inl full) = inl (omega (arith, full))
    onward (inr none) = inr none

-- a page that is full
pub full_page : (key : List ℕ) (from number most : ℕ) (page : List Row) (t : Option Tables) → Grown key from page number t → length page ≤ most → most ≤ length page → WhereKnown t (λ x. page ≡ take most (rows_at from (x.rows key)))
full_page key from number most page None grown few full = tt
full_page key from number most page (Some x) grown few full = sym (ap (take most) grown ∙ take_all most page (rows_at number (x.rows key)) few (inl full))

-- a page behind which there is nothing
pub last_page : (key : List ℕ) (from number most : ℕ) (page now : List Row) (t : Option Tables) → Grown key from page number t → WhereKnown t (λ x. AddsFrom (x.rows key) number page now None) → length page ≤ most → WhereKnown t (λ x. now ≡ take most (rows_at from (x.rows key)))
last_page key from number most page now None grown adds few = tt
last_page key from number most page now (Some x) grown adds few = adds.1 ∙ sym (ap (take most) grown ∙ take_all most page (rows_at number (x.rows key)) few (inr adds.0))

-- ---- pages, one behind the other

at_at : (from later : ℕ) (rows : List Row) → from ≤ later → rows_at later rows ≡ rows_at later (rows_at from rows)
at_at from later [] below = refl
at_at from later (x ∷ rows) below =
    let rest : rows_at later rows ≡ rows_at later (rows_at from rows) = at_at from later rows below in
    elim (nat_le from x.number) as (λ b. nat_le from x.number ≡ b → rows_at later (x ∷ rows) ≡ rows_at later (cond b (x ∷ rows_at from rows) (rows_at from rows))) [
      | true ↦ λ is. elim (nat_le later x.number) as (λ b. cond b (x ∷ rows_at later rows) (rows_at later rows) ≡ cond b (x ∷ rows_at later (rows_at from rows)) (rows_at later (rows_at from rows))) [ true ↦ ap (λ (ys : List Row). x ∷ ys) rest | false ↦ rest ]
      | false ↦ λ is.
          let low : nat_le later x.number ≡ false = grind (arith, nat_tests, is) in
          rw low rest
    ] refl

rises_front : (n : ℕ) (rows more : List Row) → Rises n (rows ++ more) → Rises n rows
rises_front n [] more rise = tt
rises_front n (x ∷ rows) more rise = (rise.0, rises_front (x.number + 1) rows more rise.1)

next_above : (n most : ℕ) (rows : List Row) → Rises n rows → n ≤ next_of n (take most rows)
next_above n zero rows rise = omega arith
next_above n (suc most) [] rise = omega arith
next_above n (suc most) (x ∷ rows) rise = omega (arith, rise.0, next_above (x.number + 1) most rows rise.1)

-- rows, and more behind them, are the first so many of these and then all from the number behind these on
split : (n most : ℕ) (rows more : List Row) → Rises n (rows ++ more) → rows ++ more ≡ take most rows ++ rows_at (next_of n (take most rows)) (rows ++ more)
split n zero rows more rise = sym (all_at n n (rows ++ more) (omega arith) rise)
split n (suc most) [] more rise = sym (all_at n n more (omega arith) rise)
split n (suc most) (x ∷ rows) more rise =
    let far : x.number + 1 ≤ next_of (x.number + 1) (take most rows) = next_above (x.number + 1) most rows (rises_front (x.number + 1) rows more rise.1) in
    let past : nat_le (next_of (x.number + 1) (take most rows)) x.number ≡ false = test_fails (next_of (x.number + 1) (take most rows)) x.number (omega (arith, far)) in
    rw past (ap (λ (ys : List Row). x ∷ ys) (split (x.number + 1) most rows more rise.1))

rises_lower : (low n : ℕ) (rows : List Row) → low ≤ n → Rises n rows → Rises low rows
rises_lower low n [] below rise = tt
rises_lower low n (x ∷ rows) below rise = (omega (arith, below, rise.0), rise.1)

-- rows from a number on rise from it
at_rises : (from n : ℕ) (rows : List Row) → Rises n rows → Rises from (rows_at from rows)
at_rises from n [] rise = tt
at_rises from n (x ∷ rows) rise = by_test (nat_le from x.number) refl (at_rises from (x.number + 1) rows rise.1)
  where
    by_test : (b : Bool) → nat_le from x.number ≡ b → Rises from (rows_at from rows) → Rises from (cond b (x ∷ rows_at from rows) (rows_at from rows))
    by_test false is more = more
    by_test true is more =
        let within : from ≤ x.number = within_of from x.number is in
        (within, subst (Rises (x.number + 1)) (sym (all_at from (x.number + 1) rows (omega (arith, within)) rise.1)) rise.1)

at_both : (from : ℕ) (rows more : List Row) → rows_at from (rows ++ more) ≡ rows_at from rows ++ rows_at from more
at_both from rows more = filter-append (λ (row : Row). nat_le from row.number) rows more

pub one_page : (from most : ℕ) (rows more : List Row) → Rises 0 (rows ++ more)
    → rows_at from (rows ++ more) ≡ take most (rows_at from rows) ++ rows_at (next_of from (take most (rows_at from rows))) (rows ++ more)
one_page from most rows more rise =
    let both : rows_at from (rows ++ more) ≡ rows_at from rows ++ rows_at from more = at_both from rows more in
    let some : Rises from (rows_at from rows ++ rows_at from more) = subst (Rises from) both (at_rises from 0 (rows ++ more) rise) in
    let later : from ≤ next_of from (take most (rows_at from rows)) = next_above from most (rows_at from rows) (rises_front from (rows_at from rows) (rows_at from more) some) in
    both ∙ split from most (rows_at from rows) (rows_at from more) some
    ∙ ap (λ (ys : List Row). take most (rows_at from rows) ++ rows_at (next_of from (take most (rows_at from rows))) ys) (sym both)
    ∙ ap (λ (ys : List Row). take most (rows_at from rows) ++ ys) (sym (at_at from (next_of from (take most (rows_at from rows))) (rows ++ more) later))

-- of rows that stand still
still_page : (from most : ℕ) (rows : List Row) → Rises 0 rows → rows_at from rows ≡ take most (rows_at from rows) ++ rows_at (next_of from (take most (rows_at from rows))) rows
still_page from most rows rise =
    subst (λ (all : List Row). rows_at from all ≡ take most (rows_at from rows) ++ rows_at (next_of from (take most (rows_at from rows))) all) (append-nil rows)
    (one_page from most rows [] (subst (Rises 0) (sym (append-nil rows)) rise))

empty_is : (rows : List Row) → length rows ≤ 0 → [] ≡ rows
empty_is [] few = refl
empty_is (x ∷ rows) few = absurd (omega (arith, few))

-- a page is full, or nothing is left
full_or_all : (most : ℕ) (rows : List Row) → (most ≤ length (take most rows)) ⊎ (length rows ≤ length (take most rows))
full_or_all zero rows = inl (omega arith)
full_or_all (suc most) [] = inr (omega arith)
full_or_all (suc most) (x ∷ rows) = onward (full_or_all most rows)
  where
    onward : (most ≤ length (take most rows)) ⊎ (length rows ≤ length (take most rows)) → (suc most ≤ suc (length (take most rows))) ⊎ (suc (length rows) ≤ suc (length (take most rows)))
    onward (inl full) = inl (omega (arith, full))
    onward (inr all) = inr (omega (arith, all))

left_over : (all part left most room : ℕ) → all ≡ part + left → all ≤ room + most → (most ≤ part) ⊎ (all ≤ part) → left ≤ room
left_over all part left most room cut few (inl full) = omega (arith, cut, few, full)
left_over all part left most room cut few (inr none) = omega (arith, cut, few, none)

pub all_pages : (sizes : List ℕ) (from : ℕ) (rows : List Row) → Rises 0 rows → length (rows_at from rows) ≤ room_of sizes → pages sizes from rows ≡ rows_at from rows
all_pages [] from rows rise few = empty_is (rows_at from rows) few
all_pages (most ∷ sizes) from rows rise few =
    let cut : rows_at from rows ≡ take most (rows_at from rows) ++ rows_at (next_of from (take most (rows_at from rows))) rows = still_page from most rows rise in
    let lengths = ap length cut ∙ length-append (take most (rows_at from rows)) (rows_at (next_of from (take most (rows_at from rows))) rows) in
    let left : length (rows_at (next_of from (take most (rows_at from rows))) rows) ≤ room_of sizes
    = left_over (length (rows_at from rows)) (length (take most (rows_at from rows))) (length (rows_at (next_of from (take most (rows_at from rows))) rows)) most (room_of sizes) lengths
    (omega (arith, few)) (full_or_all most (rows_at from rows)) in
    ap (λ (ys : List Row). take most (rows_at from rows) ++ ys) (all_pages sizes (next_of from (take most (rows_at from rows))) rows rise left) ∙ sym cut

pub from_none : (rows : List Row) → rows_at 0 rows ≡ rows
from_none [] = refl
from_none (x ∷ rows) =
    let test : nat_le 0 x.number ≡ true = test_of 0 x.number (omega arith) in
    rw test (ap (λ (ys : List Row). x ∷ ys) (from_none rows))
