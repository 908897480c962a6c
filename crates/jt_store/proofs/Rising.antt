-- Rows whose numbers rise.
use Rattle.std.proofs.Common.{◌≡◌, ◌≢◌, ◌<◌, ◌≤◌, ◌+◌, ◌*◌, ◌^◌, ℕ, zero, suc, List, [], ◌∷◌, ◌++◌, length, Option, None, Some, Bool, true, false, cond, inl, inr, refl, sym, ap, subst, ◌∙◌, arith, get_or, length-append}
use Rattle.std.specs.Prelude.{IfSome, is_some, option_copied, slice_get}
use Rattle.std.specs.List.{AllWithin}
use denote.Bor.{Bor}
use borrow.Author.Tests.{ltb-true}
use Rattle.std.proofs.Math.Dec.{ltb}
use Rattle.std.proofs.lemmas.Bool.{ltb-false}
use Rattle.std.proofs.lemmas.List.{append-nil}
use Rattle.std.proofs.lemmas.Option.{slice_get_past, slice_get_read}
use Rattle.std.specs.Str.{bytes_eq}
use Rattle.jt_store.specs.declared.row.Registered.{Registered}
use Rattle.jt_store.specs.declared.row.Row.{Row}
use Rattle.jt_store.specs.Memory.{list_under, under}
use Rattle.jt_store.specs.Tables.{IsRow, Rises, Finds, FindsFrom, MayAppend, AreRows, Tables, last_of, last_from, row_added}
use Rattle.jt_store.proofs.Pairs.{same_octets}

-- ---- one row is found

above : (from : ℕ) (rows : List Row) (r : Row) → Rises from rows → IsRow rows r → from ≤ r.number
above from [] r h in_it = absurd in_it
above from (x ∷ rows) r h (inl e) = subst (λ (y : Row). from ≤ y.number) e h.0
above from (x ∷ rows) r h (inr there) = let more = above (x.number + 1) rows r h.1 there in let front = h.0 in omega arith

-- two rows of one number are one
pub one_row : (from : ℕ) (rows : List Row) (r s : Row) → Rises from rows → IsRow rows r → IsRow rows s → r.number ≡ s.number → r ≡ s
one_row from [] r s h in_it also e = absurd in_it
one_row from (x ∷ rows) r s h (inl one) (inl two) e = sym one ∙ two
one_row from (x ∷ rows) r s h (inl one) (inr there) e = let more = above (x.number + 1) rows s h.1 there in let same : x.number ≡ r.number = ap (λ (y : Row). y.number) one in absurd (omega arith)
one_row from (x ∷ rows) r s h (inr there) (inl two) e = let more = above (x.number + 1) rows r h.1 there in let same : x.number ≡ s.number = ap (λ (y : Row). y.number) two in absurd (omega arith)
one_row from (x ∷ rows) r s h (inr here) (inr there) e = one_row (x.number + 1) rows r s h.1 here there e

-- the row at a place is a row, and each row has a place
pub at_place : (rows : List Row) (i : ℕ) (d : Row) → i < length rows → IsRow rows (get_or rows i d)
at_place [] i d h = absurd (omega arith)
at_place (x ∷ rows) zero d h = inl refl
at_place (x ∷ rows) (suc i) d h = inr (at_place rows i d (omega arith))

pub place_of : (rows : List Row) (r : Row) (d : Row) → IsRow rows r → (i : ℕ) × (i < length rows) × (get_or rows i d ≡ r)
place_of [] r d in_it = absurd in_it
place_of (x ∷ rows) r d (inl e) = (0, omega arith, e)
place_of (x ∷ rows) r d (inr there) = let p = place_of rows r d there in let lt = p.1 in (suc p.0, omega arith, p.2)

-- later rows have greater numbers
pub rising : (from : ℕ) (rows : List Row) (i j : ℕ) (d : Row) → Rises from rows → i ≤ j → j < length rows → (get_or rows i d).number ≤ (get_or rows j d).number
rising from [] i j d h le lt = absurd (omega arith)
rising from (x ∷ rows) zero zero d h le lt = omega arith
rising from (x ∷ rows) zero (suc j) d h le lt = let more = above (x.number + 1) rows (get_or rows j d) h.1 (at_place rows j d (omega arith)) in omega arith
rising from (x ∷ rows) (suc i) zero d h le lt = absurd (omega arith)
rising from (x ∷ rows) (suc i) (suc j) d h le lt = rising (x.number + 1) rows i j d h.1 (omega arith) (omega arith)

-- what stands at the first place with a number from this one on
pub found_from : (rows : List Row) (number i : ℕ) → Rises 0 rows → i ≤ length rows → AllWithin (λ row. row.number < number) rows 0 i → AllWithin (λ row. number ≤ row.number) rows i (length rows)
    → (found : Option Row) → found ≡ slice_get rows i → FindsFrom rows number found
found_from rows number i h le below from None e = λ r in_it.
    let p = place_of rows r r in_it in
    let past : length rows ≤ i = ends rows i (sym e) in
    let lt = p.1 in
    subst (λ (y : Row). y.number < number) p.2 (below p.0 r (omega arith) (omega arith))
  where
    ends : (xs : List Row) (k : ℕ) → slice_get xs k ≡ None → length xs ≤ k
    ends [] k e = omega arith
    ends (x ∷ xs) zero e = absurd cc
    ends (x ∷ xs) (suc k) e = let more = ends xs k e in omega arith
found_from rows number i h le below from (Some row) e =
    let lt : i < length rows = starts rows i row (sym e) in
    let is : get_or rows i row ≡ row = stands rows i row (sym e) in (
      subst (IsRow rows) is (at_place rows i row lt),
      subst (λ (y : Row). number ≤ y.number) is (from i row (omega arith) lt),
      λ r in_it enough.
          let p = place_of rows r row in_it in
          let within = p.1 in
          let behind : i ≤ p.0 = by_place p.0 (λ before. let less : r.number < number = subst (λ (y : Row). y.number < number) p.2 (below p.0 row (omega arith) before) in omega arith) in
          let rise = rising 0 rows i p.0 row h behind p.1 in
          subst (λ (y : Row). y.number ≤ r.number) is (subst (λ (y : Row). (get_or rows i row).number ≤ y.number) p.2 rise),
    )
  where
    starts : (xs : List Row) (k : ℕ) (x : Row) → slice_get xs k ≡ Some x → k < length xs
    starts [] k x e = absurd cc
    starts (y ∷ xs) zero x e = omega arith
    starts (y ∷ xs) (suc k) x e = let more = starts xs k x e in omega arith

    stands : (xs : List Row) (k : ℕ) (x : Row) → slice_get xs k ≡ Some x → get_or xs k x ≡ x
    stands [] k x e = absurd cc
    stands (y ∷ xs) zero x e = cc
    stands (y ∷ xs) (suc k) x e = stands xs k x e

    by_place : (k : ℕ) → (k < i → ⊥) → i ≤ k
    by_place k never = omega (arith, never)

-- what a look-up by place finds
pub copied : (rows : List Row) (i : ℕ) (found : Option (Bor Row)) → is_some found ≡ ltb i (length rows) → IfSome found (λ row. row.now ≡ get_or rows i row.now) → option_copied found ≡ slice_get rows i
copied rows i None within is = sym (slice_get_past rows i (ltb-false i (length rows) (sym within)))
copied rows i (Some row) within is = sym (slice_get_read rows (length rows) i row.now refl (ltb-true i (length rows) (sym within)) is)

-- the last row
pub last_is : (rows : List Row) (r : Row) (n : ℕ) → n + 1 ≡ length rows → slice_get rows n ≡ Some r → last_of rows ≡ Some r.number
last_is [] r n e at = absurd (omega arith)
last_is (x ∷ []) r zero e at = let same : x ≡ r = cc in ap (λ (y : Row). Some y.number) same
last_is (x ∷ []) r (suc n) e at = absurd (omega arith)
last_is (x ∷ y ∷ rows) r zero e at = absurd (omega arith)
last_is (x ∷ y ∷ rows) r (suc n) e at = last_is (y ∷ rows) r n (omega arith) at

-- the row of this number, if the first row with a number from this one on has it
pub found_one : (rows : List Row) (row : Row) (number : ℕ) → Rises 0 rows → FindsFrom rows number (Some row) → row.number ≡ number → Finds rows number (Some row)
found_one rows row number h found e = (found.0, e, λ r in_it named. one_row 0 rows r row h in_it found.0 (named ∙ sym e))

last_above : (n : ℕ) (rows : List Row) → Rises (n + 1) rows → n ≤ last_from n rows
last_above n [] h = omega arith
last_above n (x ∷ rows) h = let more = last_above x.number rows h.1 in let front = h.0 in omega arith

up_to_last : (n : ℕ) (rows : List Row) (r : Row) → Rises (n + 1) rows → IsRow rows r → r.number ≤ last_from n rows
up_to_last n [] r h in_it = absurd in_it
up_to_last n (x ∷ rows) r h (inl e) = subst (λ (y : Row). y.number ≤ last_from x.number rows) e (last_above x.number rows h.1)
up_to_last n (x ∷ rows) r h (inr there) = up_to_last x.number rows r h.1 there

-- every number is below 2^47
pub low_row : (limit : ℕ) (rows : List Row) (r : Row) → limit ≤ 1000000000 → AreRows limit rows → IsRow rows r → r.number < 2 ^ 47
low_row limit [] r le are in_it = absurd in_it
low_row limit (x ∷ rows) r le are (inl e) =
    let first = last_above x.number rows are.rise.1 in
    let low = are.low in
    let few = are.few in
    subst (λ (y : Row). y.number < 2 ^ 47) e (omega arith)
low_row limit (x ∷ rows) r le are (inr there) =
    let later = up_to_last x.number rows r are.rise.1 there in
    let low = are.low in
    let few = are.few in
    omega arith

pub found_low : (limit number : ℕ) (rows : List Row) → limit ≤ 1000000000 → AreRows limit rows → (found : Option Row) → FindsFrom rows number found → IfSome found (λ row. (number ≤ row.number) × (row.number < 2 ^ 47))
found_low limit number rows le are None found = tt
found_low limit number rows le are (Some row) found = (found.1, low_row limit rows row le are found.0)

-- ---- one row more

pub last_of-push : (rows : List Row) (r : Row) → last_of (rows ++ r ∷ []) ≡ Some r.number
last_of-push [] r = refl
last_of-push (x ∷ rows) r = ap Some (last_from-push x.number rows r)
  where
    last_from-push : (n : ℕ) (rows : List Row) (r : Row) → last_from n (rows ++ r ∷ []) ≡ r.number
    last_from-push n [] r = refl
    last_from-push n (y ∷ rows) r = last_from-push y.number rows r

rises-push : (from : ℕ) (rows : List Row) (r : Row) → Rises from rows → IfSome (last_of rows) (λ n. n < r.number) → (rows ≡ [] → from ≤ r.number) → Rises from (rows ++ r ∷ [])
rises-push from [] r h above first = (first refl, tt)
rises-push from (x ∷ rows) r h above first = (h.0, rises_on x.number rows r h.1 above)
  where
    rises_on : (n : ℕ) (rows : List Row) (r : Row) → Rises (n + 1) rows → last_from n rows < r.number → Rises (n + 1) (rows ++ r ∷ [])
    rises_on n [] r h above = (omega arith, tt)
    rises_on n (y ∷ rows) r h above = (h.0, rises_on y.number rows r h.1 above)

pub are_rows-push : (limit : ℕ) (rows : List Row) (r : Row) → AreRows limit rows → MayAppend (last_of rows) r.number → length rows < limit → AreRows limit (rows ++ r ∷ [])
are_rows-push limit [] r g may room = record { rise = (omega arith, tt); low = omega arith; few = omega arith }
are_rows-push limit (x ∷ rows) r g may room = record {
  rise = rises-push 0 (x ∷ rows) r g.rise may.0 (λ e. omega arith);
  low = subst (λ (o : Option ℕ). IfSome o (λ n. n < 131071 * length ((x ∷ rows) ++ r ∷ []))) (sym (last_of-push (x ∷ rows) r)) (omega (arith, length-append (x ∷ rows) (r ∷ []), g.low, may.1));
  few = omega (arith, length-append (x ∷ rows) (r ∷ []));
}

-- one row more of a phone that has room for it
pub all_rows-push : (limit : ℕ) (old new : List (List ℕ × List Row)) (key : List ℕ) (r : Row) → ((q : List ℕ) → AreRows limit (list_under old q))
    → MayAppend (last_of (list_under old key)) r.number → length (list_under old key) < limit
    → ((q : List ℕ) → list_under new q ≡ list_under old q ++ cond (bytes_eq key q) (r ∷ []) []) → (q : List ℕ) → AreRows limit (list_under new q)
all_rows-push limit old new key r all may room more q =
    subst (AreRows limit) (sym (more q)) (by_key (bytes_eq key q) refl)
  where
    by_key : (b : Bool) → bytes_eq key q ≡ b → AreRows limit (list_under old q ++ cond b (r ∷ []) [])
    by_key true e =
        let same : key ≡ q = same_octets key q e in
        let may_q : MayAppend (last_of (list_under old q)) r.number = subst (λ k. MayAppend (last_of (list_under old k)) r.number) same may in
        let room_q : length (list_under old q) < limit = subst (λ k. length (list_under old k) < limit) same room in
        are_rows-push limit (list_under old q) r (all q) may_q room_q
    by_key false e = subst (AreRows limit) (sym (append-nil (list_under old q))) (all q)

-- ---- tables

pub same_tables : (registered : List (List ℕ × Registered)) (old new : List (List ℕ × List Row)) → ((q : List ℕ) → list_under new q ≡ list_under old q)
    → ◌≡◌ {A = Option Tables} (Some (record { registered = under registered; rows = list_under new })) (Some (record { registered = under registered; rows = list_under old }))
same_tables registered old new e = λ i. Some (record { registered = under registered; rows = λ q. e q i })

pub more_tables : (registered : List (List ℕ × Registered)) (old new : List (List ℕ × List Row)) (key : List ℕ) (r : Row) → ((q : List ℕ) → list_under new q ≡ list_under old q ++ cond (bytes_eq key q) (r ∷ []) [])
    → ◌≡◌ {A = Option Tables} (Some (record { registered = under registered; rows = list_under new })) (row_added key r (Some (record { registered = under registered; rows = list_under old })))
more_tables registered old new key r e = λ i. Some (record { registered = under registered; rows = λ q. e q i })

pub room_left : (count limit : ℕ) (rows : List Row) → count ≡ length rows → AreRows limit rows → count ≢ limit → length rows < limit
room_left count limit rows n are ne = let few = are.few in omega arith
