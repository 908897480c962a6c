-- Small steps to the moment of a time; and the test of a time says what `NamesMoment` says.
use Rattle.std.proofs.Common.{◌≡◌, ℕ, zero, suc, ◌+◌, ◌/◌, ◌%◌, ◌≤◌, ◌<◌, ◌↔◌, Bool, pos, List, slice_index, Option, Result, Ok, Err, IsSome, IsOk, IsTrue, refl, arith}
use Rattle.std.specs.Prelude.{◌&&◌, nat_le, ◌≤ℤ◌}
use Rattle.std.specs.Result.{result_ok}
use Rattle.std.proofs.lemmas.Bool.{and_from, and_parts, leb-true, le-leb}
use Rattle.std.proofs.lemmas.Int.{ints}
use Rattle.jiff.specs.Words.{IsDate, IsTime, IsYear, days_in_month}
use Rattle.jt_position.specs.Moments.{IsDecimal, NamesMoment, decimal_of, part, are_decimal, is_date, is_decimal, is_from_to, is_time, names_moment}

-- what holds of each of six
pub six : (P : ℕ → Type 0) → P 0 → P 1 → P 2 → P 3 → P 4 → P 5 → (i : ℕ) → i < 6 → P i
six P a b c d e f zero lt = a
six P a b c d e f (suc zero) lt = b
six P a b c d e f (suc (suc zero)) lt = c
six P a b c d e f (suc (suc (suc zero))) lt = d
six P a b c d e f (suc (suc (suc (suc zero)))) lt = e
six P a b c d e f (suc (suc (suc (suc (suc zero))))) lt = f
six P a b c d e f (suc (suc (suc (suc (suc (suc i)))))) lt = absurd (omega arith)

-- a value without its error
pub some_ok : {X E : Type 0} (o : Option X) (r : Result X E) → o ≡ result_ok r → (IsSome o → IsOk r) × (IsOk r → IsSome o)
some_ok o (Ok x) e = (λ h. refl, λ h. rw e refl)
some_ok o (Err d) e = (λ h. absurd (let n = rw e at h in cc), λ h. absurd cc)

-- ---- the test of a time

-- two tests and what they mean
both : (x y : Bool) {P Q : Type 0} → (IsTrue x ↔ P) → (IsTrue y ↔ Q) → IsTrue (x && y) ↔ (P × Q)
both x y p q = (λ t. let parts = and_parts x y t in (p.0 parts.0, q.0 parts.1), λ h. and_from x y (p.1 h.0) (q.1 h.1))

at_most : (a b : ℕ) → IsTrue (nat_le a b) ↔ (a ≤ b)
at_most a b = (λ t. leb-true a b t, λ h. le-leb a b h)

decimal : (time : List ℕ) (i : ℕ) → IsTrue (is_decimal time i) ↔ IsDecimal (slice_index time i)
decimal time i = both (nat_le (slice_index time i / 16) 9) (nat_le (slice_index time i % 16) 9) (at_most (slice_index time i / 16) 9) (at_most (slice_index time i % 16) 9)

all_decimal : (time : List ℕ) → IsTrue (are_decimal time) ↔ ((i : ℕ) → i < 6 → IsDecimal (slice_index time i))
all_decimal time =
    let is = λ (i : ℕ). is_decimal time i in
    let tests = both (is 0) _ (decimal time 0) (both (is 1) _ (decimal time 1) (both (is 2) _ (decimal time 2) (both (is 3) _ (decimal time 3) (both (is 4) (is 5) (decimal time 4) (decimal time 5))))) in (
      λ t. let h = tests.0 t in six (λ i. IsDecimal (slice_index time i)) h.0 h.1.0 h.1.1.0 h.1.1.1.0 h.1.1.1.1.0 h.1.1.1.1.1,
      λ h. tests.1 (h 0 (omega arith), (h 1 (omega arith), (h 2 (omega arith), (h 3 (omega arith), (h 4 (omega arith), h 5 (omega arith)))))),
    )

-- a natural number among the signed
up : (a b : ℕ) → a ≤ b → pos a ≤ℤ pos b
up a b h = omega (arith, ints)

down : (a b : ℕ) → pos a ≤ℤ pos b → a ≤ b
down a b h = omega (arith, ints)

year : (y : ℕ) → y < 100 → IsYear (pos (2000 + y))
year y lt = (omega (arith, ints), omega (arith, ints))

date : (y m d : ℕ) → y < 100 → IsTrue (is_date y m d) ↔ IsDate (pos (2000 + y)) (pos m) (pos d)
date y m d lt =
    let days = days_in_month (pos (2000 + y)) m in
    let tests = both (is_from_to 1 12 m) (is_from_to 1 days d) (both (nat_le 1 m) (nat_le m 12) (at_most 1 m) (at_most m 12)) (both (nat_le 1 d) (nat_le d days) (at_most 1 d) (at_most d days)) in (
      λ t. let h = tests.0 t in (year y lt, (up 1 m h.0.0, up m 12 h.0.1), (up 1 d h.1.0, up d days h.1.1)),
      λ h. tests.1 ((down 1 m h.1.0, down m 12 h.1.1), (down 1 d h.2.0, down d days h.2.1)),
    )

clock : (h m s : ℕ) → IsTrue (is_time h m s) ↔ IsTime (pos h) (pos m) (pos s) (pos 0)
clock h m s =
    let tests = both (nat_le h 23) _ (at_most h 23) (both (nat_le m 59) (nat_le s 59) (at_most m 59) (at_most s 59)) in (
      λ t. let x = tests.0 t in ((up 0 h (omega arith), up h 23 x.0), (up 0 m (omega arith), up m 59 x.1.0), (up 0 s (omega arith), up s 59 x.1.1), (up 0 0 (omega arith), up 0 999_999_999 (omega arith))),
      λ x. tests.1 (down h 23 x.0.1, (down m 59 x.1.1, down s 59 x.2.1)),
    )

two_digits : (n : ℕ) → IsDecimal n → decimal_of n < 100
two_digits n h = let a = h.0 in let b = h.1 in omega arith

-- the test of a time says what `NamesMoment` says
pub names : (time : List ℕ) → IsTrue (names_moment time) ↔ NamesMoment time
unfolding names_moment
names time =
    let digits = all_decimal time in
    let clocks = clock (part time 3) (part time 4) (part time 5) in (
      λ t.
          let a = and_parts (are_decimal time) _ t in
          let b = and_parts (is_date (part time 0) (part time 1) (part time 2)) (is_time (part time 3) (part time 4) (part time 5)) a.1 in
          let all = digits.0 a.0 in
          record { digits = all; date = (date (part time 0) (part time 1) (part time 2) (two_digits (slice_index time 0) (all 0 (omega arith)))).0 b.0; clock = clocks.0 b.1 },
      λ h.
          let all = h.digits in
          and_from (are_decimal time) _ (digits.1 all) (and_from (is_date (part time 0) (part time 1) (part time 2)) (is_time (part time 3) (part time 4) (part time 5)) ((date (part time 0) (part time 1) (part time 2) (two_digits (slice_index time 0) (all 0 (omega arith)))).1 h.date) (clocks.1 h.clock)),
    )
