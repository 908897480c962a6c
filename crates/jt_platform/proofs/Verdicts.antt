-- The verdict on a unit is one alone, and a function tells it.
use Rattle.std.proofs.Common.{◌≡◌, ◌<◌, ◌≤◌, ◌+◌, ◌-◌, ◌%◌, inl, inr, ◌==◌, ◌&&◌, ◌||◌, ℕ, List, [], ◌∷◌, Bool, true, false, if◌then◌else◌, Option, Some, None, refl, sym, ap, subst, ◌∙◌}
use native.Mathlib.Omega.{arith}
use Rattle.std.specs.Bool.{nat_lt}
use Rattle.std.specs.Str.{bytes_eq}
use Rattle.std.proofs.Math.Bool.{or-true}
use Rattle.std.proofs.lemmas.Bool.{false≢true, eqb-true, ltb-true, ltb-false}
use Rattle.std.proofs.lemmas.Bool.Decides.{nat_tests}
use Rattle.std.proofs.lemmas.Slice.Eq.{bytes_eq-Decides}
use Rattle.jt_value.specs.Serials.{IsVerdict, IsFar, LeastAbove, GreatestUpTo, SerialsTell, Verdict, New, Repeat, Anew, next_with}
use Rattle.jt_store.specs.Tables.{IsRow, last_of}
use Rattle.jt_store.specs.declared.row.Row.{Row}
use Rattle.jt_platform.specs.Allowed.{VerdictOn}
use Rattle.jt_platform.specs.Answer.{has_row, far_verdict, verdict_of}

pub both_true : (a b : Bool) → (a && b) ≡ true → (a ≡ true) × (b ≡ true)
both_true true b is = (refl, is)
both_true false b is = absurd (false≢true is)

itself : (n : ℕ) → (n == n) ≡ true
itself n = grind (arith, nat_tests)

-- ---- a row of a number, id and body, as a test

tested_head : (n id : ℕ) (body : List ℕ) (rest : Bool) → (((n == n) && ((id == id) && bytes_eq body body)) || rest) ≡ true
tested_head n id body rest = rw (itself n, itself id, (bytes_eq-Decides body body).1 refl) refl

pub row_tested : (rows : List Row) (id : ℕ) (body : List ℕ) (n : ℕ) → IsRow rows (record { number = n; id = id; body = body }) → has_row rows id body n ≡ true
row_tested [] id body n is = absurd is
row_tested (r ∷ rows) id body n (inl same) = subst (λ (x : Row). has_row (x ∷ rows) id body n ≡ true) (sym same) (tested_head n id body (has_row rows id body n))
row_tested (r ∷ rows) id body n (inr more) = rw (row_tested rows id body n more) (or-true ((r.number == n) && ((r.id == id) && bytes_eq r.body body)))

same_row : (r : Row) (n id : ℕ) (body : List ℕ) → ((r.number == n) && ((r.id == id) && bytes_eq r.body body)) ≡ true → r ≡ record { number = n; id = id; body = body }
same_row r n id body is =
    let parts = both_true (r.number == n) ((r.id == id) && bytes_eq r.body body) is in
    let rest = both_true (r.id == id) (bytes_eq r.body body) parts.1 in
    λ i. record { number = eqb-true r.number n parts.0 i; id = eqb-true r.id id rest.0 i; body = (bytes_eq-Decides r.body body).0 rest.1 i }

pub row_found : (rows : List Row) (id : ℕ) (body : List ℕ) (n : ℕ) → has_row rows id body n ≡ true → IsRow rows (record { number = n; id = id; body = body })
row_found [] id body n is = absurd (false≢true is)
row_found (r ∷ rows) id body n is = by_head ((r.number == n) && ((r.id == id) && bytes_eq r.body body)) refl is (row_found rows id body n)
  where
    by_head : (b : Bool) → ((r.number == n) && ((r.id == id) && bytes_eq r.body body)) ≡ b → (b || has_row rows id body n) ≡ true
        → (has_row rows id body n ≡ true → IsRow rows (record { number = n; id = id; body = body })) → IsRow (r ∷ rows) (record { number = n; id = id; body = body })
    by_head true here is more = inl (same_row r n id body here)
    by_head false here is more = inr (more is)

-- ---- the verdict

module _ (tells : SerialsTell) (serial : ℕ) (small : serial < 65536) where
  least_one : (from n : ℕ) → LeastAbove from serial n → n ≡ next_with from serial
  least_one from n least =
      let next = tells.next from serial small in
      let down = least.least (next_with from serial) next.above next.named in
      let up = next.least n least.above least.named in
      omega (arith, down, up)

  module _ (last : ℕ) (has : ℕ → Bool) where
    abbrev next : ℕ
    next = next_with last serial

    new_is : (n : ℕ) → LeastAbove last serial n → n ≤ last + 32767 → New n ≡ verdict_of (Some last) serial has
    new_is n least near = by_test (nat_lt (last + 32767) next) refl (least_one last n least)
      where
        by_test : (b : Bool) → nat_lt (last + 32767) next ≡ b → n ≡ next → New n ≡ (if b then far_verdict last serial next has else New next)
        by_test true is same = let far = ltb-true (last + 32767) next is in absurd (omega (arith, far, same, near))
        by_test false is same = ap New same

    far_is : IsFar last serial → verdict_of (Some last) serial has ≡ far_verdict last serial next has
    far_is far = by_test (nat_lt (last + 32767) next) refl (far next (tells.next last serial small).above (tells.next last serial small).named)
      where
        by_test : (b : Bool) → nat_lt (last + 32767) next ≡ b → last + 32767 < next → (if b then far_verdict last serial next has else New next) ≡ far_verdict last serial next has
        by_test true is above = refl
        by_test false is above = let near = ltb-false (last + 32767) next is in absurd (omega (arith, near, above))

    -- the greatest number up to the last one with the serial is 65,536 below the next one
    below_next : (n : ℕ) → GreatestUpTo last serial n → n + 65536 ≡ next
    below_next n greatest =
        let within = greatest.within in
        let named = greatest.named in
        let then_named : (n + 65536) % 65536 ≡ serial = omega (arith, named) in
        let above : last < n + 65536 = over (nat_lt last (n + 65536)) refl then_named in
        let is_least = (tells.next last serial small).least (n + 65536) above then_named in
        let next_above = (tells.next last serial small).above in
        let next_named : next % 65536 ≡ serial = (tells.next last serial small).named in
        apart next is_least next_above next_named within named
      where
        over : (b : Bool) → nat_lt last (n + 65536) ≡ b → (n + 65536) % 65536 ≡ serial → last < n + 65536
        over true is named = ltb-true last (n + 65536) is
        over false is named = let more = greatest.greatest (n + 65536) (ltb-false last (n + 65536) is) named in absurd (omega (arith, more))

        apart : (m : ℕ) → m ≤ n + 65536 → last < m → m % 65536 ≡ serial → n ≤ last → n % 65536 ≡ serial → n + 65536 ≡ m
        apart m up above named within own = omega arith

    repeat_is : (n : ℕ) → IsFar last serial → GreatestUpTo last serial n → has n ≡ true → Repeat n ≡ verdict_of (Some last) serial has
    repeat_is n far greatest there = by_test (nat_lt next 65536) refl (below_next n greatest) ∙ sym (far_is far)
      where
        by_test : (b : Bool) → nat_lt next 65536 ≡ b → n + 65536 ≡ next
            → Repeat n ≡ (if b then Anew (next_with (last + 65535) serial) else (if has (next - 65536) then Repeat (next - 65536) else Anew (next_with (last + 65535) serial)))
        by_test true is at = let few = ltb-true next 65536 is in absurd (omega (arith, few, at))
        by_test false is at = let same : next - 65536 ≡ n = omega (arith, at) in rw (same, there) refl

    anew_is : (n : ℕ) → IsFar last serial → ((m : ℕ) → GreatestUpTo last serial m → has m ≡ true → ⊥) → LeastAbove (last + 65535) serial n → Anew n ≡ verdict_of (Some last) serial has
    anew_is n far none least = by_test (nat_lt next 65536) refl ∙ sym (far_is far)
      where
        greatest_is : 65536 ≤ next → GreatestUpTo last serial (next - 65536)
        greatest_is enough =
            let above = (tells.next last serial small).above in
            let named : next % 65536 ≡ serial = (tells.next last serial small).named in
            let near : next ≤ last + 65536 = omega arith in
            at_next next enough above named near
          where
            at_next : (m : ℕ) → 65536 ≤ m → last < m → m % 65536 ≡ serial → m ≤ last + 65536 → GreatestUpTo last serial (m - 65536)
            at_next m enough above named near = record { within = omega arith; named = omega arith; greatest = λ k below own. omega arith }

        by_has : (b : Bool) → 65536 ≤ next → has (next - 65536) ≡ b → Anew n ≡ (if b then Repeat (next - 65536) else Anew (next_with (last + 65535) serial))
        by_has true enough is = absurd (none (next - 65536) (greatest_is enough) is)
        by_has false enough is = ap Anew (least_one (last + 65535) n least)

        by_test : (b : Bool) → nat_lt next 65536 ≡ b
            → Anew n ≡ (if b then Anew (next_with (last + 65535) serial) else (if has (next - 65536) then Repeat (next - 65536) else Anew (next_with (last + 65535) serial)))
        by_test true is = ap Anew (least_one (last + 65535) n least)
        by_test false is = by_has (has (next - 65536)) (ltb-false next 65536 is) refl

  module _ (rows : List Row) (id : ℕ) (body : List ℕ) where
    at_last : (last : Option ℕ) → last_of rows ≡ last → (v : Verdict) → VerdictOn rows serial id body v → v ≡ verdict_of last serial (has_row rows id body)
    at_last None is v verdict = by_kind v (subst (λ l. IsVerdict l (λ n. IsRow rows (record { number = n; id = id; body = body })) serial v) is verdict)
      where
        by_kind : (v : Verdict) → IsVerdict None (λ n. IsRow rows (record { number = n; id = id; body = body })) serial v → v ≡ New serial
        by_kind (New n) same = ap New same
        by_kind (Repeat n) same = absurd same
        by_kind (Anew n) same = absurd same
    at_last (Some last) is v verdict = by_kind v (subst (λ l. IsVerdict l (λ n. IsRow rows (record { number = n; id = id; body = body })) serial v) is verdict)
      where
        by_kind : (v : Verdict) → IsVerdict (Some last) (λ n. IsRow rows (record { number = n; id = id; body = body })) serial v → v ≡ verdict_of (Some last) serial (has_row rows id body)
        by_kind (New n) is = new_is last (has_row rows id body) n is.0 is.1
        by_kind (Repeat n) is = repeat_is last (has_row rows id body) n is.0 is.1 (row_tested rows id body n is.2)
        by_kind (Anew n) is = anew_is last (has_row rows id body) n is.0 (λ m greatest there. is.1 m greatest (row_found rows id body m there)) is.2

    pub one_verdict : (v : Verdict) → VerdictOn rows serial id body v → v ≡ verdict_of (last_of rows) serial (has_row rows id body)
    one_verdict = at_last (last_of rows) refl
