-- Changes in order of their numbers.
use Rattle.std.proofs.Common.{◌≡◌, ℕ, zero, suc, ◌+◌, ◌<◌, ◌≤◌, List, [], ◌∷◌, ◌++◌, Bool, true, false, cond, IsTrue, nat_lt, nat_le, arith, refl, sym, ◌∙◌, ap, subst, take, filter, length, ◌-◌, slice_get, Some, None}
use Rattle.std.specs.Prelude.{◌&&◌, not}
use Rattle.std.specs.Str.{bytes_eq}
use Rattle.std.proofs.lemmas.Slice.Eq.{bytes_eq-Decides}
use Rattle.std.proofs.lemmas.Bool.Decides.{nat_tests}
use Rattle.dewfelt_board.specs.declared.change.Change.{Change}
use Rattle.dewfelt_board.specs.Order.{are_rising, behind, count_of, last_of, without}
use Rattle.dewfelt_board.proofs.Counted.{count_apart, count_append, count_append_none, count_filter}

and_first : (a b : Bool) → IsTrue (a && b) → IsTrue a
and_first true b both = refl
and_first false b both = both

and_second : (a b : Bool) → IsTrue (a && b) → IsTrue b
and_second true b both = both
and_second false b both = absurd (cc)

and_both : (a b : Bool) → IsTrue a → IsTrue b → IsTrue (a && b)
and_both true b first second = second
and_both false b first second = first

below_of : (a b : ℕ) → IsTrue (nat_lt a b) → a < b
below_of a b test = grind (arith, nat_tests)

test_of : (a b : ℕ) → a < b → IsTrue (nat_lt a b)
test_of a b below = grind (arith, nat_tests)

within_of : (a b : ℕ) → IsTrue (nat_le a b) → a ≤ b
within_of a b test = grind (arith, nat_tests)

within_test : (a b : ℕ) → a ≤ b → IsTrue (nat_le a b)
within_test a b within = grind (arith, nat_tests)

test_fails : (a b : ℕ) → b ≤ a → nat_lt a b ≡ false
test_fails a b below = grind (arith, nat_tests)

-- the first of some changes that go up is above what they go up from
first_above : (low high : ℕ) (c : Change) (cs : List Change) → IsTrue (are_rising low (c ∷ cs) high) → low < c.number
first_above low high c cs rising = below_of low c.number (and_first (nat_lt low c.number) (are_rising c.number cs high) rising)

rest_rising : (low high : ℕ) (c : Change) (cs : List Change) → IsTrue (are_rising low (c ∷ cs) high) → IsTrue (are_rising c.number cs high)
rest_rising low high c cs rising = and_second (nat_lt low c.number) (are_rising c.number cs high) rising

cons_rising : (low high : ℕ) (c : Change) (cs : List Change) → low < c.number → IsTrue (are_rising c.number cs high) → IsTrue (are_rising low (c ∷ cs) high)
cons_rising low high c cs above rest = and_both (nat_lt low c.number) (are_rising c.number cs high) (test_of low c.number above) rest

-- what goes up from a number goes up from a lower one
pub rising_lower : (low mid high : ℕ) (cs : List Change) → low ≤ mid → IsTrue (are_rising mid cs high) → IsTrue (are_rising low cs high)
rising_lower low mid high [] below rising =
    let at_most : mid ≤ high = within_of mid high rising in
    within_test low high (omega arith)
rising_lower low mid high (c ∷ cs) below rising =
    let above : mid < c.number = first_above mid high c cs rising in
    cons_rising low high c cs (omega arith) (rest_rising mid high c cs rising)

-- what goes up to a number goes up to a higher one
pub rising_higher : (low high higher : ℕ) (cs : List Change) → high ≤ higher → IsTrue (are_rising low cs high) → IsTrue (are_rising low cs higher)
rising_higher low high higher [] below rising =
    let at_most : low ≤ high = within_of low high rising in
    within_test low higher (omega arith)
rising_higher low high higher (c ∷ cs) below rising =
    cons_rising low higher c cs (first_above low high c cs rising) (rising_higher c.number high higher cs below (rest_rising low high c cs rising))

-- with some left out they still go up
pub rising_filter : (test : Change → Bool) (low high : ℕ) (cs : List Change) → IsTrue (are_rising low cs high) → IsTrue (are_rising low (filter test cs) high)
rising_filter test low high [] rising = rising
rising_filter test low high (c ∷ cs) rising =
    let above : low < c.number = first_above low high c cs rising in
    let rest : IsTrue (are_rising c.number (filter test cs) high) = rising_filter test c.number high cs (rest_rising low high c cs rising) in
    elim (test c) as (λ kept. IsTrue (are_rising low (cond kept (c ∷ filter test cs) (filter test cs)) high)) [
      | true ↦ cons_rising low high c (filter test cs) above rest
      | false ↦ rising_lower low c.number high (filter test cs) (omega arith) rest
    ]

-- with one more at the end they still go up
pub rising_append : (low high : ℕ) (c : Change) (cs : List Change) → high < c.number → IsTrue (are_rising low cs high) → IsTrue (are_rising low (cs ++ c ∷ []) c.number)
rising_append low high c [] above rising =
    let at_most : low ≤ high = within_of low high rising in
    cons_rising low c.number c [] (omega arith) (within_test c.number c.number (omega arith))
rising_append low high c (x ∷ cs) above rising =
    cons_rising low c.number x (cs ++ c ∷ []) (first_above low high x cs rising) (rising_append x.number high c cs above (rest_rising low high x cs rising))

-- all that goes up from a number stands behind it
behind_all : (told low high : ℕ) (cs : List Change) → told ≤ low → IsTrue (are_rising low cs high) → behind told cs ≡ cs
behind_all told low high [] below rising = refl
behind_all told low high (c ∷ cs) below rising =
    let above : low < c.number = first_above low high c cs rising in
    let test : nat_lt told c.number ≡ true = test_of told c.number (omega arith) in
    let rest : behind told cs ≡ cs = behind_all told c.number high cs (omega arith) (rest_rising low high c cs rising) in
    rw (test, rest)

-- behind a higher number stands what stands behind it of what stands behind a lower one
behind_behind : (told later : ℕ) (cs : List Change) → told ≤ later → behind later cs ≡ behind later (behind told cs)
behind_behind told later [] below = refl
behind_behind told later (c ∷ cs) below =
    let rest : behind later cs ≡ behind later (behind told cs) = behind_behind told later cs below in
    elim (nat_lt told c.number) as (λ b. nat_lt told c.number ≡ b → behind later (c ∷ cs) ≡ behind later (cond b (c ∷ behind told cs) (behind told cs))) [
      | true ↦ λ is. elim (nat_lt later c.number) as (λ b. cond b (c ∷ behind later cs) (behind later cs) ≡ cond b (c ∷ behind later (behind told cs)) (behind later (behind told cs))) [ true ↦ ap (λ (ys : List Change). c ∷ ys) rest | false ↦ rest ]
      | false ↦ λ is.
          let low : nat_lt later c.number ≡ false = grind (arith, nat_tests, is) in
          rw low rest
    ] refl

-- the last of the first so many changes that go up is at least what they go up from
last_above : (low high limit : ℕ) (cs : List Change) → IsTrue (are_rising low cs high) → low ≤ last_of low (take limit cs)
last_above low high zero cs rising = omega arith
last_above low high (suc limit) [] rising = omega arith
last_above low high (suc limit) (c ∷ cs) rising =
    let above : low < c.number = first_above low high c cs rising in
    let rest : c.number ≤ last_of c.number (take limit cs) = last_above c.number high limit cs (rest_rising low high c cs rising) in
    omega arith

-- what goes up is its first so many and then what stands behind the last of these
split : (low high limit : ℕ) (cs : List Change) → IsTrue (are_rising low cs high) → cs ≡ take limit cs ++ behind (last_of low (take limit cs)) cs
split low high zero cs rising = sym (behind_all low low high cs (omega arith) rising)
split low high (suc limit) [] rising = refl
split low high (suc limit) (c ∷ cs) rising =
    let rest : IsTrue (are_rising c.number cs high) = rest_rising low high c cs rising in
    let last : ℕ = last_of c.number (take limit cs) in
    let above : c.number ≤ last_of c.number (take limit cs) = last_above c.number high limit cs rest in
    let passed : nat_lt (last_of c.number (take limit cs)) c.number ≡ false = test_fails (last_of c.number (take limit cs)) c.number above in
    rw passed (ap (λ (ys : List Change). c ∷ ys) (split c.number high limit cs rest))

-- what stands behind a number goes up from it
behind_rising : (told low high : ℕ) (cs : List Change) → told ≤ high → IsTrue (are_rising low cs high) → IsTrue (are_rising told (behind told cs) high)
behind_rising told low high [] within rising = within_test told high within
behind_rising told low high (c ∷ cs) within rising =
    let rest : IsTrue (are_rising c.number cs high) = rest_rising low high c cs rising in
    let some : IsTrue (are_rising c.number (behind told cs) high) = rising_filter (λ (x : Change). nat_lt told x.number) c.number high cs rest in
    let none : IsTrue (are_rising told (behind told cs) high) = behind_rising told c.number high cs within rest in
    elim (nat_lt told c.number) as (λ b. nat_lt told c.number ≡ b → IsTrue (are_rising told (cond b (c ∷ behind told cs) (behind told cs)) high)) [
      | true ↦ λ is. cons_rising told high c (behind told cs) (below_of told c.number is) some
      | false ↦ λ is. none
    ] refl

-- what is told by pages, one behind the other, is told once
pub pages : (told high limit : ℕ) (cs : List Change) → IsTrue (are_rising 0 cs high) → behind told cs ≡ take limit (behind told cs) ++ behind (last_of told (take limit (behind told cs))) cs
pages told high limit cs rising =
    let far : IsTrue (are_rising 0 cs (high + told)) = rising_higher 0 high (high + told) cs (omega arith) rising in
    let some : IsTrue (are_rising told (behind told cs) (high + told)) = behind_rising told 0 (high + told) cs (omega arith) far in
    let later : told ≤ last_of told (take limit (behind told cs)) = last_above told (high + told) limit (behind told cs) some in
    split told (high + told) limit (behind told cs) some
    ∙ ap (λ (ys : List Change). take limit (behind told cs) ++ ys) (sym (behind_behind told (last_of told (take limit (behind told cs))) cs later))

-- ---- each vehicle has one change

abbrev pub Once : List Change → Type 0
Once cs = (digits : List ℕ) → count_of digits cs ≤ 1

-- with one left out each has one at most
pub once_without : (digits : List ℕ) (cs : List Change) → Once cs → Once (without digits cs)
once_without digits cs once = λ q.
    let fewer : count_of q (without digits cs) ≤ count_of q cs = count_filter (λ (c : Change). bytes_eq c.digits q) (λ (c : Change). not (bytes_eq c.digits digits)) cs in
    omega (arith, fewer, once q)

gone : (digits : List ℕ) (cs : List Change) → count_of digits (without digits cs) ≡ 0
gone digits cs = count_apart (λ (c : Change). bytes_eq c.digits digits) (λ (c : Change). not (bytes_eq c.digits digits)) (λ c is. ap not is) cs

-- with its own in place of the one before
pub once_renewed : (told : Change) (cs : List Change) → Once cs → Once (without told.digits cs ++ told ∷ [])
once_renewed told cs once = λ q. by_test q (bytes_eq told.digits q) refl
  where
    by_test : (q : List ℕ) (b : Bool) → bytes_eq told.digits q ≡ b → count_of q (without told.digits cs ++ told ∷ []) ≤ 1
    by_test q true is =
        let none : count_of q (without told.digits cs) ≡ 0 = subst (λ k. count_of k (without told.digits cs) ≡ 0) ((bytes_eq-Decides told.digits q).0 is) (gone told.digits cs) in
        let one : count_of q (without told.digits cs ++ told ∷ []) ≤ count_of q (without told.digits cs) + 1 = count_append (λ (c : Change). bytes_eq c.digits q) told (without told.digits cs) in
        omega (arith, none, one)
    by_test q false is =
        let same : count_of q (without told.digits cs ++ told ∷ []) ≡ count_of q (without told.digits cs) = count_append_none (λ (c : Change). bytes_eq c.digits q) told (without told.digits cs) is in
        omega (arith, same, once_without told.digits cs once q)

-- ---- the last of some changes

last_at : (before : ℕ) (x : Change) (cs : List Change) (c : Change) → slice_get (x ∷ cs) (length cs) ≡ Some c → last_of before (x ∷ cs) ≡ c.number
last_at before x [] c found = let e : x ≡ c = cc in ap (λ (y : Change). y.number) e
last_at before x (y ∷ ys) c found = last_at x.number y ys c found

some_at : (x : Change) (cs : List Change) → slice_get (x ∷ cs) (length cs) ≡ None → ⊥
some_at x [] found = absurd cc
some_at x (y ∷ ys) found = some_at y ys found

one_less : (n : ℕ) → suc n - 1 ≡ n
one_less n = omega arith

pub last_found : (before : ℕ) (cs : List Change) (c : Change) → slice_get cs (length cs - 1) ≡ Some c → last_of before cs ≡ c.number
last_found before [] c found = absurd cc
last_found before (x ∷ cs) c found = last_at before x cs c (subst (λ n. slice_get (x ∷ cs) n ≡ Some c) (one_less (length cs)) found)

pub last_none : (before : ℕ) (cs : List Change) → slice_get cs (length cs - 1) ≡ None → last_of before cs ≡ before
last_none before [] none = refl
last_none before (x ∷ cs) none = absurd (some_at x cs (subst (λ n. slice_get (x ∷ cs) n ≡ None) (one_less (length cs)) none))
