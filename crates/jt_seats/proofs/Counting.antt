-- How many of a list pass a test, where one of them is set.
use Rattle.std.proofs.Common.{◌≡◌, ℕ, zero, suc, ◌+◌, ◌≤◌, List, [], ◌∷◌, Bool, true, false, cond, length, filter, map, get_or, set, arith, refl, ap, IsTrue, All, not, ◌<◌, ◌++◌, ◌∙◌, sym, take, drop, Option, Some, None, position, nat_lt}
use Rattle.std.specs.Prelude.{◌&&◌}
use Rattle.std.specs.List.{position_or_len}
use Rattle.std.proofs.lemmas.Bool.{ltb-true}
use Rattle.std.proofs.lemmas.List.{append-nil, drop_all, take_all}
use Rattle.std.proofs.lemmas.List.Edits.{map_over_more}
use Rattle.std.proofs.lemmas.List.Sums.{passes_at_first}
use Rattle.std.specs.Option.{is_none, is_some}
use Rattle.std.proofs.lemmas.List.Elements.{All-head, All-map, All-set, All-tail, All-weaker}
use Rattle.jt_seats.specs.declared.cut.Cut.TheVariants as cuts
use Rattle.jt_seats.specs.declared.seat.Seat.{Seat}
use Rattle.jt_seats.specs.Seats.{dismissed, ended, free, is_fair, is_phone, is_stranger}

-- to one that passes as the one before did
pub count_same : {X : Type 0} (test : X → Bool) (d y : X) (xs : List X) (i : ℕ) → test y ≡ test (get_or xs i d) → length (filter test (set xs i y)) ≡ length (filter test xs)
count_same test d y [] i same = refl
count_same {X} test d y (x ∷ xs) zero same =
    rw same (elim (test x) as (λ b. length (cond b (y ∷ filter test xs) (filter test xs)) ≡ length (cond b (x ∷ filter test xs) (filter test xs))) [ true ↦ refl | false ↦ refl ])
count_same {X} test d y (x ∷ xs) (suc i) same =
    let rest : length (filter test (set xs i y)) ≡ length (filter test xs) = count_same test d y xs i same in
    elim (test x) as (λ b. length (cond b (x ∷ filter test (set xs i y)) (filter test (set xs i y))) ≡ length (cond b (x ∷ filter test xs) (filter test xs))) [
      | true ↦ ap suc rest
      | false ↦ rest
    ]

-- to one that does not pass
pub count_fewer : {X : Type 0} (test : X → Bool) (y : X) (xs : List X) (i : ℕ) → test y ≡ false → length (filter test (set xs i y)) ≤ length (filter test xs)
count_fewer test y [] i fails = omega arith
count_fewer {X} test y (x ∷ xs) zero fails =
    rw fails (elim (test x) as (λ b. length (filter test xs) ≤ length (cond b (x ∷ filter test xs) (filter test xs))) [ true ↦ omega arith | false ↦ omega arith ])
count_fewer {X} test y (x ∷ xs) (suc i) fails =
    let rest : length (filter test (set xs i y)) ≤ length (filter test xs) = count_fewer test y xs i fails in
    elim (test x) as (λ b. length (cond b (x ∷ filter test (set xs i y)) (filter test (set xs i y))) ≤ length (cond b (x ∷ filter test xs) (filter test xs))) [
      | true ↦ let more : suc (length (filter test (set xs i y))) ≤ suc (length (filter test xs)) = omega arith in more
      | false ↦ rest
    ]

-- to any other
pub count_one_more : {X : Type 0} (test : X → Bool) (y : X) (xs : List X) (i : ℕ) → length (filter test (set xs i y)) ≤ length (filter test xs) + 1
count_one_more test y [] i = omega arith
count_one_more {X} test y (x ∷ xs) zero =
    elim (test y) as (λ a. length (cond a (y ∷ filter test xs) (filter test xs)) ≤ length (cond (test x) (x ∷ filter test xs) (filter test xs)) + 1) [
      | true ↦ elim (test x) as (λ b. suc (length (filter test xs)) ≤ length (cond b (x ∷ filter test xs) (filter test xs)) + 1) [ true ↦ omega arith | false ↦ omega arith ]
      | false ↦ elim (test x) as (λ b. length (filter test xs) ≤ length (cond b (x ∷ filter test xs) (filter test xs)) + 1) [ true ↦ omega arith | false ↦ omega arith ]
    ]
count_one_more {X} test y (x ∷ xs) (suc i) =
    let rest : length (filter test (set xs i y)) ≤ length (filter test xs) + 1 = count_one_more test y xs i in
    elim (test x) as (λ b. length (cond b (x ∷ filter test (set xs i y)) (filter test (set xs i y))) ≤ length (cond b (x ∷ filter test xs) (filter test xs)) + 1) [
      | true ↦ let more : suc (length (filter test (set xs i y))) ≤ suc (length (filter test xs)) + 1 = omega arith in more
      | false ↦ rest
    ]

-- where each becomes one that passes as it did
pub count_map : {X : Type 0} (test : X → Bool) (f : X → X) → ((x : X) → test (f x) ≡ test x) → (xs : List X) → length (filter test (map f xs)) ≡ length (filter test xs)
count_map test f same [] = refl
count_map {X} test f same (x ∷ xs) =
    let rest : length (filter test (map f xs)) ≡ length (filter test xs) = count_map test f same xs in
    rw same (elim (test x) as (λ b. length (cond b (f x ∷ filter test (map f xs)) (filter test (map f xs))) ≡ length (cond b (x ∷ filter test xs) (filter test xs))) [
      | true ↦ ap suc rest
      | false ↦ rest
    ])

-- The same of links.

-- a link becomes a stranger's only where it was one
pub strangers_same : (y : Seat) (xs : List Seat) (i : ℕ) → is_stranger y ≡ is_stranger (get_or xs i free) → length (filter is_stranger (set xs i y)) ≡ length (filter is_stranger xs)
strangers_same y xs i same = count_same is_stranger free y xs i same

-- somebody was let in on one
pub strangers_fewer : (y : Seat) (xs : List Seat) (i : ℕ) → is_none y.phone ≡ false → length (filter is_stranger (set xs i y)) ≤ length (filter is_stranger xs)
strangers_fewer y xs i known =
    let out : is_stranger y ≡ false = elim y.is_taken as (λ b. (b && is_none y.phone) ≡ false) [ true ↦ known | false ↦ refl ] in
    count_fewer is_stranger y xs i out

-- a place is free
pub strangers_fewer_free : (xs : List Seat) (i : ℕ) → length (filter is_stranger (set xs i free)) ≤ length (filter is_stranger xs)
strangers_fewer_free xs i = count_fewer is_stranger free xs i refl

-- a link more
pub strangers_one_more : (y : Seat) (xs : List Seat) (i : ℕ) → length (filter is_stranger (set xs i y)) ≤ length (filter is_stranger xs) + 1
strangers_one_more y xs i = count_one_more is_stranger y xs i

-- a place that there is none of stays so
pub set_beyond : {X : Type 0} (xs : List X) (i : ℕ) (y : X) → length xs ≤ i → set xs i y ≡ xs
set_beyond [] i y beyond = refl
set_beyond (x ∷ xs) zero y beyond = absurd (omega arith)
set_beyond (x ∷ xs) (suc i) y beyond = ap (λ l. x ∷ l) (set_beyond xs i y (omega arith))

-- all stay fair
pub fair_set : (xs : List Seat) (i : ℕ) (y : Seat) → IsTrue (is_fair y) → All (λ seat. IsTrue (is_fair seat)) xs → All (λ seat. IsTrue (is_fair seat)) (set xs i y)
fair_set xs i y fair all = All-set (λ seat. IsTrue (is_fair seat)) xs i y fair all

-- each is fair
pub fair_at : (xs : List Seat) (i : ℕ) → All (λ seat. IsTrue (is_fair seat)) xs → IsTrue (is_fair (get_or xs i free))
fair_at [] i all = refl
fair_at (x ∷ xs) zero all = All-head (λ seat. IsTrue (is_fair seat)) x xs all
fair_at (x ∷ xs) (suc i) all = fair_at xs i (All-tail (λ seat. IsTrue (is_fair seat)) x xs all)

-- what is read again of a list
again : (xs : List Seat) (i : ℕ) → get_or xs i free ≡ get_or xs i (get_or xs i free)
again [] i = refl
again (x ∷ xs) zero = refl
again (x ∷ xs) (suc i) = again xs i

-- who is dismissed is not by a rule for strangers
pub fair_one : (key : List ℕ) (seat : Seat) → IsTrue (is_fair seat) → IsTrue (is_fair (dismissed key seat))
fair_one key seat fair =
    elim (is_phone key seat.phone) as (λ b. IsTrue (is_fair (cond b (ended cuts.Dismissed seat) seat))) [
      | true ↦ elim (is_some seat.phone) as (λ s. IsTrue (not (s && false))) [ true ↦ refl | false ↦ refl ]
      | false ↦ fair
    ]

-- who is dismissed stays a stranger or none
stranger_dismissed : (key : List ℕ) (seat : Seat) → is_stranger (dismissed key seat) ≡ is_stranger seat
stranger_dismissed key seat =
    elim (is_phone key seat.phone) as (λ b. is_stranger (cond b (ended cuts.Dismissed seat) seat) ≡ is_stranger seat) [ true ↦ refl | false ↦ refl ]

pub strangers_dismissed : (key : List ℕ) (xs : List Seat) → length (filter is_stranger (map (dismissed key) xs)) ≡ length (filter is_stranger xs)
strangers_dismissed key xs = count_map is_stranger (dismissed key) (stranger_dismissed key) xs

-- one more is dismissed
pub dismissed_more : (key : List ℕ) (xs ys : List Seat) (i : ℕ) → i < length xs → ys ≡ map (dismissed key) (take i xs) ++ drop i xs → set ys i (dismissed key (get_or ys i free)) ≡ map (dismissed key) (take (i + 1) xs) ++ drop (i + 1) xs
dismissed_more key xs ys i inside so_far =
    let same : get_or ys i free ≡ get_or ys i (get_or ys i free) = again ys i in
    map_over_more (dismissed key) xs ys i (get_or ys i free) inside so_far same

-- all are
pub dismissed_all : (key : List ℕ) (xs ys : List Seat) (i : ℕ) → length xs ≤ i → ys ≡ map (dismissed key) (take i xs) ++ drop i xs → ys ≡ map (dismissed key) xs
dismissed_all key xs ys i whole so_far =
    so_far ∙ ap (λ l. map (dismissed key) l ++ drop i xs) (take_all i xs whole) ∙ ap (λ l. map (dismissed key) xs ++ l) (drop_all i xs whole) ∙ append-nil (map (dismissed key) xs)

-- the first free place
not_taken : (b : Bool) → not b ≡ true → b ≡ false
not_taken true e = absurd cc
not_taken false e = refl

pub free_found : (xs : List Seat) (i : ℕ) → position (λ (seat : Seat). not seat.is_taken) xs ≡ Some i → (i < length xs) × ((get_or xs i free).is_taken ≡ false)
free_found xs i found =
    let n = position_or_len (λ (seat : Seat). not seat.is_taken) xs in
    elim (nat_lt n (length xs)) as (λ b. nat_lt n (length xs) ≡ b → cond b (Some n) None ≡ Some i → (i < length xs) × ((get_or xs i free).is_taken ≡ false)) [
      | true ↦ λ e is.
          let same : n ≡ i = cc in
          let inside : n < length xs = ltb-true n (length xs) e in
          rw (sym same) (inside, not_taken (get_or xs n free).is_taken (passes_at_first (λ (seat : Seat). not seat.is_taken) xs free inside))
      | false ↦ λ e is. absurd cc
    ] refl found
