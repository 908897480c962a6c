-- How many of a list pass a test.
use Rattle.std.proofs.Common.{◌≡◌, suc, ◌+◌, ◌≤◌, List, [], ◌∷◌, ◌++◌, Bool, true, false, cond, Some, None, length, arith, refl, sym, ◌∙◌, ap, filter, slice_get}
use Rattle.std.specs.Prelude.{find}
use Rattle.std.proofs.lemmas.Bool.{true≢false}

-- with some left out no more pass
pub count_filter : {X : Type 0} (test kept : X → Bool) (xs : List X) → length (filter test (filter kept xs)) ≤ length (filter test xs)
count_filter test kept [] = omega arith
count_filter {X} test kept (x ∷ xs) =
    let rest : length (filter test (filter kept xs)) ≤ length (filter test xs) = count_filter test kept xs in
    elim (kept x) as (λ b. length (filter test (cond b (x ∷ filter kept xs) (filter kept xs))) ≤ length (cond (test x) (x ∷ filter test xs) (filter test xs))) [
      | true ↦ elim (test x) as (λ t. length (cond t (x ∷ filter test (filter kept xs)) (filter test (filter kept xs))) ≤ length (cond t (x ∷ filter test xs) (filter test xs))) [
        | true ↦ let more : suc (length (filter test (filter kept xs))) ≤ suc (length (filter test xs)) = omega arith in more
        | false ↦ rest
      ]
      | false ↦ elim (test x) as (λ t. length (filter test (filter kept xs)) ≤ length (cond t (x ∷ filter test xs) (filter test xs))) [
        | true ↦ let more : length (filter test (filter kept xs)) ≤ suc (length (filter test xs)) = omega arith in more
        | false ↦ rest
      ]
    ]

-- with all left out that pass none passes
pub count_apart : {X : Type 0} (test kept : X → Bool) → ((x : X) → test x ≡ true → kept x ≡ false) → (xs : List X) → length (filter test (filter kept xs)) ≡ 0
count_apart test kept apart [] = refl
count_apart {X} test kept apart (x ∷ xs) = by_test (kept x) (test x) refl refl (count_apart test kept apart xs)
  where
    by_test : (k t : Bool) → kept x ≡ k → test x ≡ t → length (filter test (filter kept xs)) ≡ 0 → length (filter test (cond k (x ∷ filter kept xs) (filter kept xs))) ≡ 0
    by_test false t keeps passes rest = rest
    by_test true true keeps passes rest = absurd (true≢false (sym keeps ∙ apart x passes))
    by_test true false keeps passes rest = ap (λ b. length (cond b (x ∷ filter test (filter kept xs)) (filter test (filter kept xs)))) passes ∙ rest

-- with the first that passes left out fewer pass
pub count_filter_found : {X : Type 0} (test kept : X → Bool) (x : X) (xs : List X) → find test xs ≡ Some x → kept x ≡ false → length (filter test (filter kept xs)) + 1 ≤ length (filter test xs)
count_filter_found test kept x [] found out = absurd cc
count_filter_found {X} test kept x (y ∷ ys) found out =
    elim (test y) as (λ t. test y ≡ t → cond t (Some y) (find test ys) ≡ Some x → length (filter test (filter kept (y ∷ ys))) + 1 ≤ length (cond t (y ∷ filter test ys) (filter test ys))) [
      | true ↦ λ is same.
          let e : y ≡ x = cc in
          let dropped : kept y ≡ false = ap kept e ∙ out in
          let fewer : length (filter test (filter kept ys)) ≤ length (filter test ys) = count_filter test kept ys in
          let more : length (filter test (filter kept ys)) + 1 ≤ suc (length (filter test ys)) = omega arith in
          rw dropped more
      | false ↦ λ is later.
          let rest : length (filter test (filter kept ys)) + 1 ≤ length (filter test ys) = count_filter_found test kept x ys later out in
          elim (kept y) as (λ b. length (filter test (cond b (y ∷ filter kept ys) (filter kept ys))) + 1 ≤ length (filter test ys)) [
            | true ↦ rw is rest
            | false ↦ rest
          ]
    ] refl found

-- where none is found none passes
pub count_none : {X : Type 0} (test : X → Bool) (xs : List X) → find test xs ≡ None → length (filter test xs) ≡ 0
count_none test [] none = refl
count_none {X} test (y ∷ ys) none =
    elim (test y) as (λ t. cond t (Some y) (find test ys) ≡ None → length (cond t (y ∷ filter test ys) (filter test ys)) ≡ 0) [
      | true ↦ λ no. cc
      | false ↦ λ no. count_none test ys no
    ] none

-- with some left out the list is no longer
pub length_filter : {X : Type 0} (kept : X → Bool) (xs : List X) → length (filter kept xs) ≤ length xs
length_filter kept [] = omega arith
length_filter {X} kept (x ∷ xs) =
    let rest : length (filter kept xs) ≤ length xs = length_filter kept xs in
    elim (kept x) as (λ b. length (cond b (x ∷ filter kept xs) (filter kept xs)) ≤ suc (length xs)) [
      | true ↦ let more : suc (length (filter kept xs)) ≤ suc (length xs) = omega arith in more
      | false ↦ let more : length (filter kept xs) ≤ suc (length xs) = omega arith in more
    ]

-- with the first one left out the list is shorter
pub length_filter_first : {X : Type 0} (kept : X → Bool) (x : X) (xs : List X) → slice_get xs 0 ≡ Some x → kept x ≡ false → length (filter kept xs) + 1 ≤ length xs
length_filter_first kept x [] first out = absurd cc
length_filter_first {X} kept x (y ∷ ys) first out =
    let e : y ≡ x = cc in
    let dropped : kept y ≡ false = ap kept e ∙ out in
    let rest : length (filter kept ys) ≤ length ys = length_filter kept ys in
    let more : length (filter kept ys) + 1 ≤ suc (length ys) = omega arith in
    rw dropped more

-- one more at the end is one more at most
pub count_append : {X : Type 0} (test : X → Bool) (x : X) (xs : List X) → length (filter test (xs ++ x ∷ [])) ≤ length (filter test xs) + 1
count_append {X} test x [] =
    elim (test x) as (λ t. length (cond t (x ∷ []) []) ≤ 1) [ true ↦ omega arith | false ↦ omega arith ]
count_append {X} test x (y ∷ ys) =
    let rest : length (filter test (ys ++ x ∷ [])) ≤ length (filter test ys) + 1 = count_append test x ys in
    elim (test y) as (λ t. length (cond t (y ∷ filter test (ys ++ x ∷ [])) (filter test (ys ++ x ∷ []))) ≤ length (cond t (y ∷ filter test ys) (filter test ys)) + 1) [
      | true ↦ let more : suc (length (filter test (ys ++ x ∷ []))) ≤ suc (length (filter test ys)) + 1 = omega arith in more
      | false ↦ rest
    ]

-- one at the end that does not pass is none more
pub count_append_none : {X : Type 0} (test : X → Bool) (x : X) (xs : List X) → test x ≡ false → length (filter test (xs ++ x ∷ [])) ≡ length (filter test xs)
count_append_none {X} test x [] fails = rw fails refl
count_append_none {X} test x (y ∷ ys) fails =
    let rest : length (filter test (ys ++ x ∷ [])) ≡ length (filter test ys) = count_append_none test x ys fails in
    elim (test y) as (λ t. length (cond t (y ∷ filter test (ys ++ x ∷ [])) (filter test (ys ++ x ∷ []))) ≡ length (cond t (y ∷ filter test ys) (filter test ys))) [
      | true ↦ ap suc rest
      | false ↦ rest
    ]

-- where there is no first one there is none
pub length_none : {X : Type 0} (xs : List X) → slice_get xs 0 ≡ None → length xs ≡ 0
length_none [] none = refl
length_none (x ∷ xs) none = absurd cc
