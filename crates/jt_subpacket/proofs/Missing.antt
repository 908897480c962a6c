-- How many numbers are missing, and what is missing or joined one number on.
use Rattle.std.proofs.Common.{◌≡◌, ℕ, zero, suc, ◌+◌, ◌≤◌, ◌<◌, Bool, true, false, cond, not, eqb, ◌||◌, List, [], ◌∷◌, ◌++◌, length, refl, sym, ap, ◌∙◌, arith, inl, inr}
use Rattle.std.specs.Prelude.{IsTrue}
use Rattle.std.specs.FinMap.{len, contains_key}
use Rattle.std.specs.List.{filter}
use Rattle.std.proofs.lemmas.Bool.{eqb-true, eq-eqb, ne_eqb, cases_eq}
use Rattle.std.proofs.lemmas.List.{length_push, append-nil, nil_from_length}
use Rattle.std.proofs.lemmas.List.Elements.{filter-append}
use Rattle.jt_subpacket.specs.Partials.{Partial, Pieces, numbers, missing}
use Rattle.jt_subpacket.specs.Steps.{IsPartial, has_beside, missing_beside}

one_more : (b : Bool) (xs : List ℕ) (x : ℕ) → xs ++ cond (not b) (x ∷ []) [] ≡ cond b xs (xs ++ x ∷ [])
one_more true xs x = append-nil xs
one_more false xs x = refl

-- what passes one number on
pub passing_more : (has : ℕ → Bool) (n : ℕ) → filter (λ x. not (has x)) (numbers (suc n)) ≡ cond (has (suc n)) (filter (λ x. not (has x)) (numbers n)) (filter (λ x. not (has x)) (numbers n) ++ suc n ∷ [])
passing_more has n = filter-append (λ x. not (has x)) (numbers n) (suc n ∷ []) ∙ one_more (has (suc n)) (filter (λ x. not (has x)) (numbers n)) (suc n)

-- ---- how many

length_more : (b : Bool) (xs : List ℕ) (x : ℕ) → length (cond b xs (xs ++ x ∷ [])) ≡ length xs + cond b 0 1
length_more true xs x = omega arith
length_more false xs x = length_push xs x

pub count_more : (has : ℕ → Bool) (n : ℕ) → length (filter (λ x. not (has x)) (numbers (suc n))) ≡ length (filter (λ x. not (has x)) (numbers n)) + cond (has (suc n)) 0 1
count_more has n = ap length (passing_more has n) ∙ length_more (has (suc n)) (filter (λ x. not (has x)) (numbers n)) (suc n)

-- a number above the total changes nothing
count_above : (m : Pieces) (number total : ℕ) → total < number → length (missing_beside total m number) ≡ length (missing total m)
count_above m number zero above = refl
count_above m number (suc n) above =
    let apart : has_beside m number (suc n) ≡ contains_key m (suc n) = ap (λ b. b || contains_key m (suc n)) (ne_eqb (suc n) number (λ e. absurd (omega arith))) in
    count_more (has_beside m number) n
    ∙ ap (λ b. length (missing_beside n m number) + cond b 0 1) apart
    ∙ ap (λ k. k + cond (contains_key m (suc n)) 0 1) (count_above m number n (omega arith))
    ∙ sym (count_more (contains_key m) n)

-- one number less is missing once a new one is there
pub count_beside : (m : Pieces) (number total : ℕ) → contains_key m number ≡ false → 1 ≤ number → number ≤ total → length (missing_beside total m number) + 1 ≡ length (missing total m)
count_beside m number zero none low high = absurd (omega arith)
count_beside m number (suc n) none low high =
    elim (cases_eq (suc n) number) [
      | inl same ↦
          let had : contains_key m (suc n) ≡ false = ap (contains_key m) same ∙ none in
          let there : has_beside m number (suc n) ≡ true = ap (λ b. b || contains_key m (suc n)) (eq-eqb (suc n) number same) in
          let a = count_more (has_beside m number) n ∙ ap (λ b. length (missing_beside n m number) + cond b 0 1) there in
          let b = count_more (contains_key m) n ∙ ap (λ b. length (missing n m) + cond b 0 1) had in
          omega (arith, a, b, count_above m number n (omega arith))
      | inr apart ↦
          let there : has_beside m number (suc n) ≡ contains_key m (suc n) = ap (λ b. b || contains_key m (suc n)) (ne_eqb (suc n) number apart) in
          let a = count_more (has_beside m number) n ∙ ap (λ b. length (missing_beside n m number) + cond b 0 1) there in
          let b = count_more (contains_key m) n in
          let more : number ≡ suc n → ⊥ = λ e. apart (sym e) in
          let below : number ≤ n = omega arith in
          omega (arith, a, b, count_beside m number n none low below)
    ]

-- nothing is new where octets stand under the number
pub same_beside : (m : Pieces) (number total : ℕ) → contains_key m number ≡ true → missing_beside total m number ≡ missing total m
same_beside m number total has = ap (λ (t : ℕ → Bool). filter t (numbers total)) (λ i other. not (same other i)) where
  same : (other : ℕ) → has_beside m number other ≡ contains_key m other
  same other = elim (cases_eq other number) [
    | inl e ↦ ap (λ b. b || contains_key m other) (eq-eqb other number e) ∙ sym (ap (contains_key m) e ∙ has)
    | inr e ↦ ap (λ b. b || contains_key m other) (ne_eqb other number e)
  ]

pub not_nil : (xs : List ℕ) → 0 < length xs → xs ≡ [] → ⊥
not_nil xs some e = absurd (omega (arith, ap length e))

-- ---- whether a packet completes its message

pub then_completed : (p : Partial) (number count total : ℕ) → IsPartial p → 1 ≤ number → number ≤ p.key.total → contains_key p.pieces number ≡ false → count ≡ len p.pieces → total ≡ p.key.total
    → (IsTrue (eqb (count + 1) total) → missing_beside p.key.total p.pieces number ≡ []) × (missing_beside p.key.total p.pieces number ≡ [] → IsTrue (eqb (count + 1) total))
then_completed p number count total kept low high none counted same =
    let less = count_beside p.pieces number p.key.total none low high in
    let whole = kept.count in (
      λ e. let is = eqb-true (count + 1) total e in nil_from_length (missing_beside p.key.total p.pieces number) (omega arith),
      λ e. let empty = ap length e in eq-eqb (count + 1) total (omega arith),
    )

pub else_completed : (p : Partial) (number : ℕ) (test : Bool) → IsPartial p → contains_key p.pieces number ≡ true → test ≡ false
    → (IsTrue test → missing_beside p.key.total p.pieces number ≡ []) × (missing_beside p.key.total p.pieces number ≡ [] → IsTrue test)
else_completed p number test kept has off =
    let whole = kept.count in
    let less = kept.unfinished in (
      λ e. absurd cc,
      λ e. absurd (not_nil (missing p.key.total p.pieces) (omega arith) (sym (same_beside p.pieces number p.key.total has) ∙ e)),
    )
