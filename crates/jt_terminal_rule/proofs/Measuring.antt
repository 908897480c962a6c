-- How many fixes a batch may carry, what it carries, and how long waits are.
use Rattle.std.proofs.Common.{ℕ, zero, suc, ◌≡◌, ◌<◌, ◌≤◌, ◌+◌, ◌*◌, ◌^◌, min, List, [], ◌∷◌, ◌++◌, length, take, drop, get_or, slice_get, Some, None, Bool, true, false, cond, refl, ap, sym, ◌∙◌, subst, arith}
use Rattle.std.specs.Prelude.{nat_le}
use Rattle.std.specs.List.{flat_map}
use Rattle.std.proofs.lemmas.List.{append-nil, append_assoc}
use Rattle.std.proofs.lemmas.Bool.{leb-true, leb-false}
use Rattle.jt_terminal_rule.specs.Forming.{in_batch, fitting_behind}
use Rattle.jt_value.specs.declared.limits.TheConstants.{BODY_LIMIT}
use Rattle.jt_terminal_rule.specs.Rule.{wait_behind}

-- ---- the fixes of a batch

next_is : (place : ℕ) → suc place ≡ place + 1
next_is place = omega arith

pub drop_from : {A : Type 0} (xs : List A) (place : ℕ) (x : A) → slice_get xs place ≡ Some x → drop place xs ≡ x ∷ drop (suc place) xs
drop_from [] zero x e = absurd cc
drop_from [] (suc place) x e = absurd cc
drop_from (y ∷ xs) zero x e = let same : y ≡ x = cc in ap (λ z. z ∷ xs) same
drop_from (y ∷ xs) (suc place) x e = drop_from xs place x e

pub drop_at : {A : Type 0} (xs : List A) (place : ℕ) (x : A) → slice_get xs place ≡ Some x → drop place xs ≡ x ∷ drop (place + 1) xs
drop_at xs place x e = drop_from xs place x e ∙ ap (λ n. x ∷ drop n xs) (next_is place)

pub drop_none : {A : Type 0} (xs : List A) (place : ℕ) → slice_get xs place ≡ None → drop place xs ≡ []
drop_none [] zero e = refl
drop_none [] (suc place) e = refl
drop_none (y ∷ xs) zero e = absurd cc
drop_none (y ∷ xs) (suc place) e = drop_none xs place e

pub take_upto : {A : Type 0} (xs : List A) (place : ℕ) (x : A) → slice_get xs place ≡ Some x → take (suc place) xs ≡ take place xs ++ x ∷ []
take_upto [] zero x e = absurd cc
take_upto [] (suc place) x e = absurd cc
take_upto (y ∷ xs) zero x e = let same : y ≡ x = cc in ap (λ z. z ∷ []) same
take_upto (y ∷ xs) (suc place) x e = ap (λ zs. y ∷ zs) (take_upto xs place x e)

pub take_at : {A : Type 0} (xs : List A) (place : ℕ) (x : A) → slice_get xs place ≡ Some x → take (place + 1) xs ≡ take place xs ++ x ∷ []
take_at xs place x e = sym (ap (λ n. take n xs) (next_is place)) ∙ take_upto xs place x e

pub get_at : {A : Type 0} (xs : List A) (place : ℕ) (x : A) → place < length xs → x ≡ get_or xs place x → slice_get xs place ≡ Some x
get_at [] place x lt is = absurd (omega (arith, lt))
get_at (y ∷ xs) zero x lt is = ap (λ z. Some z) (sym is)
get_at (y ∷ xs) (suc place) x lt is = get_at xs place x (omega (arith, lt)) is

by_room : (used : ℕ) (fix : List ℕ) (more : List (List ℕ)) (b : Bool) → nat_le (used + (2 + length fix)) BODY_LIMIT ≡ b
    → fitting_behind used (fix ∷ more) ≡ cond b (1 + fitting_behind (used + (2 + length fix)) more) 0
by_room used fix more b e = ap (λ (c : Bool). cond c (1 + fitting_behind (used + (2 + length fix)) more) 0) e

-- one fix more goes behind these octets
pub fits_one : (fixes : List (List ℕ)) (used place len : ℕ) (fix : List ℕ) → slice_get fixes place ≡ Some fix → len ≡ length fix → used + 2 + len ≤ 1023
    → fitting_behind used (drop place fixes) ≡ 1 + fitting_behind (used + 2 + len) (drop (place + 1) fixes)
fits_one fixes used place len fix e is le =
    let same : used + (2 + length fix) ≡ used + 2 + len = omega (arith, is) in
    ap (fitting_behind used) (drop_at fixes place fix e) ∙ (by_room used fix (drop (place + 1) fixes) true (within (used + (2 + length fix)) (omega (arith, le, is)))
    ∙ ap (λ (n : ℕ). 1 + fitting_behind n (drop (place + 1) fixes)) same)
  where
    within : (n : ℕ) → n ≤ 1023 → nat_le n 1023 ≡ true
    within n le = grind arith

-- none goes behind them
pub fits_none : (fixes : List (List ℕ)) (used place len : ℕ) (fix : List ℕ) → slice_get fixes place ≡ Some fix → len ≡ length fix → 1023 < used + 2 + len
    → fitting_behind used (drop place fixes) ≡ 0
fits_none fixes used place len fix e is lt =
    ap (fitting_behind used) (drop_at fixes place fix e) ∙ by_room used fix (drop (place + 1) fixes) false (beyond (used + (2 + length fix)) (omega (arith, lt, is)))
  where
    beyond : (n : ℕ) → 1023 < n → nat_le n 1023 ≡ false
    beyond n lt = grind arith

-- none is left
pub fits_end : (fixes : List (List ℕ)) (used place : ℕ) → slice_get fixes place ≡ None → fitting_behind used (drop place fixes) ≡ 0
fits_end fixes used place e = ap (fitting_behind used) (drop_none fixes place e)

flat_one : (fixes : List (List ℕ)) (fix : List ℕ) → flat_map in_batch (fixes ++ fix ∷ []) ≡ flat_map in_batch fixes ++ in_batch fix
flat_one [] fix = append-nil (in_batch fix)
flat_one (x ∷ fixes) fix = ap (λ (rest : List ℕ). in_batch x ++ rest) (flat_one fixes fix) ∙ sym (append_assoc (in_batch x) (flat_map in_batch fixes) (in_batch fix))

-- one fix more in a batch
pub batch_more : (fixes : List (List ℕ)) (place : ℕ) (fix : List ℕ) → slice_get fixes place ≡ Some fix → flat_map in_batch (take (place + 1) fixes) ≡ flat_map in_batch (take place fixes) ++ in_batch fix
batch_more fixes place fix e = ap (flat_map in_batch) (take_at fixes place fix e) ∙ flat_one (take place fixes) fix

-- ---- waits

-- a wait of 0 stays 0
pub wait_zero : (first count n : ℕ) → 1 ≤ count → count ≤ n → wait_behind first count ≡ 0 → wait_behind first n ≡ 0
wait_zero first count zero a b e = refl
wait_zero first count (suc zero) a b e = let same : count ≡ suc zero = omega (arith, a, b) in subst (λ (k : ℕ). wait_behind first k ≡ 0) same e
wait_zero first count (suc (suc k)) a b e = by (nat_le count (suc k)) refl (λ le. wait_zero first count (suc k) a le e)
  where
    by : (t : Bool) → nat_le count (suc k) ≡ t → (count ≤ suc k → wait_behind first (suc k) ≡ 0) → wait_behind first (suc (suc k)) ≡ 0
    by true is rest = ap (λ (w : ℕ). min (w * (k + 2)) (2 ^ 62)) (rest (leb-true count (suc k) is)) ∙ zeros (k + 2)
      where
        zeros : (m : ℕ) → min (0 * m) (2 ^ 62) ≡ 0
        zeros m = omega arith
    by false is rest = let past = leb-false count (suc k) is in let same : count ≡ suc (suc k) = omega (arith, past, b) in subst (λ (m : ℕ). wait_behind first m ≡ 0) same e

times_up : (w m : ℕ) → 2 ^ 62 ≤ w → min (w * (m + 2)) (2 ^ 62) ≡ 2 ^ 62
times_up w m le = grind arith

-- the wait behind one sending more than so many, at its longest, is the longest
pub wait_long : (first count n : ℕ) → 1 ≤ count → count < n → 2 ^ 62 ≤ wait_behind first count → wait_behind first n ≡ 2 ^ 62
wait_long first count zero a b le = absurd (omega (arith, b))
wait_long first count (suc zero) a b le = absurd (omega (arith, a, b))
wait_long first count (suc (suc k)) a b le = by (nat_le (suc k) count) refl (λ lt. wait_long first count (suc k) a lt le)
  where
    by : (t : Bool) → nat_le (suc k) count ≡ t → (count < suc k → wait_behind first (suc k) ≡ 2 ^ 62) → wait_behind first (suc (suc k)) ≡ 2 ^ 62
    by true is rest =
        let at = leb-true (suc k) count is in
        let same : count ≡ suc k = omega (arith, at, b) in
        times_up (wait_behind first (suc k)) k (subst (λ (m : ℕ). 2 ^ 62 ≤ wait_behind first m) same le)
    by false is rest =
        let past = leb-false (suc k) count is in
        let long = rest (omega (arith, past)) in
        times_up (wait_behind first (suc k)) k (omega (arith, long))

-- one sending more
pub wait_more : (first count : ℕ) → 1 ≤ count → wait_behind first (count + 1) ≡ min (wait_behind first count * (count + 1)) (2 ^ 62)
wait_more first zero a = absurd (omega (arith, a))
wait_more first (suc k) a = let two : suc k + 1 ≡ k + 2 = omega arith in let suc_is : suc k + 1 ≡ suc (suc k) = omega arith in ap (wait_behind first) suc_is ∙ ap (λ (m : ℕ). min (wait_behind first (suc k) * m) (2 ^ 62)) (sym two)
