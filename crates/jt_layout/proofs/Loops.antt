-- The steps of a loop that reads a list.
use Rattle.std.proofs.Common.{◌≡◌, ℕ, zero, suc, ◌+◌, ◌-◌, ◌<◌, ◌≤◌, ◌↔◌, Bool, true, false, IsTrue, cond, ltb, inl, inr, List, [], ◌∷◌, ◌++◌, length, Result, Ok, Err, refl, sym, ap, ◌∙◌, append_assoc, arith}
use Rattle.std.proofs.lemmas.Bool.{cases_lt, le-ltb, lt-ltb}
use Rattle.std.proofs.lemmas.List.{append-nil}
use Rattle.jt_value.specs.declared.refusal.Refusal.{Refusal}
use Rattle.jt_value.specs.declared.refusal.CodecError.{CodecError}
use Rattle.jt_value.specs.declared.refusal.CodecError.TheVariants as errors
use Rattle.jt_layout.specs.Layout.{◌>>=◌, Reading, read_all, read_to_the_end, read_times}
use Rattle.jt_layout.specs.Reading.{Fails}

-- ---- a number of times

-- what was read before, and what is still read
abbrev pub with_front_at : {A : Type 0} → List A → Result (List A × ℕ) Refusal → Result (List A × ℕ) Refusal
with_front_at front read = read >>= λ x. Ok (front ++ x.0, x.1)

-- front was read, and so many are left to read
pub record SoManyLeft {A : Type 0} (f : Reading A) (s : List ℕ) (front : List A) (left p : ℕ) (total : Result (List A × ℕ) Refusal) : Type 0 where
  pub is : with_front_at front (read_times f left s p) ≡ total

regroup_at : {A : Type 0} (front : List A) (a : A) (r : Result (List A × ℕ) Refusal) → with_front_at front (r >>= λ x. Ok (a ∷ x.0, x.1)) ≡ with_front_at (front ++ a ∷ []) r
regroup_at {A} front a (Ok x) = ap (λ (ys : List A). Ok (ys, x.1)) (sym (append_assoc front (a ∷ []) x.0))
regroup_at front a (Err d) = refl

same_at : {A : Type 0} (r : Result (List A × ℕ) Refusal) → with_front_at [] r ≡ r
same_at (Ok x) = refl
same_at (Err d) = refl

pub times_init : {A : Type 0} (f : Reading A) (s : List ℕ) (count p : ℕ) → SoManyLeft f s [] (count - 0) p (read_times f count s p)
times_init f s count p = let k : count - 0 ≡ count = omega arith in record { is = rw k (same_at (read_times f count s p)) }

pub times_step : {A : Type 0} (f : Reading A) (s : List ℕ) (front : List A) (count i p : ℕ) (a : A) (q : ℕ) (total : Result (List A × ℕ) Refusal) → i < count → f s p ≡ Ok (a, q) → SoManyLeft f s front (count - i) p total → SoManyLeft f s (front ++ a ∷ []) (count - (i + 1)) q total
unfolding read_times
times_step f s front count i p a q total lt e so_far =
    let k : count - i ≡ suc (count - (i + 1)) = omega arith in
    let one : with_front_at front (read_times f (count - i) s p) ≡ with_front_at (front ++ a ∷ []) (read_times f (count - (i + 1)) s q) = rw (k, e) (regroup_at front a (read_times f (count - (i + 1)) s q)) in
    record { is = sym one ∙ so_far.is }

pub times_fails : {A : Type 0} (f : Reading A) (s : List ℕ) (err : CodecError) (front : List A) (count i p : ℕ) (total : Result (List A × ℕ) Refusal) → i < count → Fails err (f s p) → SoManyLeft f s front (count - i) p total → Fails err total
unfolding read_times
times_fails f s errors.Memory front count i p total lt h so_far = tt
times_fails f s (errors.Refused r) front count i p total lt h so_far =
    let k : count - i ≡ suc (count - (i + 1)) = omega arith in
    let one : with_front_at front (read_times f (count - i) s p) ≡ Err r = rw (k, h) refl in
    sym so_far.is ∙ one

pub times_done : {A : Type 0} (f : Reading A) (s : List ℕ) (front : List A) (count i p : ℕ) (total : Result (List A × ℕ) Refusal) → count ≤ i → SoManyLeft f s front (count - i) p total → total ≡ Ok (front, p)
unfolding read_times
times_done {A} f s front count i p total le so_far =
    let k : count - i ≡ 0 = omega arith in
    let one : with_front_at front (read_times f (count - i) s p) ≡ Ok (front, p) = rw k (ap (λ (ys : List A). Ok (ys, p)) (append-nil front)) in
    sym so_far.is ∙ one

-- ---- up to the end

-- a test for the end that fails
pub more_left : (b : Bool) (p n : ℕ) → (IsTrue b ↔ (n ≤ p)) → b ≡ false → p < n
more_left b p n h e =
    elim (cases_lt p n) [
      | inl lt ↦ lt
      | inr ge ↦ absurd (let t = h.1 ge in cc)
    ]

abbrev pub with_front : {A : Type 0} → List A → Result (List A) Refusal → Result (List A) Refusal
with_front front read = read >>= λ xs. Ok (front ++ xs)

-- front was read up to p, and the rest is read up to the end
pub record RestLeft {A : Type 0} (f : Reading A) (s : List ℕ) (front : List A) (p : ℕ) (total : Result (List A) Refusal) : Type 0 where
  pub fuel : ℕ
  pub enough : length s ≤ p + fuel
  pub is : with_front front (read_all f fuel s p) ≡ total

regroup : {A : Type 0} (front : List A) (a : A) (r : Result (List A) Refusal) → with_front front (r >>= λ xs. Ok (a ∷ xs)) ≡ with_front (front ++ a ∷ []) r
regroup {A} front a (Ok xs) = ap (λ (ys : List A). Ok ys) (sym (append_assoc front (a ∷ []) xs))
regroup front a (Err d) = refl

same : {A : Type 0} (r : Result (List A) Refusal) → with_front [] r ≡ r
same (Ok x) = refl
same (Err d) = refl

pub all_init : {A : Type 0} (f : Reading A) (s : List ℕ) (p : ℕ) → RestLeft f s [] p (read_to_the_end f s p)
unfolding read_to_the_end
all_init f s p = record { fuel = length s - p; enough = omega arith; is = same (read_all f (length s - p) s p) }

pub all_step : {A : Type 0} (f : Reading A) (s : List ℕ) (front : List A) (p : ℕ) (a : A) (q : ℕ) (total : Result (List A) Refusal) → p < length s → p < q → f s p ≡ Ok (a, q) → RestLeft f s front p total → RestLeft f s (front ++ a ∷ []) q total
unfolding read_all
all_step f s front p a q total lt on e so_far =
    let enough = so_far.enough in
    let k : so_far.fuel ≡ suc (so_far.fuel - 1) = omega arith in
    let more : ltb p (length s) ≡ true = lt-ltb _ _ lt in
    let one : with_front front (read_all f (suc (so_far.fuel - 1)) s p) ≡ with_front (front ++ a ∷ []) (read_all f (so_far.fuel - 1) s q) = rw (more, e) (regroup front a (read_all f (so_far.fuel - 1) s q)) in
    record { fuel = so_far.fuel - 1; enough = omega arith; is = sym one ∙ ap (λ (n : ℕ). with_front front (read_all f n s p)) (sym k) ∙ so_far.is }

pub all_fails : {A : Type 0} (f : Reading A) (s : List ℕ) (err : CodecError) (front : List A) (p : ℕ) (total : Result (List A) Refusal) → p < length s → Fails err (f s p) → RestLeft f s front p total → Fails err total
unfolding read_all
all_fails f s errors.Memory front p total lt h so_far = tt
all_fails f s (errors.Refused r) front p total lt h so_far =
    let enough = so_far.enough in
    let k : so_far.fuel ≡ suc (so_far.fuel - 1) = omega arith in
    let more : ltb p (length s) ≡ true = lt-ltb _ _ lt in
    let one : with_front front (read_all f (suc (so_far.fuel - 1)) s p) ≡ Err r = rw (more, h) refl in
    sym so_far.is ∙ ap (λ (n : ℕ). with_front front (read_all f n s p)) k ∙ one

none_left : {A : Type 0} (f : Reading A) (s : List ℕ) (n p : ℕ) → length s ≤ p → read_all f n s p ≡ Ok []
unfolding read_all
none_left f s zero p le = refl
none_left f s (suc n) p le = let none : ltb p (length s) ≡ false = le-ltb _ _ le in rw none refl

pub all_done : {A : Type 0} (f : Reading A) (s : List ℕ) (front : List A) (p : ℕ) (total : Result (List A) Refusal) → length s ≤ p → RestLeft f s front p total → total ≡ Ok front
all_done {A} f s front p total le so_far =
    let one : with_front front (read_all f so_far.fuel s p) ≡ Ok front = rw (none_left f s so_far.fuel p le) (ap (λ (ys : List A). Ok ys) (append-nil front)) in
    sym so_far.is ∙ one

-- any fuel that is enough gives the same, where each element takes an octet or more
enough_step : {A : Type 0} (f : Reading A) (s : List ℕ) (n m p : ℕ) (r : Result (A × ℕ) Refusal) → f s p ≡ r → ((x : A × ℕ) → r ≡ Ok x → read_all f n s x.1 ≡ read_all f m s x.1) → (f s p >>= λ x. read_all f n s x.1 >>= λ xs. Ok (x.0 ∷ xs)) ≡ (f s p >>= λ x. read_all f m s x.1 >>= λ xs. Ok (x.0 ∷ xs))
enough_step {A} f s n m p (Ok x) e next = rw e (ap (λ (r : Result (List A) Refusal). r >>= λ xs. Ok (x.0 ∷ xs)) (next x refl))
enough_step f s n m p (Err d) e next = rw e refl

-- an element takes an octet or more
abbrev pub Grows : {A : Type 0} → Reading A → List ℕ → Type 0
Grows f s = (p : ℕ) (x : _ × ℕ) → f s p ≡ Ok x → p < x.1

pub all_enough : {A : Type 0} (f : Reading A) (s : List ℕ) → Grows f s → (n m p : ℕ) → length s ≤ p + n → length s ≤ p + m → read_all f n s p ≡ read_all f m s p
unfolding read_all
all_enough f s grows zero m p en em = sym (none_left f s m p (omega arith))
all_enough f s grows (suc n) zero p en em = none_left f s (suc n) p (omega arith)
all_enough {A} f s grows (suc n) (suc m) p en em =
    let inner = enough_step f s n m p (f s p) refl (λ x e. let on = grows p x e in all_enough f s grows n m x.1 (omega arith) (omega arith)) in
    ap (λ (r : Result (List A) Refusal). cond (ltb p (length s)) r (Ok [])) inner

-- the first of the elements, and those behind it
pub all_next : {A : Type 0} (f : Reading A) (s : List ℕ) → Grows f s → (p : ℕ) (a : A) (q : ℕ) → p < length s → f s p ≡ Ok (a, q) → read_to_the_end f s p ≡ (read_to_the_end f s q >>= λ xs. Ok (a ∷ xs))
unfolding read_to_the_end read_all
all_next f s grows p a q lt e =
    let k : length s - p ≡ suc (length s - p - 1) = omega arith in
    let more : ltb p (length s) ≡ true = lt-ltb _ _ lt in
    let on = grows p (a, q) e in
    let same = all_enough f s grows (length s - p - 1) (length s - q) q (omega arith) (omega arith) in
    rw (k, more, e, same) refl

pub all_none : {A : Type 0} (f : Reading A) (s : List ℕ) (p : ℕ) → length s ≤ p → read_to_the_end f s p ≡ Ok []
unfolding read_to_the_end
all_none f s p le = none_left f s (length s - p) p le

-- the first of the elements is refused
pub all_stops : {A : Type 0} (f : Reading A) (s : List ℕ) (p : ℕ) (r : Refusal) → p < length s → f s p ≡ Err r → read_to_the_end f s p ≡ Err r
unfolding read_to_the_end read_all
all_stops f s p r lt e =
    let k : length s - p ≡ suc (length s - p - 1) = omega arith in
    let more : ltb p (length s) ≡ true = lt-ltb _ _ lt in
    rw (k, more, e) refl
