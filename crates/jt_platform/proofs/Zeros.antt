use Rattle.std.proofs.Common.{◌≡◌, ◌≢◌, ℕ, List, [], ◌∷◌, ◌++◌, ◌==◌, ◌<◌, ◌≤◌, ◌+◌, ◌-◌, length, take, get_or, Bool, true, false, if◌then◌else◌, subst, refl}
use Rattle.std.proofs.lemmas.List.{take_more}
use native.Mathlib.Omega.{arith}
use Rattle.jt_store.specs.Tables.{IsTrimmed}
use Rattle.jt_platform.specs.History.{trim_zeros, end_trimmed}

pub trimmed_zero : (xs : List ℕ) → trim_zeros (xs ++ 0 ∷ []) ≡ trim_zeros xs
trimmed_zero [] = refl
trimmed_zero (x ∷ xs) = rw (trimmed_zero xs) refl

-- octets with something behind are kept whole
end-kept : (x : ℕ) (xs : List ℕ) (y : ℕ) → end_trimmed x (xs ++ y ∷ []) ≡ x ∷ (xs ++ y ∷ [])
end-kept x [] y = refl
end-kept x (z ∷ xs) y = refl

pub trimmed_other : (xs : List ℕ) (y : ℕ) → y ≢ 0 → trim_zeros (xs ++ y ∷ []) ≡ xs ++ y ∷ []
trimmed_other [] y other = grind (arith, other)
trimmed_other (x ∷ xs) y other = rw (trimmed_other xs y other) (end-kept x xs y)

-- no zero at the end of what is left
end-trimmed : (x : ℕ) (xs : List ℕ) → IsTrimmed xs → IsTrimmed (end_trimmed x xs)
end-trimmed x [] rest [] is = ends (x == 0) refl is
  where
    ends : (b : Bool) → (x == 0) ≡ b → (if b then [] else x ∷ []) ≡ 0 ∷ [] → ⊥
    ends true zero is = cc
    ends false zero is = grind (arith, zero, is)
end-trimmed x [] rest (f ∷ front) is = ends (x == 0) front is
  where
    ends : (b : Bool) (front : List ℕ) → (if b then [] else x ∷ []) ≡ f ∷ (front ++ 0 ∷ []) → ⊥
    ends true front is = cc
    ends false [] is = cc
    ends false (g ∷ front) is = cc
end-trimmed x (y ∷ xs) rest [] is = cc
end-trimmed x (y ∷ xs) rest (f ∷ front) is = rest front (tail is)
  where
    tail : x ∷ y ∷ xs ≡ f ∷ (front ++ 0 ∷ []) → y ∷ xs ≡ front ++ 0 ∷ []
    tail is = cc

pub trimmed_ends : (xs : List ℕ) → IsTrimmed (trim_zeros xs)
trimmed_ends [] [] is = cc
trimmed_ends [] (f ∷ front) is = cc
trimmed_ends (x ∷ xs) front is = end-trimmed x (trim_zeros xs) (trimmed_ends xs) front is

last_taken : (xs : List ℕ) (n : ℕ) → 0 < n → n ≤ length xs → take n xs ≡ take (n - 1) xs ++ get_or xs (n - 1) 0 ∷ []
last_taken xs n some room =
    let again : n - 1 + 1 ≡ n = omega (arith, some) in
    let within : n - 1 < length xs = omega (arith, some, room) in
    subst (λ m. take m xs ≡ take (n - 1) xs ++ get_or xs (n - 1) 0 ∷ []) again (take_more xs (n - 1) 0 within)

-- a zero at the end is left out
pub zero_left_out : (xs : List ℕ) (n : ℕ) → 0 < n → n ≤ length xs → get_or xs (n - 1) 0 ≡ 0 → trim_zeros (take n xs) ≡ trim_zeros (take (n - 1) xs)
zero_left_out xs n some room is = rw (last_taken xs n some room, is) (trimmed_zero (take (n - 1) xs))

-- another octet at the end is kept, with all before it
pub other_kept : (xs : List ℕ) (n : ℕ) → 0 < n → n ≤ length xs → get_or xs (n - 1) 0 ≢ 0 → trim_zeros (take n xs) ≡ take n xs
other_kept xs n some room other = rw (last_taken xs n some room) (trimmed_other (take (n - 1) xs) (get_or xs (n - 1) 0) other)

-- of no octets none are left
pub none_kept : (xs : List ℕ) (n : ℕ) → n ≤ 0 → trim_zeros (take n xs) ≡ take n xs
none_kept xs n none =
    let is : 0 ≡ n = omega (arith, none) in
    subst (λ m. trim_zeros (take m xs) ≡ take m xs) is refl
