-- The check octet of octets that are taken lane by lane.
use Rattle.std.proofs.Common.{◌≡◌, ℕ, ◌≤◌, List, [], ◌∷◌, length, take, drop, refl, sym, ap, ◌∙◌, arith, length-take-le}
use Rattle.std.specs.Prelude.{fold, bit_xor}
use Rattle.std.specs.Simd.Lanes.{zip2}
use Rattle.std.specs.Int.Bits.{xor_assoc, xor_zero_r}
use Rattle.std.proofs.lemmas.Nat.{xor_comm}
use Rattle.std.proofs.lemmas.List.{take-append-drop}
use Rattle.std.proofs.lemmas.List.Sums.{fold-append}
use Rattle.jt_escape.specs.Frame.{check_of}

-- a value that is taken first stands before all others
fold-first : (a b : ℕ) (xs : List ℕ) → fold bit_xor (bit_xor a b) xs ≡ bit_xor a (fold bit_xor b xs)
fold-first a b [] = refl
fold-first a b (x ∷ xs) = ap (λ (n : ℕ). fold bit_xor n xs) (xor_assoc a b x) ∙ fold-first a (bit_xor b x) xs

crossed : (a b x y : ℕ) → bit_xor (bit_xor a b) (bit_xor x y) ≡ bit_xor (bit_xor a x) (bit_xor b y)
crossed a b x y =
    xor_assoc a b (bit_xor x y) ∙ ap (bit_xor a) (sym (xor_assoc b x y) ∙ ap (λ (n : ℕ). bit_xor n y) (xor_comm b x) ∙ xor_assoc x b y)
    ∙ sym (xor_assoc a x (bit_xor b y))

-- two lists of as many lanes, lane by lane
fold-zip2 : (a b : ℕ) (xs ys : List ℕ) → length xs ≡ length ys → fold bit_xor (bit_xor a b) (zip2 bit_xor xs ys) ≡ bit_xor (fold bit_xor a xs) (fold bit_xor b ys)
fold-zip2 a b [] [] e = refl
fold-zip2 a b [] (y ∷ ys) e = absurd (omega (arith, e))
fold-zip2 a b (x ∷ xs) [] e = absurd (omega (arith, e))
fold-zip2 a b (x ∷ xs) (y ∷ ys) e =
    ap (λ (n : ℕ). fold bit_xor n (zip2 bit_xor xs ys)) (crossed a b x y) ∙ fold-zip2 (bit_xor a x) (bit_xor b y) xs ys (omega (arith, e))

-- one more row of lanes
one_row : (lanes left whole : List ℕ) → length lanes ≡ 16 → 16 ≤ length left → bit_xor (fold bit_xor 0 lanes) (check_of left) ≡ check_of whole
    → bit_xor (fold bit_xor 0 (zip2 bit_xor lanes (take 16 left))) (check_of (drop 16 left)) ≡ check_of whole
one_row lanes left whole long enough so_far =
    let row : List ℕ = take 16 left in
    let rest : List ℕ = drop 16 left in
    let rows : fold bit_xor 0 (zip2 bit_xor lanes row) ≡ bit_xor (fold bit_xor 0 lanes) (fold bit_xor 0 row) =
    fold-zip2 0 0 lanes row (omega (arith, long, length-take-le 16 left enough)) in
    let split : check_of left ≡ bit_xor (fold bit_xor 0 row) (fold bit_xor 0 rest) =
    ap check_of (sym (take-append-drop 16 left)) ∙ fold-append bit_xor 0 row rest
    ∙ ap (λ (n : ℕ). fold bit_xor n rest) (sym (xor_zero_r (fold bit_xor 0 row))) ∙ fold-first (fold bit_xor 0 row) 0 rest in
    ap (λ (n : ℕ). bit_xor n (check_of rest)) rows ∙ xor_assoc (fold bit_xor 0 lanes) (fold bit_xor 0 row) (check_of rest)
    ∙ ap (bit_xor (fold bit_xor 0 lanes)) (sym split) ∙ so_far

pub one_more : (lanes next left rest whole : List ℕ) → length lanes ≡ 16 → 16 ≤ length left → next ≡ zip2 bit_xor lanes (take 16 left) → rest ≡ drop 16 left
    → bit_xor (fold bit_xor 0 lanes) (check_of left) ≡ check_of whole → bit_xor (fold bit_xor 0 next) (check_of rest) ≡ check_of whole
one_more lanes next left rest whole long enough row_is rest_is so_far = rw (row_is, rest_is) (one_row lanes left whole long enough so_far)

-- the rows together, and then the octets that are left
pub all_rows : (lanes left whole : List ℕ) → bit_xor (fold bit_xor 0 lanes) (check_of left) ≡ check_of whole → fold bit_xor (fold bit_xor 0 lanes) left ≡ check_of whole
all_rows lanes left whole so_far =
    ap (λ (n : ℕ). fold bit_xor n left) (sym (xor_zero_r (fold bit_xor 0 lanes))) ∙ fold-first (fold bit_xor 0 lanes) 0 left ∙ so_far
