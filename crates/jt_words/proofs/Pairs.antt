-- Words in two parts.
use Rattle.jt_words.specs.OptionWords.{IsOption}
use Rattle.std.proofs.Common.{nat_eq, false, ◌⊎◌, inl, inr, refl, codes, ◌∷◌, ◌≡◌, ◌++◌, ◌+◌, ◌-◌, ℕ, List, [], length, map, take, drop, sym, ap, ◌∙◌, arith, append-nil, length-append}
use Rattle.std.proofs.Math.Seq.{drop-append_seam}
use Rattle.std.proofs.lemmas.List.{append_cancel_left, map-append, drop-map, take-append-drop, take_all, length-map, length-drop}

-- all that stands behind so many words
pub rest_is : {X : Type 0} (xs : List X) (count : ℕ) → take (length xs - count) (drop count xs) ≡ drop count xs
rest_is xs count = take_all (length xs - count) (drop count xs) (omega (arith, length-drop count xs))

-- what stands behind so many words as the front has
pub back_is : {X : Type 0} (f : X → List ℕ) (xs : List X) (front back : List (List ℕ)) (count : ℕ) → map f xs ≡ front ++ back → count ≡ length front
    → map f (take (length xs - count) (drop count xs)) ≡ back ++ []
back_is {X = X} f xs front back count whole same =
    ap (λ (ys : List X). map f ys) (rest_is xs count) ∙ sym (drop-map f count xs) ∙ ap (λ (ws : List (List ℕ)). drop count ws) whole
    ∙ ap (λ (n : ℕ). drop n (front ++ back)) same ∙ drop-append_seam front back ∙ sym (append-nil back)

-- as many of them as there are
pub all_rest : {X : Type 0} (xs : List X) (count rest : ℕ) → count + rest ≡ length xs → take rest (take (length xs - count) (drop count xs)) ≡ drop count xs
all_rest {X = X} xs count rest sum =
    ap (λ (ys : List X). take rest ys) (rest_is xs count) ∙ take_all rest (drop count xs) (omega (arith, length-drop count xs))

pub parted : {X : Type 0} (f : X → List ℕ) (xs : List X) (count : ℕ) → map f xs ≡ map f (take count xs) ++ map f (drop count xs)
parted {X = X} f xs count = ap (λ (ys : List X). map f ys) (sym (take-append-drop count xs)) ∙ map-append f (take count xs) (drop count xs)

pub both_lengths : {X : Type 0} (f : X → List ℕ) (xs : List X) (front back : List (List ℕ)) → map f xs ≡ front ++ back → length xs ≡ length front + length back
both_lengths f xs front back whole = sym (length-map xs f) ∙ ap (λ (ws : List (List ℕ)). length ws) whole ∙ length-append front back

-- the first word of an option, and how many words it has
pub option_head : (name value : List ℕ) (front back : List (List ℕ)) → IsOption name value front
    → (rest : List ℕ) × (tail : List (List ℕ)) × (front ++ back ≡ (codes "--" ++ (name ++ rest)) ∷ tail)
    × (((rest ≡ codes "=" ++ value) × (length front ≡ 1)) ⊎ ((rest ≡ []) × (tail ≡ value ∷ back) × (length front ≡ 2)))
option_head name value front back (inl one) = (codes "=" ++ value, back, ap (λ (ws : List (List ℕ)). ws ++ back) one, inl (refl, ap length one))
option_head name value front back (inr two) = (
  [],
  value ∷ back,
  ap (λ (ws : List (List ℕ)). ws ++ back) two ∙ ap (λ (t : List ℕ). (codes "--" ++ t) ∷ value ∷ back) (sym (append-nil name)),
  inr (refl, refl, ap length two),
)

tails : (rest value : List ℕ) (front back tail ws : List (List ℕ)) → (((rest ≡ codes "=" ++ value) × (length front ≡ 1)) ⊎ ((rest ≡ []) × (tail ≡ value ∷ back) × (length front ≡ 2)))
    → ws ≡ tail → (((rest ≡ codes "=" ++ value) × (length front ≡ 1)) ⊎ ((rest ≡ []) × (ws ≡ value ∷ back) × (length front ≡ 2)))
tails rest value front back tail ws (inl one) same = inl one
tails rest value front back tail ws (inr two) same = inr (two.0, same ∙ two.1, two.2)

-- words that begin with an option
pub first_is : {X : Type 0} (f : X → List ℕ) (xs : List X) (x : X) (others : List X) (name value : List ℕ) (front back : List (List ℕ))
    → xs ≡ x ∷ others → map f xs ≡ front ++ back → IsOption name value front
    → (rest : List ℕ) × (f x ≡ codes "--" ++ (name ++ rest))
    × (((rest ≡ codes "=" ++ value) × (length front ≡ 1)) ⊎ ((rest ≡ []) × (map f others ≡ value ∷ back) × (length front ≡ 2)))
first_is {X = X} f xs x others name value front back is whole option =
    let h = option_head name value front back option in
    let same : f x ∷ map f others ≡ (codes "--" ++ (name ++ h.0)) ∷ h.1 = sym (ap (λ (ys : List X). map f ys) is) ∙ whole ∙ h.2 in
    (h.0, cc same, tails h.0 value front back h.1 (map f others) h.3 (cc same))

-- what stands behind the name is one thing
pub rest_is_one : (name rest other : List ℕ) → codes "--" ++ (name ++ rest) ≡ codes "--" ++ (name ++ other) → rest ≡ other
rest_is_one name rest other same = append_cancel_left name rest other (append_cancel_left (codes "--") (name ++ rest) (name ++ other) same)

-- a rest that is not empty and has no sign of equality is no option's
pub no_value : (found rest value : List ℕ) (front back ws : List (List ℕ)) → found ≡ rest
    → (((rest ≡ codes "=" ++ value) × (length front ≡ 1)) ⊎ ((rest ≡ []) × (ws ≡ value ∷ back) × (length front ≡ 2)))
    → nat_eq (length found) 0 ≡ false → (found ≡ codes "=" ++ value → ⊥) → ⊥
no_value found rest value front back ws same (inl one) some none = none (same ∙ one.0)
no_value found rest value front back ws same (inr two) some none = let e = ap (λ (xs : List ℕ). nat_eq (length xs) 0) (same ∙ two.0) in cc

-- a rest with the sign of equality is the value's
pub one_value : (found rest value : List ℕ) (front back ws : List (List ℕ)) (told : List ℕ) → found ≡ rest
    → (((rest ≡ codes "=" ++ value) × (length front ≡ 1)) ⊎ ((rest ≡ []) × (ws ≡ value ∷ back) × (length front ≡ 2)))
    → found ≡ codes "=" ++ told → (told ≡ value) × (1 ≡ length front)
one_value found rest value front back ws told same (inl one) is =
    (append_cancel_left (codes "=") told value (sym is ∙ same ∙ one.0), sym one.1)
one_value found rest value front back ws told same (inr two) is = absurd (cc (sym is ∙ same ∙ two.0))
