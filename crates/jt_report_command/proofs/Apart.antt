-- The names of options are told apart, and words begin with one option at most.
use Rattle.std.proofs.Common.{◌⊎◌, inl, inr, Bool, true, false, if◌then◌else◌, refl, codes, ◌==◌, ◌∷◌, ◌≡◌, ◌++◌, ◌<◌, ℕ, List, [], length, map, take, drop, sym, ap, subst, ◌∙◌, arith, append-nil}
use Rattle.std.proofs.Math.Seq.{drop-append_seam}
use Rattle.std.proofs.lemmas.List.{append_cancel_left, map-append, drop-map, take-append-drop}
use Rattle.jt_words.specs.OptionWords.{IsOption}
use Rattle.jt_report_command.specs.Options.{IsKnown}
use Rattle.jt_report_command.specs.Finding.{BeginsOne}

abbrev pub has_sign : List ℕ → Bool
has_sign [] = false
has_sign (octet ∷ more) = if octet == 61 then true else has_sign more

-- what stands behind the name in an option's first word
abbrev pub IsTail : List ℕ → Type 0
IsTail rest = (rest ≡ []) ⊎ ((value : List ℕ) × (rest ≡ 61 ∷ value))

other_case : (test rest : Bool) → (if test then true else rest) ≡ false → rest ≡ false
other_case true rest e = absurd (cc e)
other_case false rest e = e

sign_at : (octet : ℕ) (more value rest : List ℕ) → has_sign (octet ∷ more) ≡ false → 61 ∷ value ≡ octet ∷ rest → ⊥
sign_at octet more value rest none same =
    let e : octet ≡ 61 = cc same in
    let h : has_sign (61 ∷ more) ≡ false = subst (λ (o : ℕ). has_sign (o ∷ more) ≡ false) e none in cc h

-- names without the sign of equality are told apart by what begins with them
names_one : (name other rest tail : List ℕ) → has_sign name ≡ false → has_sign other ≡ false → IsTail rest → IsTail tail → name ++ rest ≡ other ++ tail → name ≡ other
names_one [] [] rest tail no_sign no_other is is_other same = refl
names_one [] (o ∷ os) rest tail no_sign no_other (inl e) is_other same = absurd (cc (e, same))
names_one [] (o ∷ os) rest tail no_sign no_other (inr e) is_other same = absurd (sign_at o os e.0 (os ++ tail) no_other (sym e.1 ∙ same))
names_one (n ∷ ns) [] rest tail no_sign no_other is (inl e) same = absurd (cc (e, same))
names_one (n ∷ ns) [] rest tail no_sign no_other is (inr e) same = absurd (sign_at n ns e.0 (ns ++ rest) no_sign (sym e.1 ∙ sym same))
names_one (n ∷ ns) (o ∷ os) rest tail no_sign no_other is is_other same =
    let first : n ≡ o = cc same in
    let more : ns ++ rest ≡ os ++ tail = cc same in
    let names : ns ≡ os = names_one ns os rest tail (other_case (n == 61) (has_sign ns) no_sign) (other_case (o == 61) (has_sign os) no_other) is is_other more in
    cc (first, names)

known_sign : (name : List ℕ) → IsKnown name → has_sign name ≡ false
known_sign name (inl e) = ap has_sign e
known_sign name (inr (inl e)) = ap has_sign e
known_sign name (inr (inr (inl e))) = ap has_sign e
known_sign name (inr (inr (inr (inl e)))) = ap has_sign e
known_sign name (inr (inr (inr (inr (inl e))))) = ap has_sign e
known_sign name (inr (inr (inr (inr (inr (inl e)))))) = ap has_sign e
known_sign name (inr (inr (inr (inr (inr (inr e)))))) = ap has_sign e

-- the first word of an option
option_head : (name value : List ℕ) (front : List (List ℕ)) → IsOption name value front
    → (rest : List ℕ) × (tail : List (List ℕ)) × (front ≡ (codes "--" ++ (name ++ rest)) ∷ tail) × IsTail rest
option_head name value front (inl one) = (codes "=" ++ value, [], one, inr (value, refl))
option_head name value front (inr two) =
    ([], value ∷ [], two ∙ ap (λ (t : List ℕ). (codes "--" ++ t) ∷ value ∷ []) (sym (append-nil name)), inl refl)

option_some : (name value : List ℕ) (front : List (List ℕ)) → IsOption name value front → 0 < length front
option_some name value front (inl one) = let e : length front ≡ 1 = ap length one in omega arith
option_some name value front (inr two) = let e : length front ≡ 2 = ap length two in omega arith

heads_same : (name rest other tail : List ℕ) (more behind : List (List ℕ))
    → (codes "--" ++ (name ++ rest)) ∷ more ≡ (codes "--" ++ (other ++ tail)) ∷ behind → name ++ rest ≡ other ++ tail
heads_same name rest other tail more behind same = append_cancel_left (codes "--") (name ++ rest) (other ++ tail) (cc same)

-- two options that words begin with have one name
pub same_name : (name value other told : List ℕ) (front back others behind : List (List ℕ)) → IsKnown name → IsKnown other
    → IsOption name value front → IsOption other told others → front ++ back ≡ others ++ behind → name ≡ other
same_name name value other told front back others behind known known_other option option_other same =
    let h = option_head name value front option in
    let k = option_head other told others option_other in
    names_one name other h.0 k.0 (known_sign name known) (known_sign other known_other) h.3 k.3
    (heads_same name h.0 other k.0 (h.1 ++ back) (k.1 ++ behind)
    (sym (ap (λ (ws : List (List ℕ)). ws ++ back) h.2) ∙ same ∙ ap (λ (ws : List (List ℕ)). ws ++ behind) k.2))

pair_same : (one other : List ℕ × List ℕ) → one.0 ≡ other.0 → one.1 ≡ other.1 → one ≡ other
pair_same one other first second = λ i. (first i, second i)

parted : {X : Type 0} (f : X → List ℕ) (xs : List X) (count : ℕ) → map f xs ≡ map f (take count xs) ++ map f (drop count xs)
parted {X = X} f xs count = ap (λ (ys : List X). map f ys) (sym (take-append-drop count xs)) ∙ map-append f (take count xs) (drop count xs)

-- what stands behind a front
back_is : {X : Type 0} (f : X → List ℕ) (xs : List X) (front back : List (List ℕ)) (count : ℕ) → map f xs ≡ front ++ back → count ≡ length front
    → back ≡ map f (drop count xs)
back_is {X = X} f xs front back count whole same =
    sym (drop-append_seam front back) ∙ ap (λ (n : ℕ). drop n (front ++ back)) (sym same) ∙ ap (λ (ws : List (List ℕ)). drop count ws) (sym whole) ∙ drop-map f count xs

-- words begin with an option that was found, and with no other
pub one_option : {X : Type 0} (f : X → List ℕ) (xs : List X) (name value : List ℕ) (count : ℕ) → IsKnown name → IsOption name value (map f (take count xs))
    → ((told : List ℕ) (front back : List (List ℕ)) → map f xs ≡ front ++ back → IsOption name told front → (value ≡ told) × (count ≡ length front))
    → (0 < count) × BeginsOne (name, value) (map f xs) (map f (drop count xs))
one_option f xs name value count known option each =
    let front = map f (take count xs) in
    let back = map f (drop count xs) in
    let some = option_some name value front option in
    let here = each value front back (parted f xs count) option in (
      omega (arith, some, here.1),
      record {
        begins = record { front = front; whole = parted f xs count; known = known; written = option };
        only = λ other behind b.
            let same : name ≡ other.0 = same_name name value other.0 other.1 front back b.front behind known b.known option b.written (sym (parted f xs count) ∙ b.whole) in
            let found = each other.1 b.front behind b.whole (subst (λ (n : List ℕ). IsOption n other.1 b.front) (sym same) b.written) in
            (pair_same other (name, value) (sym same) (sym found.0), back_is f xs b.front behind count b.whole found.1);
      },
    )
