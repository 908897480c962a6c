-- Lists by their last element.
use Rattle.std.proofs.Common.{◌≡◌, ◌⊎◌, List, [], ◌∷◌, ◌++◌, refl, ap, sym, ◌∙◌, inl, inr}
use Rattle.std.proofs.lemmas.List.{append_cancel_right}

abbrev last_or : {A : Type 0} → A → List A → A
last_or x [] = x
last_or x (y ∷ ys) = last_or y ys

last_push : {A : Type 0} (d : A) (xs : List A) (x : A) → last_or d (xs ++ x ∷ []) ≡ x
last_push d [] x = refl
last_push d (y ∷ ys) x = last_push y ys x

-- lists that end in one element each are the same where both parts are
pub same_ends : {A : Type 0} (xs ys : List A) (x y : A) → xs ++ x ∷ [] ≡ ys ++ y ∷ [] → (xs ≡ ys) × (x ≡ y)
same_ends {A} xs ys x y e = (append_cancel_right xs ys (y ∷ []) (ap (λ (z : A). xs ++ z ∷ []) (sym last) ∙ e), last)
  where
    last : x ≡ y
    last = sym (last_push x xs x) ∙ (ap (last_or x) e ∙ last_push x ys y)

-- a list is empty, or ends in an element
pub last_view : {A : Type 0} (xs : List A) → (xs ≡ []) ⊎ ((front : List A) × (x : A) × (xs ≡ front ++ x ∷ []))
last_view [] = inl refl
last_view {A} (y ∷ ys) = by (last_view ys)
  where
    by : (ys ≡ []) ⊎ ((front : List A) × (x : A) × (ys ≡ front ++ x ∷ [])) → (y ∷ ys ≡ []) ⊎ ((front : List A) × (x : A) × (y ∷ ys ≡ front ++ x ∷ []))
    by (inl e) = inr ([], y, ap (λ (l : List A). y ∷ l) e)
    by (inr (front, x, e)) = inr (y ∷ front, x, ap (λ (l : List A). y ∷ l) e)
