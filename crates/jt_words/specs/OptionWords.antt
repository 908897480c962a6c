-- How an option with a value is written: this project's own form. To be believed.
use Rattle.std.specs.Prelude.{◌≡◌, ◌⊎◌, ℕ, List, [], ◌∷◌, ◌++◌, codes}

-- `--name=value` in one word, or `--name` and `value` in two
abbrev pub IsOption : List ℕ → List ℕ → List (List ℕ) → Type 0
IsOption name value words = (words ≡ (codes "--" ++ (name ++ (codes "=" ++ value))) ∷ []) ⊎ (words ≡ (codes "--" ++ name) ∷ value ∷ [])

-- two options, the first one first, and no other word
pub record ArePair (first first_value second second_value : List ℕ) (words : List (List ℕ)) : Type 0 where
  pub front : List (List ℕ)
  pub back : List (List ℕ)
  pub whole : words ≡ front ++ back
  pub one : IsOption first first_value front
  pub other : IsOption second second_value back
