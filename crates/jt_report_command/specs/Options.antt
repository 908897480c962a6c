-- The options of `report` and how they follow one another: this project's own. To be believed.
use Rattle.std.specs.Prelude.{◌≡◌, ◌⊎◌, ℕ, List, [], ◌∷◌, ◌++◌, codes, if◌then◌else◌}
use Rattle.std.specs.Str.{bytes_eq}
use Rattle.jt_words.specs.OptionWords.{IsOption}

-- the seven names
abbrev pub IsKnown : List ℕ → Type 0
IsKnown name =
    (name ≡ codes "host") ⊎ ((name ≡ codes "port") ⊎ ((name ≡ codes "phone") ⊎ ((name ≡ codes "plate")
    ⊎ ((name ≡ codes "terminal") ⊎ ((name ≡ codes "tries") ⊎ (name ≡ codes "edition"))))))

-- The words begin with this option, a name and a value, in one word or two, and these words stand behind it.
pub record BeginWith (option : List ℕ × List ℕ) (words back : List (List ℕ)) : Type 0 where
  pub front : List (List ℕ)
  pub whole : words ≡ front ++ back
  pub known : IsKnown option.0
  pub written : IsOption option.0 option.1 front

-- the words are these options, one behind the other
abbrev pub AreOptions : List (List ℕ × List ℕ) → List (List ℕ) → Type 0
AreOptions [] words = words ≡ []
AreOptions (option ∷ options) words = (back : List (List ℕ)) × BeginWith option words back × AreOptions options back

-- the values that options have under a name, in order
abbrev pub values_of : List ℕ → List (List ℕ × List ℕ) → List (List ℕ)
values_of name [] = []
values_of name (option ∷ options) = if bytes_eq option.0 name then option.1 ∷ values_of name options else values_of name options
