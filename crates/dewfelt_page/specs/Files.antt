-- The paths of the page's files.
use Rattle.std.specs.Prelude.{ℕ, Bool, List, [], ◌∷◌, codes}
use Rattle.std.specs.List.{list_any}
use Rattle.std.specs.Str.{bytes_eq}

-- the paths of the files
abbrev pub paths : List (List ℕ)
paths = codes "/" ∷ codes "/style.css" ∷ codes "/app.js" ∷ codes "/map.js" ∷ codes "/words.js" ∷ codes "/icon.svg" ∷ []

-- whether a file has this path
abbrev pub is_file : List ℕ → Bool
is_file path = list_any (λ file. bytes_eq file path) paths
