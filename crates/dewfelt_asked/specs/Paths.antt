-- Paths that want no token.
use Rattle.std.specs.Prelude.{ℕ, Bool, List, codes, ◌||◌}
use Rattle.std.specs.Str.{bytes_eq}
use Rattle.dewfelt_page.specs.Files.{is_file}

-- whether a path wants no token
abbrev pub is_open : List ℕ → Bool
is_open path = bytes_eq (codes "/healthz") path || (bytes_eq (codes "/readyz") path || is_file path)
