-- Rows that are read by pages (this project's own). To be believed, but for AddsFrom, a step for the proofs.
use Rattle.std.specs.Prelude.{◌≡◌, ◌+◌, ℕ, List, [], ◌∷◌, ◌++◌, Option, Some, None, filter, nat_le, take}
use Rattle.jt_store.specs.declared.row.Row.{Row}

-- the rows with numbers from this one on
abbrev pub rows_at : ℕ → List Row → List Row
rows_at from rows = filter (λ row. nat_le from row.number) rows

-- the number behind that of the last row of a page, and where the page began if it is empty
abbrev pub next_of : ℕ → List Row → ℕ
next_of from [] = from
next_of from (row ∷ page) = next_of (row.number + 1) page

-- pages of at most so many rows each, asked for from the number behind the one before
abbrev pub pages : List ℕ → ℕ → List Row → List Row
pages [] from rows = []
pages (most ∷ sizes) from rows = take most (rows_at from rows) ++ pages sizes (next_of from (take most (rows_at from rows))) rows

-- how many rows these pages have at most
abbrev pub room_of : List ℕ → ℕ
room_of [] = 0
room_of (most ∷ sizes) = most + room_of sizes

-- the first row from this number on, put at the end of a page
abbrev pub AddsFrom : List Row → ℕ → List Row → List Row → Option ℕ → Type 0
AddsFrom rows number old now None = (rows_at number rows ≡ []) × (now ≡ old)
AddsFrom rows number old now (Some next) = (row : Row) × (rows_at number rows ≡ row ∷ rows_at next rows) × (now ≡ old ++ row ∷ [])
