-- In which order vehicles changed, and what is told behind a number (this project's own). To be believed.
use Rattle.std.specs.Prelude.{ℕ, Bool, true, not, length, Option, None, Some, List, [], ◌∷◌, ◌&&◌, nat_lt, nat_le, filter, if◌then◌else◌}
use Rattle.std.specs.Str.{bytes_eq}
use Rattle.dewfelt_board.specs.declared.change.Change.{Change}
use Rattle.dewfelt_board.specs.declared.cursor.Cursor.{Cursor}

-- the numbers go up, from above low to at most high
abbrev pub are_rising : ℕ → List Change → ℕ → Bool
are_rising low [] high = nat_le low high
are_rising low (c ∷ changes) high = nat_lt low c.number && are_rising c.number changes high

-- the changes behind a number
abbrev pub behind : ℕ → List Change → List Change
behind told changes = filter (λ c. nat_lt told c.number) changes

-- the number of the last of some changes, where the one before them has this number
abbrev pub last_of : ℕ → List Change → ℕ
last_of before [] = before
last_of before (c ∷ changes) = last_of c.number changes

-- the changes without that of the vehicle of these digits
abbrev pub without : List ℕ → List Change → List Change
without digits changes = filter (λ c. not (bytes_eq c.digits digits)) changes

-- how many changes the vehicle of these digits has
abbrev pub count_of : List ℕ → List Change → ℕ
count_of digits changes = length (filter (λ c. bytes_eq c.digits digits) changes)

-- whether a cursor of this run still holds: no vehicle left since, and it is not ahead
abbrev pub stands : ℕ → ℕ → Cursor → Bool
stands left last cursor = nat_le left cursor.point && (nat_le cursor.point last && nat_le cursor.told last)

-- behind which number the reader of a cursor is told: behind none where it is told all anew
abbrev pub told_of : ℕ → ℕ → Option Cursor → ℕ
told_of left last None = 0
told_of left last (Some cursor) = if stands left last cursor then cursor.told else 0

-- the number of the last change when the reader of a cursor began to read
abbrev pub point_of : ℕ → ℕ → Option Cursor → ℕ
point_of left last None = last
point_of left last (Some cursor) = if stands left last cursor then cursor.point else last

-- whether the reader of a cursor is told all anew
abbrev pub is_anew : ℕ → ℕ → Option Cursor → Bool
is_anew left last None = true
is_anew left last (Some cursor) = not (stands left last cursor)
